use Rattle.std.proofs.Common.{rules, false, arith}
use Rattle.std.proofs.lemmas.Bool.{false≢true}
use Rattle.vp_bytes.specs.Reading.{u64_at}
use Rattle.vp_bytes.proofs.Taken.{number_taken, number_short}
use Rattle.vp_bytes.proofs.reading.read_u64.Goals as goal

pub returns-then-rest-lt8 : goal.returns-then-rest-lt8
unfolding u64_at
returns-then-rest-lt8 c = rw (← c.rest-rest.ensures) (number_short false 8 0 c.rest-rest.result.now (λ i. search rules) c.if-rest-lt8.true)

pub returns : goal.returns
unfolding u64_at
returns c =
    let rest = c.rest-rest.result.now in
    rw (c.advance.ensures, ← c.rest-rest.ensures, c.read_u64.ensures) (number_taken false 8 (omega arith) rest (λ i. search rules) c.if-rest-lt8.false (λ s. absurd (false≢true s)))
