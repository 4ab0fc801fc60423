use Rattle.std.proofs.Common.{rules, false, arith}
use Rattle.std.proofs.lemmas.Bool.{false≢true}
use Rattle.vp_bytes.specs.Reading.{u32_at}
use Rattle.vp_bytes.proofs.Taken.{number_taken, number_short}
use Rattle.vp_bytes.proofs.reading.read_u32.Goals as goal

pub returns-then-rest-lt4 : goal.returns-then-rest-lt4
unfolding u32_at
returns-then-rest-lt4 c = rw (← c.rest-rest.ensures) (number_short false 4 0 c.rest-rest.result.now (λ i. search rules) c.if-rest-lt4.true)

pub returns : goal.returns
unfolding u32_at
returns c =
    let rest = c.rest-rest.result.now in
    rw (c.advance.ensures, ← c.rest-rest.ensures, c.read_u32.ensures) (number_taken false 4 (omega arith) rest (λ i. search rules) c.if-rest-lt4.false (λ s. absurd (false≢true s)))
