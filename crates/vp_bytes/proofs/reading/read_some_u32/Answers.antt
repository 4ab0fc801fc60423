use Rattle.std.proofs.Common.{rules, true, arith}
use Rattle.vp_bytes.specs.Reading.{some_u32_at}
use Rattle.vp_bytes.proofs.Taken.{number_taken, number_short, number_none}
use Rattle.vp_bytes.proofs.reading.read_some_u32.Goals as goal

pub returns-then-rest-lt4-clause-read : goal.returns-then-rest-lt4-clause-read
unfolding some_u32_at
returns-then-rest-lt4-clause-read c = rw (← c.rest-rest.ensures) (number_short true 4 0 c.rest-rest.result.now (λ i. search rules) c.if-rest-lt4.true)

pub returns-then-number-eq0-clause-read : goal.returns-then-number-eq0-clause-read
unfolding some_u32_at
returns-then-number-eq0-clause-read c =
    rw (← c.rest-rest.ensures) (number_none 4 c.rest-rest.result.now _ (omega arith) c.if-rest-lt4.false (omega (arith, c.if-rest-lt4.false)) (omega (arith, c.read_u32-number.ensures, c.if-number-eq0.true)))

pub returns-clause-read : goal.returns-clause-read
unfolding some_u32_at
returns-clause-read c =
    rw (c.advance.ensures, ← c.rest-rest.ensures, c.read_u32-number.ensures) (number_taken true 4 (omega arith) c.rest-rest.result.now (λ i. search rules) c.if-rest-lt4.false (λ s. omega (arith, c.read_u32-number.ensures, c.if-number-eq0.false)))
