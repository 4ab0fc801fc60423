use Rattle.std.proofs.Common.{rules, ℕ, ◌≡◌, IfErr, inl, inr, arith}
use Rattle.vp_bytes.specs.Ranges.{number_within_at}
use Rattle.vp_bytes.proofs.RangeTaken.{within_taken, outside_fault}
use Rattle.vp_bytes.proofs.ranges.read_u16_within.Goals as goal
use Rattle.vp_bytes.proofs.ranges.read_u16_within.Goals.{then-rest-ge2+else-low-number, else-low-number-via-then-low-number+else-number-high, else-low-number-via-else-low-number, else-rest-ge2}

pub returns-then-number-high-clause-read : goal.returns-then-number-high-clause-read
returns-then-number-high-clause-read c =
    let a = c.args in
    let number = c.read_u16-number in
    rw (c.advance.ensures, ← c.rest-rest.ensures, number.ensures) (within_taken 2 a.low a.high c.rest-rest.result.now (omega arith) c.requires (omega (arith, c.ranges.high)) (λ i. search rules) c.if-rest-ge2.true (omega (arith, number.ensures, c.if-low-number.true)) (omega (arith, number.ensures, c.if-number-high.true)))

pub returns-clause-read : goal.returns-clause-read
returns-clause-read c =
    let a = c.args in
    let fault : IfErr (number_within_at 2 a.low a.high c.rest-rest.result.now) (λ (m : ℕ). c.left_at_fault.result ≡ m) = rw (← c.from.ensures, ← c.from-2.ensures) c.left_at_fault.ensures in
    rw (← c.rest-rest.ensures) (outside_fault 2 a.low a.high c.left_at_fault.result c.rest-rest.result.now (omega arith) c.requires (omega (arith, c.ranges.high)) (λ i. search rules) (elim c.if-rest-ge2.branch [
      | then-rest-ge2+else-low-number w ↦
          elim w.else-low-number.branch [
            | else-low-number-via-then-low-number+else-number-high v ↦ inr (inr (omega (arith, w.read_u16-number.ensures, v.if-number-high.false)))
            | else-low-number-via-else-low-number v ↦ inr (inl (omega (arith, w.read_u16-number.ensures, v.if-low-number.false)))
          ]
      | else-rest-ge2 w ↦ inl w.if-rest-ge2.false
    ]) fault)
