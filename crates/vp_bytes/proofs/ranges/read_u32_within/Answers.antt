use Rattle.std.proofs.Common.{rules, ℕ, ◌≡◌, IfErr, inl, inr, arith}
use Rattle.vp_bytes.specs.Ranges.{number_within_at}
use Rattle.vp_bytes.proofs.RangeTaken.{within_taken, outside_fault}
use Rattle.vp_bytes.proofs.ranges.read_u32_within.Goals as goal
use Rattle.vp_bytes.proofs.ranges.read_u32_within.Goals.{then-rest-ge4+else-low-number, else-low-number-via-then-low-number+else-number-high, else-low-number-via-else-low-number, else-rest-ge4}

pub returns-then-number-high-clause-read : goal.returns-then-number-high-clause-read
returns-then-number-high-clause-read c =
    let a = c.args in
    let number = c.read_u32-number in
    rw (c.advance.ensures, ← c.rest-rest.ensures, number.ensures) (within_taken 4 a.low a.high c.rest-rest.result.now (omega arith) c.requires (omega (arith, c.ranges.high)) (λ i. search rules) c.if-rest-ge4.true (omega (arith, number.ensures, c.if-low-number.true)) (omega (arith, number.ensures, c.if-number-high.true)))

pub returns-clause-read : goal.returns-clause-read
returns-clause-read c =
    let a = c.args in
    let fault : IfErr (number_within_at 4 a.low a.high c.rest-rest.result.now) (λ (m : ℕ). c.left_at_fault.result ≡ m) = rw (← c.from.ensures, ← c.from-2.ensures) c.left_at_fault.ensures in
    rw (← c.rest-rest.ensures) (outside_fault 4 a.low a.high c.left_at_fault.result c.rest-rest.result.now (omega arith) c.requires (omega (arith, c.ranges.high)) (λ i. search rules) (elim c.if-rest-ge4.branch [
      | then-rest-ge4+else-low-number w ↦
          elim w.else-low-number.branch [
            | else-low-number-via-then-low-number+else-number-high v ↦ inr (inr (omega (arith, w.read_u32-number.ensures, v.if-number-high.false)))
            | else-low-number-via-else-low-number v ↦ inr (inl (omega (arith, w.read_u32-number.ensures, v.if-low-number.false)))
          ]
      | else-rest-ge4 w ↦ inl w.if-rest-ge4.false
    ]) fault)
