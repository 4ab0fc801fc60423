use Rattle.std.proofs.Common.{ℕ, ◌≤◌, ◌+◌, ◌-◌, ◌*◌, ◌^◌, length, drop, inl, inr, subst, ◌∙◌, arith}
use Rattle.std.proofs.Math.Nat.{div-le_self}
use Rattle.vp_bytes.proofs.RangeSteps.{shifted, digit_goes, digit_fails, digit_short, digits_all, fault_is, no_fault}
use Rattle.vp_bytes.proofs.ranges.left_at_fault.Goals as goal
use Rattle.vp_bytes.proofs.ranges.left_at_fault.Goals.{then-loop-good-test+else-good-bytes, else-loop-good-test, then-loop-good-test+then-good-bytes+then-next-low, then-next-low-via-then-next-low, then-next-low-via-else-next-low+then-high-shift}

pub loop-good-preserved : goal.loop-good-preserved
loop-good-preserved c =
    let a = c.args in
    let l = c.loop-good in
    let above = subst (λ (q : ℕ). q ≤ l.front * 256 + c.from.result) (shifted a.low a.count l.good) c.if-next-low.false in
    let below = subst (λ (q : ℕ). l.front * 256 + c.from.result ≤ q) (shifted a.high a.count l.good) c.if-high-shift.false in
    let small = div-le_self a.high (256 ^ (a.count - (l.good + 1))) in
    let goes = digit_goes a.low a.high a.count l.good l.front a.bytes.now c.loop-good-test.true c.if-good-bytes.true (let f = c.type_inv.bytes l.good in omega arith) (rw (← c.from.ensures) above) (rw (← c.from.ensures) below) in
    (omega (arith, c.loop-good-test.true), omega (arith, c.if-good-bytes.true), omega (arith, below, small, c.requires.fits), rw c.from.ensures (l.invariant.3 ∙ goes))

pub returns : goal.returns
returns c =
    let a = c.args in
    let l = c.loop-good in
    elim c.loop-good-test.branch [
      | then-loop-good-test+else-good-bytes w ↦
          fault_is a.low a.high a.count (length a.bytes.now - l.good) a.bytes.now (l.invariant.3 ∙ digit_short a.low a.high a.count l.good l.front a.bytes.now w.loop-good-test.true (omega (arith, l.invariant.1, w.if-good-bytes.false)))
      | else-loop-good-test w ↦
          no_fault a.low a.high a.count l.front (drop l.good a.bytes.now) a.bytes.now _ (l.invariant.3 ∙ digits_all a.low a.high a.count l.good l.front a.bytes.now (omega (arith, l.invariant.0, w.loop-good-test.false)))
      | then-loop-good-test+then-good-bytes+then-next-low w ↦
          let fails = digit_fails a.low a.high a.count l.good l.front a.bytes.now w.loop-good-test.true w.if-good-bytes.true in
          fault_is a.low a.high a.count (length a.bytes.now - l.good) a.bytes.now (l.invariant.3 ∙ elim w.then-next-low.branch [
            | then-next-low-via-then-next-low v ↦ fails (inl (rw (← w.from.ensures, ← shifted a.low a.count l.good) v.if-next-low.true))
            | then-next-low-via-else-next-low+then-high-shift v ↦ fails (inr (rw (← w.from.ensures, ← shifted a.high a.count l.good) v.if-high-shift.true))
          ])
    ]
