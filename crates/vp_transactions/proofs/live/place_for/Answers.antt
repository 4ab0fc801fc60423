use Rattle.std.proofs.Common.{◌+◌, ◌-◌, ◌/◌, ◌<◌, ◌≤◌, length, get_or, arith}
use Rattle.vp_transactions.specs.Order.{numbers}
use Rattle.vp_transactions.proofs.Order.{lower_half, upper_half}
use Rattle.vp_transactions.proofs.live.place_for.Goals as goal

pub loop-low-preserved-then-number_at-number : goal.loop-low-preserved-then-number_at-number
loop-low-preserved-then-number_at-number c =
    let middle = c.loop-low.low + (c.loop-low.high - c.loop-low.low) / 2 in
    let least : c.loop-low.low ≤ middle = omega arith in
    let under : middle < c.loop-low.high = omega (arith, c.loop-low-test.true) in
    let within : middle < length (numbers c.args.live.now) = omega (arith, under, c.loop-low.invariant.1) in
    let lower : get_or (numbers c.args.live.now) middle 0 < c.args.number = omega (arith, c.number_at.ensures, c.if-number_at-number.true) in (
      omega (arith, under),
      c.loop-low.invariant.1,
      lower_half (numbers c.args.live.now) c.requires c.args.number middle within lower,
      c.loop-low.invariant.3,
    )

pub loop-low-preserved : goal.loop-low-preserved
loop-low-preserved c =
    let middle = c.loop-low.low + (c.loop-low.high - c.loop-low.low) / 2 in
    let least : c.loop-low.low ≤ middle = omega arith in
    let under : middle < c.loop-low.high = omega (arith, c.loop-low-test.true) in
    let within : middle < length (numbers c.args.live.now) = omega (arith, under, c.loop-low.invariant.1) in
    let upper : c.args.number ≤ get_or (numbers c.args.live.now) middle 0 = omega (arith, c.number_at.ensures, c.if-number_at-number.false) in (
      least,
      omega (arith, within),
      c.loop-low.invariant.2,
      upper_half (numbers c.args.live.now) c.requires c.args.number middle within upper,
    )
