use Rattle.std.proofs.Common.{◌-◌, ◌≡◌, ◌≤◌, ◌<◌, ◌^◌, drop, length}
use Rattle.vp_bytes.specs.Ranges.{digits_within_at}
use Rattle.vp_bytes.proofs.ranges.left_at_fault.Given as goal

abbrev pub invariant-loop-good : goal.invariant-loop-good
invariant-loop-good l = (l.good ≤ l.count) × (l.good ≤ length l.bytes) × (l.front < 256 ^ 4) × (digits_within_at l.low l.high l.count 0 l.bytes ≡ digits_within_at l.low l.high (l.count - l.good) l.front (drop l.good l.bytes))

abbrev pub decreases-loop-good : goal.decreases-loop-good
decreases-loop-good l = l.count - l.good
