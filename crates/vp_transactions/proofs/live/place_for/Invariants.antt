use Rattle.std.proofs.Common.{◌≤◌, ◌<◌, ◌-◌, ℕ, length, slice_index_or}
use Rattle.vp_transactions.specs.Order.{numbers}
use Rattle.vp_transactions.proofs.live.place_for.Given as goal

-- those before `low` have lower numbers, and those from `high` on have not
abbrev pub invariant-loop-low : goal.invariant-loop-low
invariant-loop-low l =
    (l.low ≤ l.high) × (l.high ≤ length (numbers l.live))
    × ((k : ℕ) → k < l.low → slice_index_or (numbers l.live) k 0 < l.number)
    × ((k : ℕ) → l.high ≤ k → k < length (numbers l.live) → l.number ≤ slice_index_or (numbers l.live) k 0)

abbrev pub decreases-loop-low : goal.decreases-loop-low
decreases-loop-low l = l.high - l.low
