use Rattle.std.proofs.Common.{◌≤◌, ◌≡◌, ◌+◌}
use Rattle.vp_text.proofs.Repeats.{with_front}
use Rattle.vp_bytes.specs.Reading.{ascending_at, run_at}
use Rattle.vp_bytes.proofs.lists.read_some_recs.Given as goal

abbrev pub invariant-loop-left : goal.invariant-loop-left
invariant-loop-left l = (l.left ≤ l.count) × (l.least + l.left ≤ 256) × (with_front l.recs (run_at (λ c. c) (ascending_at 255) l.left l.least l.cursor) ≡ run_at (λ c. c) (ascending_at 255) l.count 0 l.fn.cursor)

abbrev pub decreases-loop-left : goal.decreases-loop-left
decreases-loop-left l = l.left
