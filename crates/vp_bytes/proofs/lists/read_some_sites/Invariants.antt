use Rattle.std.proofs.Common.{◌≤◌, ◌≡◌, ◌+◌}
use Rattle.vp_text.proofs.Repeats.{with_front}
use Rattle.vp_bytes.specs.Reading.{ascending_at, run_at}
use Rattle.vp_bytes.proofs.lists.read_some_sites.Given as goal

abbrev pub invariant-loop-left : goal.invariant-loop-left
invariant-loop-left l = (1 ≤ l.least) × (l.left ≤ l.count) × (l.least + l.left ≤ 17) × (with_front l.sites (run_at (λ c. c) (ascending_at 16) l.left l.least l.cursor) ≡ run_at (λ c. c) (ascending_at 16) l.count 1 l.fn.cursor)

abbrev pub decreases-loop-left : goal.decreases-loop-left
decreases-loop-left l = l.left
