use Rattle.std.proofs.Common.{◌≤◌, ◌≡◌, ◌+◌}
use Rattle.vp_text.proofs.Repeats.{with_front}
use Rattle.vp_bytes.specs.Reading.{run_at}
use Rattle.vp_contents.specs.Tables.{weight_at}
use Rattle.vp_contents.proofs.tables.read_some_weights.Given as goal

abbrev pub invariant-loop-left : goal.invariant-loop-left
invariant-loop-left l = (1 ≤ l.least) × (l.left ≤ l.count) × (l.least + l.left ≤ 17) × (with_front l.shares.items (run_at (λ weight. weight.0) weight_at l.left l.least l.cursor) ≡ run_at (λ weight. weight.0) weight_at l.count 1 l.fn.cursor)

abbrev pub decreases-loop-left : goal.decreases-loop-left
decreases-loop-left l = l.left
