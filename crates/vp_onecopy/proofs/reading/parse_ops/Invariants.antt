use Rattle.std.proofs.Common.{◌≡◌, ◌≤◌, ◌+◌, ◌-◌, suc, length}
use Rattle.vp_text.proofs.Repeats.{with_front}
use Rattle.vp_onecopy.specs.Reading.{ops_at}
use Rattle.vp_onecopy.proofs.reading.parse_ops.Given as goal

abbrev pub invariant-loop-ops : goal.invariant-loop-ops
invariant-loop-ops l = (length l.ops.items + length l.cursor ≤ length l.fn.cursor) × (with_front l.ops.items (ops_at l.names (suc (length l.fn.cursor - length l.ops.items)) l.cursor) ≡ ops_at l.names (suc (length l.fn.cursor)) l.fn.cursor)

abbrev pub decreases-loop-ops : goal.decreases-loop-ops
decreases-loop-ops l = length l.cursor
