use Rattle.std.proofs.Common.{◌≡◌, ◌≤◌, drop, length, Err}
use Rattle.vp_text.specs.Reading.{either}
use Rattle.vp_schedule.specs.Kinds.{kind_at}
use Rattle.vp_schedule.proofs.kind.parse_kind.Given as goal

abbrev pub invariant-loop-kind : goal.invariant-loop-kind
invariant-loop-kind l = (l.fault.left ≤ length l.cursor) × (l.cursor ≡ l.fn.cursor) × (either (Err l.fault.left) (kind_at (drop l.kind-index l.kinds) l.cursor) ≡ kind_at l.kinds l.fn.cursor)
