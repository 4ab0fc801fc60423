use Rattle.std.proofs.Common.{◌≡◌, take, []}
use Rattle.vp_model.specs.Words.{for_each}
use Rattle.vp_audit.specs.Audited.{rows_at}
use Rattle.vp_audit.proofs.found.doubts_on.Given as goal

abbrev pub invariant-loop-part : goal.invariant-loop-part
invariant-loop-part l = l.rows ≡ for_each (take l.part-index l.parts) (rows_at l.rec) []
