use Rattle.std.proofs.Common.{◌≡◌, take, fold, None}
use Rattle.vp_audit.proofs.Walked.{any_step}
use Rattle.vp_audit.proofs.found.newest_copy.Given as goal

abbrev pub invariant-loop-part : goal.invariant-loop-part
invariant-loop-part l = l.newest ≡ fold (any_step l.rec) None (take l.part-index l.parts)
