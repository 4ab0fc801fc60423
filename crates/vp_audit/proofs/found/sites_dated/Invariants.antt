use Rattle.std.proofs.Common.{◌≡◌, take, fold, []}
use Rattle.vp_audit.proofs.Walked.{sites_step}
use Rattle.vp_audit.proofs.found.sites_dated.Given as goal

abbrev pub invariant-loop-part : goal.invariant-loop-part
invariant-loop-part l = l.sites ≡ fold (sites_step l.newest l.rec) [] (take l.part-index l.parts)
