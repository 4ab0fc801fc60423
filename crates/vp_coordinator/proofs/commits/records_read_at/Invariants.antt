use Rattle.std.proofs.Common.{◌≡◌, take}
use Rattle.vp_model.specs.Calls.{records_read_at}
use Rattle.vp_coordinator.proofs.commits.records_read_at.Given as goal

abbrev pub invariant-loop-asked : goal.invariant-loop-asked
invariant-loop-asked l = l.recs.items ≡ records_read_at l.site (take l.asked-index l.remote)
