use Rattle.std.proofs.Common.{◌≡◌, take}
use Rattle.vp_model.specs.Transactions.{writes_held}
use Rattle.vp_coordinator.proofs.final_writes.writes_held.Given as goal

abbrev pub invariant-loop-write : goal.invariant-loop-write
invariant-loop-write l = l.held.items ≡ writes_held l.catalog l.site (take l.write-index l.writes)
