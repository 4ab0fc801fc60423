use Rattle.std.proofs.Common.{◌≡◌, take}
use Rattle.vp_model.specs.Transactions.{last_writes}
use Rattle.vp_coordinator.proofs.final_writes.last_writes.Given as goal

abbrev pub invariant-loop-op : goal.invariant-loop-op
invariant-loop-op l = l.writes.items ≡ last_writes (take l.op-index l.ops)
