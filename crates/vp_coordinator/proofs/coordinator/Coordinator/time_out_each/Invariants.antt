use Rattle.std.proofs.Common.{◌≡◌, take, drop}
use Rattle.vp_model.specs.Words.{for_each}
use Rattle.vp_coordinator.specs.Ends.{timed_out}
use Rattle.vp_coordinator.proofs.coordinator.Coordinator.time_out_each.Given as goal

abbrev pub invariant-loop-t : goal.invariant-loop-t
invariant-loop-t l =
    (l.self ≡ for_each (take l.t-index l.fn.late) (timed_out l.id) l.initial.self) × (drop l.t-index l.late ≡ drop l.t-index l.fn.late)
