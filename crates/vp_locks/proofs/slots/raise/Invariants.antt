use Rattle.std.proofs.Common.{◌≡◌, take, fold, Some, true}
use Rattle.vp_model.specs.Types.{Lock}
use Rattle.vp_model.specs.Locks.{raised}
use Rattle.vp_locks.specs.Places.{revise_slot}
use Rattle.vp_locks.proofs.slots.raise.Given as goal

abbrev pub invariant-loop-place : goal.invariant-loop-place
invariant-loop-place l =
    l.slots ≡ fold (revise_slot (λ (lock : Lock). Some (raised l.rec true l.owner lock))) l.fn.slots (take l.place-index l.places)
