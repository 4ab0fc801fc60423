use Rattle.std.proofs.Common.{◌≡◌, take, fold}
use Rattle.vp_locks.specs.Index.{IsRecIndex}
use Rattle.vp_locks.specs.Places.{revise_slot, if_kept}
use Rattle.vp_locks.proofs.slots.sweep.Given as goal

abbrev pub invariant-loop-place : goal.invariant-loop-place
invariant-loop-place g l =
    (l.slots ≡ fold (revise_slot (if_kept (g.K.Keeps.keeps l.kept))) l.fn.slots (take l.place-index l.places))
    × IsRecIndex l.by_rec l.slots
