use Rattle.std.proofs.Common.{◌≡◌, ◌++◌, take, drop, map, None}
use Rattle.std.specs.Option.{option_map_or}
use Rattle.vp_locks.specs.Index.{IsRecIndex, IsOwnerIndex}
use Rattle.vp_locks.specs.Places.{if_kept}
use Rattle.vp_locks.proofs.slots.sweep_all.Given as goal

abbrev pub invariant-loop-place : goal.invariant-loop-place
invariant-loop-place g l =
    (l.slots ≡ map (λ s. option_map_or (if_kept (g.K.Keeps.keeps l.kept)) s None) (take l.place l.fn.slots) ++ drop l.place l.fn.slots)
    × IsRecIndex l.by_rec l.slots × IsOwnerIndex l.by_owner.lists l.slots
