use Rattle.std.proofs.Common.{◌≡◌, ◌&&◌, take, false}
use Rattle.std.specs.List.{list_any}
use Rattle.vp_model.specs.Types.{Lock}
use Rattle.vp_model.specs.Words.{same_owner}
use Rattle.vp_locks.specs.Index.{exclusive_on}
use Rattle.vp_locks.specs.Places.{lock_at, passes}
use Rattle.vp_locks.proofs.is_among.Given as goal

abbrev pub invariant-loop-place : goal.invariant-loop-place
invariant-loop-place l =
    list_any (λ k. passes (λ (lock : Lock). exclusive_on lock l.rec && same_owner lock.owner l.owner) (lock_at l.slots k)) (take l.place-index l.places) ≡ false
