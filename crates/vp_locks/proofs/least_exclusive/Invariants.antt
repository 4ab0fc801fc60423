use Rattle.std.proofs.Common.{◌≡◌, take, fold, None}
use Rattle.vp_locks.proofs.Indexes.{least_step}
use Rattle.vp_locks.proofs.least_exclusive.Given as goal

abbrev pub invariant-loop-place : goal.invariant-loop-place
invariant-loop-place l = l.best ≡ fold (least_step l.rec l.owner l.slots) None (take l.place-index l.places)
