-- A transaction that was closed because of a lock at another site answers a higher number with its end.
use Rattle.std.specs.Prelude.{[], ◌∷◌, codes}
use Rattle.vp_model.specs.Types.call
use Rattle.vp_model.specs.Types.event
use Rattle.vp_model.specs.World.{Schedule}
use Rattle.vp_model.specs.Worked.{txn, stored}

abbrev pub schedule : Schedule
schedule = record {
  catalogue = record { sites = ((1, 7001) ∷ (2, 7002) ∷ (3, 7003) ∷ []); records = (stored (codes "x") (codes "10") ((1, 1) ∷ (2, 1) ∷ (3, 1) ∷ []) ∷ []) };
  events =
      event.Call 1 call.Begin
      ∷ event.Call 1 (call.Write (txn 1 1 1) 1 (codes "x") (codes "11"))
      ∷ event.Call 2 call.Begin
      ∷ event.Call 2 (call.Write (txn 2 1 1) 1 (codes "x") (codes "12"))
      ∷ event.Deliver 3
      ∷ event.Deliver 5
      ∷ event.Call 2 (call.Read (txn 2 1 1) 2 (codes "x"))
      ∷ [];
}
