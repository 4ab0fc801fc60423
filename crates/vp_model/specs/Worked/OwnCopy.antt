-- A site whose own copy has an older table than another member's: the newest one says that the record may not be used in the view.
use Rattle.std.specs.Prelude.{List, [], ◌∷◌, codes}
use Rattle.vp_model.specs.Types.{Answer}
use Rattle.vp_model.specs.Types.answer
use Rattle.vp_model.specs.Types.call
use Rattle.vp_model.specs.Types.event
use Rattle.vp_model.specs.World.{Schedule}
use Rattle.vp_model.specs.Worked.{view, txn, stored}

abbrev pub schedule : Schedule
schedule = record {
  catalogue = record { sites = ((1, 7001) ∷ (2, 7002) ∷ (3, 7003) ∷ []); records = (stored (codes "x") (codes "0") ((1, 1) ∷ (2, 1) ∷ (3, 1) ∷ []) ∷ []) };
  events =
      event.Call 3 call.Regroup
      ∷ event.Deliver 2
      ∷ event.Deliver 3
      ∷ event.Tick 3
      ∷ event.Deliver 4
      ∷ event.Deliver 6
      ∷ event.Deliver 5
      ∷ event.Deliver 7
      ∷ event.Deliver 8
      ∷ event.Call 3 call.Begin
      ∷ event.Call 3 (call.Weigh (txn 3 1 1) 1 (codes "x") ((1, 1) ∷ (2, 1) ∷ (3, 2) ∷ []))
      ∷ event.Deliver 9
      ∷ event.Deliver 10
      ∷ event.Call 3 (call.Commit (txn 3 1 1) 2)
      ∷ event.Deliver 11
      ∷ event.Deliver 12
      ∷ event.Deliver 1
      ∷ event.Call 1 call.Regroup
      ∷ event.Deliver 13
      ∷ event.Deliver 15
      ∷ event.Deliver 18
      ∷ event.Tick 1
      ∷ event.Deliver 19
      ∷ event.Deliver 20
      ∷ event.Deliver 22
      ∷ event.Call 1 call.Begin
      ∷ event.Call 1 (call.Read (txn 1 1 1) 1 (codes "x"))
      ∷ [];
}

abbrev pub answers : List Answer
answers =
    answer.Inviting (view 1 3)
    ∷ answer.Begun (txn 3 1 1) (view 1 3)
    ∷ answer.Weighed (txn 3 1 1) 1
    ∷ answer.Committed (txn 3 1 1) 2
    ∷ answer.Inviting (view 2 1)
    ∷ answer.Begun (txn 1 1 1) (view 2 1)
    ∷ answer.Inaccessible (txn 1 1 1) 1 (codes "x") 2 4
    ∷ []
