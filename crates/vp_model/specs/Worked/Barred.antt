-- A site refuses a request by its bar, which ends the transaction; the end is told again under the next number.
use Rattle.std.specs.Prelude.{List, [], ◌∷◌, codes}
use Rattle.vp_model.specs.Types.{Answer}
use Rattle.vp_model.specs.Types.answer
use Rattle.vp_model.specs.Types.call
use Rattle.vp_model.specs.Types.event
use Rattle.vp_model.specs.World.{Schedule}
use Rattle.vp_model.specs.Worked.{view, txn, stored}

abbrev pub schedule : Schedule
schedule = record {
  catalogue = record { sites = ((1, 7001) ∷ (2, 7002) ∷ (3, 7003) ∷ []); records = (stored (codes "x") (codes "0") ((2, 3) ∷ (3, 2) ∷ []) ∷ []) };
  events =
      event.Call 1 call.Begin
      ∷ event.Call 1 (call.Weigh (txn 1 1 1) 1 (codes "x") ((2, 1) ∷ (3, 2) ∷ []))
      ∷ event.Deliver 1
      ∷ event.Deliver 3
      ∷ event.Deliver 2
      ∷ event.Deliver 4
      ∷ event.Call 1 (call.Commit (txn 1 1 1) 2)
      ∷ event.Deliver 5
      ∷ event.Deliver 6
      ∷ event.Deliver 8
      ∷ event.Deliver 7
      ∷ event.Deliver 9
      ∷ event.Call 1 call.Regroup
      ∷ event.Deliver 12
      ∷ event.Deliver 14
      ∷ event.Tick 1
      ∷ event.Deliver 15
      ∷ event.Call 1 call.Begin
      ∷ event.Call 1 (call.Weigh (txn 1 1 2) 1 (codes "x") ((2, 3) ∷ (3, 1) ∷ []))
      ∷ event.Deliver 18
      ∷ event.Deliver 19
      ∷ event.Call 1 (call.Commit (txn 1 1 2) 2)
      ∷ [];
}

abbrev pub answers : List Answer
answers =
    answer.Begun (txn 1 1 1) (view 0 0)
    ∷ answer.Weighed (txn 1 1 1) 1
    ∷ answer.Committed (txn 1 1 1) 2
    ∷ answer.Inviting (view 1 1)
    ∷ answer.Begun (txn 1 1 2) (view 1 1)
    ∷ answer.Inaccessible (txn 1 1 2) 1 (codes "x") 1 3
    ∷ answer.Inaccessible (txn 1 1 2) 2 (codes "x") 1 3
    ∷ []
