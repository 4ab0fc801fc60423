-- A worked schedule and its lines.
use Rattle.std.specs.Prelude.{ℕ, List, [], ◌∷◌, codes}
use Rattle.vp_model.specs.Types.{Commit, Line}
use Rattle.vp_model.specs.Types.answer
use Rattle.vp_model.specs.Types.call
use Rattle.vp_model.specs.Types.event
use Rattle.vp_model.specs.Types.shown
use Rattle.vp_model.specs.World.{Schedule}
use Rattle.vp_model.specs.Worked.{view, txn, reply, line, stored}

abbrev pub schedule : Schedule
schedule = record {
  catalogue = record { sites = ((1, 7001) ∷ (2, 7002) ∷ (3, 7003) ∷ []); records = (stored (codes "x") (codes "10") ((1, 1) ∷ (2, 1) ∷ (3, 1) ∷ []) ∷ []) };
  events =
      event.Call 1 call.Begin
      ∷ event.Call 1 (call.Weigh (txn 1 1 1) 1 (codes "x") ((1, 3) ∷ (2, 1) ∷ []))
      ∷ [];
}

abbrev pub lines : List (ℕ × Line)
lines =
    line 1 (event.Call 1 call.Begin) (shown.Step ([]) 1 ([]) (reply (answer.Begun (txn 1 1 1) (view 0 0)) ∷ []))
    ∷ line 2 (event.Call 1 (call.Weigh (txn 1 1 1) 1 (codes "x") ((1, 3) ∷ (2, 1) ∷ []))) (shown.Step ([]) 1 ([]) (reply (answer.BadTable (txn 1 1 1) 1) ∷ []))
    ∷ []

abbrev pub history : List Commit
history =
    []
