-- A worked schedule and its lines.
use Rattle.std.specs.Prelude.{ℕ, Some, None, List, [], ◌∷◌, codes}
use Rattle.vp_model.specs.Types.{Commit, Line}
use Rattle.vp_model.specs.Types.answer
use Rattle.vp_model.specs.Types.op
use Rattle.vp_model.specs.Types.call
use Rattle.vp_model.specs.Types.event
use Rattle.vp_model.specs.Types.shown
use Rattle.vp_model.specs.World.{Schedule}
use Rattle.vp_model.specs.Worked.{view, txn, reply, line, stored}

abbrev pub schedule : Schedule
schedule = record {
  catalogue = record { sites = ((1, 7001) ∷ []); records = (stored (codes "x") (codes "10") ((1, 1) ∷ []) ∷ []) };
  events =
      event.Call 1 call.Begin
      ∷ event.Call 1 (call.Delete (txn 1 1 1) 1 (codes "x"))
      ∷ event.Call 1 (call.Read (txn 1 1 1) 2 (codes "x"))
      ∷ event.Call 1 (call.Commit (txn 1 1 1) 3)
      ∷ event.Call 1 call.Begin
      ∷ event.Call 1 (call.Read (txn 1 1 2) 1 (codes "x"))
      ∷ event.Call 1 (call.Write (txn 1 1 2) 2 (codes "x") (codes "5"))
      ∷ event.Call 1 (call.Commit (txn 1 1 2) 3)
      ∷ [];
}

abbrev pub lines : List (ℕ × Line)
lines =
    line 1 (event.Call 1 call.Begin) (shown.Step ([]) 1 ([]) (reply (answer.Begun (txn 1 1 1) (view 0 0)) ∷ []))
    ∷ line 2 (event.Call 1 (call.Delete (txn 1 1 1) 1 (codes "x"))) (shown.Step ([]) 1 ([]) (reply (answer.Deleted (txn 1 1 1) 1) ∷ []))
    ∷ line 3 (event.Call 1 (call.Read (txn 1 1 1) 2 (codes "x"))) (shown.Step ([]) 1 ([]) (reply (answer.Absent (txn 1 1 1) 2) ∷ []))
    ∷ line 4 (event.Call 1 (call.Commit (txn 1 1 1) 3)) (shown.Step (record { txn = (txn 1 1 1); view = (view 0 0); ops = op.Write 0 None ∷ op.Read 0 None ∷ []; tables = [] } ∷ []) 1 ([]) (reply (answer.Committed (txn 1 1 1) 3) ∷ []))
    ∷ line 5 (event.Call 1 call.Begin) (shown.Step ([]) 1 ([]) (reply (answer.Begun (txn 1 1 2) (view 0 0)) ∷ []))
    ∷ line 6 (event.Call 1 (call.Read (txn 1 1 2) 1 (codes "x"))) (shown.Step ([]) 1 ([]) (reply (answer.Absent (txn 1 1 2) 1) ∷ []))
    ∷ line 7 (event.Call 1 (call.Write (txn 1 1 2) 2 (codes "x") (codes "5"))) (shown.Step ([]) 1 ([]) (reply (answer.Written (txn 1 1 2) 2) ∷ []))
    ∷ line 8 (event.Call 1 (call.Commit (txn 1 1 2) 3)) (shown.Step (record { txn = (txn 1 1 2); view = (view 0 0); ops = op.Read 0 None ∷ op.Write 0 (Some (codes "5")) ∷ []; tables = [] } ∷ []) 1 ([]) (reply (answer.Committed (txn 1 1 2) 3) ∷ []))
    ∷ []

abbrev pub history : List Commit
history =
    record { txn = (txn 1 1 1); view = (view 0 0); ops = op.Write 0 None ∷ op.Read 0 None ∷ []; tables = [] }
    ∷ record { txn = (txn 1 1 2); view = (view 0 0); ops = op.Read 0 None ∷ op.Write 0 (Some (codes "5")) ∷ []; tables = [] }
    ∷ []
