-- A worked schedule and its lines. Two transactions of one site, one after the other: the second reads what the first wrote.
use Rattle.std.specs.Prelude.{ℕ, List, [], ◌∷◌, codes, Some}
use Rattle.vp_model.specs.Types.{Commit, Line}
use Rattle.vp_model.specs.Types.answer
use Rattle.vp_model.specs.Types.op
use Rattle.vp_model.specs.Types.call
use Rattle.vp_model.specs.Types.event
use Rattle.vp_model.specs.Types.shown
use Rattle.vp_model.specs.World.{Schedule}
use Rattle.vp_model.specs.Worked.{view, txn, reply, committed, line, stored}

abbrev pub schedule : Schedule
schedule = record {
  catalogue = record { sites = ((1, 7001) ∷ []); records = (stored (codes "x") (codes "10") ((1, 1) ∷ []) ∷ []) };
  events =
      event.Call 1 call.Begin
      ∷ event.Call 1 (call.Read (txn 1 1 1) 1 (codes "x"))
      ∷ event.Call 1 (call.Write (txn 1 1 1) 2 (codes "x") (codes "11"))
      ∷ event.Call 1 (call.Commit (txn 1 1 1) 3)
      ∷ event.Call 1 call.Begin
      ∷ event.Call 1 (call.Read (txn 1 1 2) 1 (codes "x"))
      ∷ event.Call 1 (call.Commit (txn 1 1 2) 2)
      ∷ [];
}

abbrev pub lines : List (ℕ × Line)
lines =
    line 1 (event.Call 1 call.Begin) (shown.Step [] 1 [] (reply (answer.Begun (txn 1 1 1) (view 0 0)) ∷ []))
    ∷ line 2 (event.Call 1 (call.Read (txn 1 1 1) 1 (codes "x"))) (shown.Step [] 1 [] (reply (answer.Value (txn 1 1 1) 1 (codes "10")) ∷ []))
    ∷ line 3 (event.Call 1 (call.Write (txn 1 1 1) 2 (codes "x") (codes "11"))) (shown.Step [] 1 [] (reply (answer.Written (txn 1 1 1) 2) ∷ []))
    ∷ line 4 (event.Call 1 (call.Commit (txn 1 1 1) 3)) (shown.Step (committed (txn 1 1 1) (view 0 0) (op.Read 0 (Some (codes "10")) ∷ op.Write 0 (Some (codes "11")) ∷ []) ∷ []) 1 [] (reply (answer.Committed (txn 1 1 1) 3) ∷ []))
    ∷ line 5 (event.Call 1 call.Begin) (shown.Step [] 1 [] (reply (answer.Begun (txn 1 1 2) (view 0 0)) ∷ []))
    ∷ line 6 (event.Call 1 (call.Read (txn 1 1 2) 1 (codes "x"))) (shown.Step [] 1 [] (reply (answer.Value (txn 1 1 2) 1 (codes "11")) ∷ []))
    ∷ line 7 (event.Call 1 (call.Commit (txn 1 1 2) 2)) (shown.Step (committed (txn 1 1 2) (view 0 0) (op.Read 0 (Some (codes "11")) ∷ []) ∷ []) 1 [] (reply (answer.Committed (txn 1 1 2) 2) ∷ []))
    ∷ []

-- the committed transactions, by view and then by moment of commit
abbrev pub history : List Commit
history =
    committed (txn 1 1 1) (view 0 0) (op.Read 0 (Some (codes "10")) ∷ op.Write 0 (Some (codes "11")) ∷ [])
    ∷ committed (txn 1 1 2) (view 0 0) (op.Read 0 (Some (codes "11")) ∷ [])
    ∷ []
