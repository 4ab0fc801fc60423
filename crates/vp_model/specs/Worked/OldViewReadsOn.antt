-- A worked schedule and its lines. A site that has not left its old view reads the old value there, after a write was committed in
-- a higher view; the history has the read first.
use Rattle.std.specs.Prelude.{ℕ, List, [], ◌∷◌, true, codes, Some, None}
use Rattle.vp_model.specs.Types.{Commit, Line}
use Rattle.vp_model.specs.Types.message
use Rattle.vp_model.specs.Types.answer
use Rattle.vp_model.specs.Types.op
use Rattle.vp_model.specs.Types.call
use Rattle.vp_model.specs.Types.event
use Rattle.vp_model.specs.Types.shown
use Rattle.vp_model.specs.World.{Schedule}
use Rattle.vp_model.specs.Worked.{view, txn, sent, reply, committed, line, stored, value}

abbrev pub schedule : Schedule
schedule = record {
  catalogue = record { sites = ((1, 7001) ∷ (2, 7002) ∷ (3, 7003) ∷ []); records = (stored (codes "x") (codes "10") ((1, 1) ∷ (2, 1) ∷ (3, 1) ∷ []) ∷ []) };
  events =
      event.Call 2 call.Regroup
      ∷ event.Deliver 2
      ∷ event.Deliver 3
      ∷ event.Tick 2
      ∷ event.Deliver 4
      ∷ event.Deliver 5
      ∷ event.Deliver 6
      ∷ event.Deliver 7
      ∷ event.Deliver 8
      ∷ event.Call 2 call.Begin
      ∷ event.Call 2 (call.Write (txn 2 1 1) 1 (codes "x") (codes "12"))
      ∷ event.Deliver 9
      ∷ event.Deliver 10
      ∷ event.Call 2 (call.Commit (txn 2 1 1) 2)
      ∷ event.Deliver 11
      ∷ event.Deliver 12
      ∷ event.Call 1 call.Begin
      ∷ event.Call 1 (call.Read (txn 1 1 1) 1 (codes "x"))
      ∷ event.Call 1 (call.Commit (txn 1 1 1) 2)
      ∷ [];
}

abbrev pub lines : List (ℕ × Line)
lines =
    line 1 (event.Call 2 call.Regroup) (shown.Step [] 1 (sent 2 1 (message.Invite (view 1 2)) ∷ sent 2 3 (message.Invite (view 1 2)) ∷ []) (reply (answer.Inviting (view 1 2)) ∷ []))
    ∷ line 2 (event.Deliver 2) (shown.Step [] 3 (sent 3 2 (message.Accept (view 1 2)) ∷ []) [])
    ∷ line 3 (event.Deliver 3) (shown.Step [] 4 [] [])
    ∷ line 4 (event.Tick 2) (shown.Step [] 4 (sent 2 3 (message.ViewCommit (view 1 2) (2 ∷ 3 ∷ [])) ∷ sent 2 3 (message.RefreshRequest (view 1 2) 0) ∷ []) [])
    ∷ line 5 (event.Deliver 4) (shown.Step [] 6 (sent 3 2 (message.RefreshRequest (view 1 2) 0) ∷ []) [])
    ∷ line 6 (event.Deliver 5) (shown.Step [] 7 (sent 3 2 (message.RefreshAnswer (view 1 2) 0 (record { value = Some (codes "10"); table = None; date = (view 0 0) })) ∷ []) [])
    ∷ line 7 (event.Deliver 6) (shown.Step [] 8 (sent 2 3 (message.RefreshAnswer (view 1 2) 0 (record { value = Some (codes "10"); table = None; date = (view 0 0) })) ∷ []) [])
    ∷ line 8 (event.Deliver 7) (shown.Step [] 9 [] [])
    ∷ line 9 (event.Deliver 8) (shown.Step [] 9 [] [])
    ∷ line 10 (event.Call 2 call.Begin) (shown.Step [] 9 [] (reply (answer.Begun (txn 2 1 1) (view 1 2)) ∷ []))
    ∷ line 11 (event.Call 2 (call.Write (txn 2 1 1) 1 (codes "x") (codes "12"))) (shown.Step [] 9 (sent 2 3 (message.WriteRequest (txn 2 1 1) (view 1 2) 1 0) ∷ []) [])
    ∷ line 12 (event.Deliver 9) (shown.Step [] 10 (sent 3 2 (message.WriteAnswer (txn 2 1 1) 1) ∷ []) [])
    ∷ line 13 (event.Deliver 10) (shown.Step [] 11 [] (reply (answer.Written (txn 2 1 1) 1) ∷ []))
    ∷ line 14 (event.Call 2 (call.Commit (txn 2 1 1) 2)) (shown.Step [] 11 (sent 2 3 (message.Prepare (txn 2 1 1) (view 1 2) 2 [] ((0, value (codes "12")) ∷ [])) ∷ []) [])
    ∷ line 15 (event.Deliver 11) (shown.Step [] 12 (sent 3 2 (message.Vote (txn 2 1 1)) ∷ []) [])
    ∷ line 16 (event.Deliver 12) (shown.Step (committed (txn 2 1 1) (view 1 2) (op.Write 0 (Some (codes "12")) ∷ []) ∷ []) 13 (sent 2 3 (message.Outcome (txn 2 1 1) true) ∷ []) (reply (answer.Committed (txn 2 1 1) 2) ∷ []))
    ∷ line 17 (event.Call 1 call.Begin) (shown.Step [] 14 [] (reply (answer.Begun (txn 1 1 1) (view 0 0)) ∷ []))
    ∷ line 18 (event.Call 1 (call.Read (txn 1 1 1) 1 (codes "x"))) (shown.Step [] 14 [] (reply (answer.Value (txn 1 1 1) 1 (codes "10")) ∷ []))
    ∷ line 19 (event.Call 1 (call.Commit (txn 1 1 1) 2)) (shown.Step (committed (txn 1 1 1) (view 0 0) (op.Read 0 (Some (codes "10")) ∷ []) ∷ []) 14 [] (reply (answer.Committed (txn 1 1 1) 2) ∷ []))
    ∷ []

-- the committed transactions, by view and then by moment of commit
abbrev pub history : List Commit
history =
    committed (txn 1 1 1) (view 0 0) (op.Read 0 (Some (codes "10")) ∷ [])
    ∷ committed (txn 2 1 1) (view 1 2) (op.Write 0 (Some (codes "12")) ∷ [])
    ∷ []
