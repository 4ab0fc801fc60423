-- A worked schedule and its lines. A transaction commits in its old view after another has committed in a higher one. While it is
-- in doubt, what it writes is not read in the higher view.
use Rattle.std.specs.Prelude.{ℕ, List, [], ◌∷◌, true, codes, Some, None}
use Rattle.vp_model.specs.Types.{Commit, Line}
use Rattle.vp_model.specs.Types.message
use Rattle.vp_model.specs.Types.answer
use Rattle.vp_model.specs.Types.owner
use Rattle.vp_model.specs.Types.op
use Rattle.vp_model.specs.Types.call
use Rattle.vp_model.specs.Types.event
use Rattle.vp_model.specs.Types.shown
use Rattle.vp_model.specs.World.{Schedule}
use Rattle.vp_model.specs.Worked.{view, txn, sent, reply, committed, line, stored, value}

abbrev pub schedule : Schedule
schedule = record {
  catalogue = record { sites = ((1, 7001) ∷ (2, 7002) ∷ (3, 7003) ∷ []); records = (stored (codes "x") (codes "10") ((1, 1) ∷ (2, 1) ∷ (3, 1) ∷ []) ∷ stored (codes "y") (codes "5") ((2, 1) ∷ []) ∷ []) };
  events =
      event.Call 1 call.Begin
      ∷ event.Call 1 (call.Write (txn 1 1 1) 1 (codes "x") (codes "11"))
      ∷ event.Flow 4
      ∷ event.Call 1 (call.Commit (txn 1 1 1) 2)
      ∷ event.Deliver 5
      ∷ event.Deliver 6
      ∷ event.Call 2 call.Regroup
      ∷ event.Deliver 10
      ∷ event.Deliver 11
      ∷ event.Tick 2
      ∷ event.Deliver 12
      ∷ event.Deliver 13
      ∷ event.Call 2 call.Begin
      ∷ event.Call 2 (call.Read (txn 2 1 1) 1 (codes "y"))
      ∷ event.Call 2 (call.Commit (txn 2 1 1) 2)
      ∷ event.Call 2 call.Begin
      ∷ event.Call 2 (call.Read (txn 2 1 2) 1 (codes "x"))
      ∷ event.Deliver 7
      ∷ event.Deliver 8
      ∷ event.Deliver 16
      ∷ event.Deliver 17
      ∷ event.Tick 2
      ∷ event.Deliver 20
      ∷ event.Deliver 21
      ∷ event.Call 2 call.Begin
      ∷ event.Call 2 (call.Read (txn 2 1 3) 1 (codes "x"))
      ∷ event.Call 2 (call.Commit (txn 2 1 3) 2)
      ∷ [];
}

abbrev pub lines : List (ℕ × Line)
lines =
    line 1 (event.Call 1 call.Begin) (shown.Step [] 1 [] (reply (answer.Begun (txn 1 1 1) (view 0 0)) ∷ []))
    ∷ line 2 (event.Call 1 (call.Write (txn 1 1 1) 1 (codes "x") (codes "11"))) (shown.Step [] 1 (sent 1 2 (message.WriteRequest (txn 1 1 1) (view 0 0) 1 0) ∷ sent 1 3 (message.WriteRequest (txn 1 1 1) (view 0 0) 1 0) ∷ []) [])
    ∷ line 3 (event.Deliver 1) (shown.Step [] 3 (sent 2 1 (message.WriteAnswer (txn 1 1 1) 1) ∷ []) [])
    ∷ line 3 (event.Deliver 2) (shown.Step [] 4 (sent 3 1 (message.WriteAnswer (txn 1 1 1) 1) ∷ []) [])
    ∷ line 3 (event.Deliver 3) (shown.Step [] 5 [] [])
    ∷ line 3 (event.Deliver 4) (shown.Step [] 5 [] (reply (answer.Written (txn 1 1 1) 1) ∷ []))
    ∷ line 4 (event.Call 1 (call.Commit (txn 1 1 1) 2)) (shown.Step [] 5 (sent 1 2 (message.Prepare (txn 1 1 1) (view 0 0) 2 [] ((0, value (codes "11")) ∷ [])) ∷ sent 1 3 (message.Prepare (txn 1 1 1) (view 0 0) 2 [] ((0, value (codes "11")) ∷ [])) ∷ []) [])
    ∷ line 5 (event.Deliver 5) (shown.Step [] 7 (sent 2 1 (message.Vote (txn 1 1 1)) ∷ []) [])
    ∷ line 6 (event.Deliver 6) (shown.Step [] 8 (sent 3 1 (message.Vote (txn 1 1 1)) ∷ []) [])
    ∷ line 7 (event.Call 2 call.Regroup) (shown.Step [] 9 (sent 2 1 (message.Invite (view 1 2)) ∷ sent 2 3 (message.Invite (view 1 2)) ∷ []) (reply (answer.Inviting (view 1 2)) ∷ []))
    ∷ line 8 (event.Deliver 10) (shown.Step [] 11 (sent 3 2 (message.Accept (view 1 2)) ∷ []) [])
    ∷ line 9 (event.Deliver 11) (shown.Step [] 12 [] [])
    ∷ line 10 (event.Tick 2) (shown.Step [] 12 (sent 2 3 (message.ViewCommit (view 1 2) (2 ∷ 3 ∷ [])) ∷ sent 2 3 (message.RefreshRequest (view 1 2) 0) ∷ sent 2 1 (message.Inquire (txn 1 1 1)) ∷ []) [])
    ∷ line 11 (event.Deliver 12) (shown.Step [] 15 (sent 3 2 (message.RefreshRequest (view 1 2) 0) ∷ []) [])
    ∷ line 12 (event.Deliver 13) (shown.Step [] 16 [] [])
    ∷ line 13 (event.Call 2 call.Begin) (shown.Step [] 16 [] (reply (answer.Begun (txn 2 1 1) (view 1 2)) ∷ []))
    ∷ line 14 (event.Call 2 (call.Read (txn 2 1 1) 1 (codes "y"))) (shown.Step [] 16 [] (reply (answer.Value (txn 2 1 1) 1 (codes "5")) ∷ []))
    ∷ line 15 (event.Call 2 (call.Commit (txn 2 1 1) 2)) (shown.Step (committed (txn 2 1 1) (view 1 2) (op.Read 1 (Some (codes "5")) ∷ []) ∷ []) 16 [] (reply (answer.Committed (txn 2 1 1) 2) ∷ []))
    ∷ line 16 (event.Call 2 call.Begin) (shown.Step [] 16 [] (reply (answer.Begun (txn 2 1 2) (view 1 2)) ∷ []))
    ∷ line 17 (event.Call 2 (call.Read (txn 2 1 2) 1 (codes "x"))) (shown.Step [] 16 [] (reply (answer.LockHeld (txn 2 1 2) 1 (codes "x") 2 (owner.Txn (txn 1 1 1))) ∷ []))
    ∷ line 18 (event.Deliver 7) (shown.Step [] 16 [] [])
    ∷ line 19 (event.Deliver 8) (shown.Step (committed (txn 1 1 1) (view 0 0) (op.Write 0 (Some (codes "11")) ∷ []) ∷ []) 16 (sent 1 2 (message.Outcome (txn 1 1 1) true) ∷ sent 1 3 (message.Outcome (txn 1 1 1) true) ∷ []) (reply (answer.Committed (txn 1 1 1) 2) ∷ []))
    ∷ line 20 (event.Deliver 16) (shown.Step [] 18 (sent 2 1 (message.Ack (txn 1 1 1)) ∷ []) [])
    ∷ line 21 (event.Deliver 17) (shown.Step [] 19 (sent 3 1 (message.Ack (txn 1 1 1)) ∷ []) [])
    ∷ line 22 (event.Tick 2) (shown.Step [] 20 (sent 2 3 (message.RefreshRequest (view 1 2) 0) ∷ []) [])
    ∷ line 23 (event.Deliver 20) (shown.Step [] 21 (sent 3 2 (message.RefreshAnswer (view 1 2) 0 (record { value = Some (codes "11"); table = None; date = (view 0 0) })) ∷ []) [])
    ∷ line 24 (event.Deliver 21) (shown.Step [] 22 [] [])
    ∷ line 25 (event.Call 2 call.Begin) (shown.Step [] 22 [] (reply (answer.Begun (txn 2 1 3) (view 1 2)) ∷ []))
    ∷ line 26 (event.Call 2 (call.Read (txn 2 1 3) 1 (codes "x"))) (shown.Step [] 22 [] (reply (answer.Value (txn 2 1 3) 1 (codes "11")) ∷ []))
    ∷ line 27 (event.Call 2 (call.Commit (txn 2 1 3) 2)) (shown.Step (committed (txn 2 1 3) (view 1 2) (op.Read 0 (Some (codes "11")) ∷ []) ∷ []) 22 [] (reply (answer.Committed (txn 2 1 3) 2) ∷ []))
    ∷ []

-- the committed transactions, by view and then by moment of commit
abbrev pub history : List Commit
history =
    committed (txn 1 1 1) (view 0 0) (op.Write 0 (Some (codes "11")) ∷ [])
    ∷ committed (txn 2 1 1) (view 1 2) (op.Read 1 (Some (codes "5")) ∷ [])
    ∷ committed (txn 2 1 3) (view 1 2) (op.Read 0 (Some (codes "11")) ∷ [])
    ∷ []
