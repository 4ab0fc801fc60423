-- A worked schedule and its lines.
use Rattle.std.specs.Prelude.{ℕ, Some, List, [], ◌∷◌, true, codes}
use Rattle.vp_model.specs.Types.{Commit, Line}
use Rattle.vp_model.specs.Types.message
use Rattle.vp_model.specs.Types.answer
use Rattle.vp_model.specs.Types.puts
use Rattle.vp_model.specs.Types.call
use Rattle.vp_model.specs.Types.event
use Rattle.vp_model.specs.Types.shown
use Rattle.vp_model.specs.World.{Schedule}
use Rattle.vp_model.specs.Worked.{view, txn, sent, reply, line, stored}

abbrev pub schedule : Schedule
schedule = record {
  catalogue = record { sites = ((1, 7001) ∷ (2, 7002) ∷ (3, 7003) ∷ []); records = (stored (codes "x") (codes "10") ((1, 1) ∷ (2, 1) ∷ (3, 1) ∷ []) ∷ []) };
  events =
      event.Call 1 call.Begin
      ∷ event.Call 1 (call.Weigh (txn 1 1 1) 1 (codes "x") ((1, 3) ∷ (2, 1) ∷ (3, 1) ∷ []))
      ∷ event.Flow 4
      ∷ event.Call 1 (call.Commit (txn 1 1 1) 2)
      ∷ event.Flow 9
      ∷ event.Call 1 call.Regroup
      ∷ event.Tick 1
      ∷ event.Call 1 call.Begin
      ∷ event.Call 1 (call.Read (txn 1 1 2) 1 (codes "x"))
      ∷ event.Call 2 call.Regroup
      ∷ event.Deliver 16
      ∷ event.Deliver 17
      ∷ event.Tick 2
      ∷ event.Deliver 18
      ∷ event.Deliver 19
      ∷ event.Deliver 21
      ∷ event.Call 2 call.Begin
      ∷ event.Call 2 (call.Read (txn 2 1 1) 1 (codes "x"))
      ∷ [];
}

abbrev pub lines : List (ℕ × Line)
lines =
    line 1 (event.Call 1 call.Begin) (shown.Step ([]) 1 ([]) (reply (answer.Begun (txn 1 1 1) (view 0 0)) ∷ []))
    ∷ line 2 (event.Call 1 (call.Weigh (txn 1 1 1) 1 (codes "x") ((1, 3) ∷ (2, 1) ∷ (3, 1) ∷ []))) (shown.Step ([]) 1 (sent 1 2 (message.WriteRequest (txn 1 1 1) (view 0 0) 1 0) ∷ sent 1 3 (message.WriteRequest (txn 1 1 1) (view 0 0) 1 0) ∷ []) ([]))
    ∷ line 3 (event.Deliver 1) (shown.Step ([]) 3 (sent 2 1 (message.WriteAnswer (txn 1 1 1) 1) ∷ []) ([]))
    ∷ line 3 (event.Deliver 2) (shown.Step ([]) 4 (sent 3 1 (message.WriteAnswer (txn 1 1 1) 1) ∷ []) ([]))
    ∷ line 3 (event.Deliver 3) (shown.Step ([]) 5 ([]) ([]))
    ∷ line 3 (event.Deliver 4) (shown.Step ([]) 5 ([]) (reply (answer.Weighed (txn 1 1 1) 1) ∷ []))
    ∷ line 4 (event.Call 1 (call.Commit (txn 1 1 1) 2)) (shown.Step ([]) 5 (sent 1 2 (message.Prepare (txn 1 1 1) (view 0 0) 2 ([]) ((0, record { put = puts.Keep; table = (Some ((1, 3) ∷ (2, 1) ∷ (3, 1) ∷ [])) }) ∷ [])) ∷ sent 1 3 (message.Prepare (txn 1 1 1) (view 0 0) 2 ([]) ((0, record { put = puts.Keep; table = (Some ((1, 3) ∷ (2, 1) ∷ (3, 1) ∷ [])) }) ∷ [])) ∷ []) ([]))
    ∷ line 5 (event.Deliver 5) (shown.Step ([]) 7 (sent 2 1 (message.Vote (txn 1 1 1)) ∷ []) ([]))
    ∷ line 5 (event.Deliver 6) (shown.Step ([]) 8 (sent 3 1 (message.Vote (txn 1 1 1)) ∷ []) ([]))
    ∷ line 5 (event.Deliver 7) (shown.Step ([]) 9 ([]) ([]))
    ∷ line 5 (event.Deliver 8) (shown.Step (record { txn = (txn 1 1 1); view = (view 0 0); ops = []; tables = (0, ((1, 3) ∷ (2, 1) ∷ (3, 1) ∷ [])) ∷ [] } ∷ []) 9 (sent 1 2 (message.Outcome (txn 1 1 1) true) ∷ sent 1 3 (message.Outcome (txn 1 1 1) true) ∷ []) (reply (answer.Committed (txn 1 1 1) 2) ∷ []))
    ∷ line 5 (event.Deliver 9) (shown.Step ([]) 11 (sent 2 1 (message.Ack (txn 1 1 1)) ∷ []) ([]))
    ∷ line 5 (event.Deliver 10) (shown.Step ([]) 12 (sent 3 1 (message.Ack (txn 1 1 1)) ∷ []) ([]))
    ∷ line 5 (event.Deliver 11) (shown.Step ([]) 13 ([]) ([]))
    ∷ line 5 (event.Deliver 12) (shown.Step ([]) 13 ([]) ([]))
    ∷ line 6 (event.Call 1 call.Regroup) (shown.Step ([]) 13 (sent 1 2 (message.Invite (view 1 1)) ∷ sent 1 3 (message.Invite (view 1 1)) ∷ []) (reply (answer.Inviting (view 1 1)) ∷ []))
    ∷ line 7 (event.Tick 1) (shown.Step ([]) 15 ([]) ([]))
    ∷ line 8 (event.Call 1 call.Begin) (shown.Step ([]) 15 ([]) (reply (answer.Begun (txn 1 1 2) (view 1 1)) ∷ []))
    ∷ line 9 (event.Call 1 (call.Read (txn 1 1 2) 1 (codes "x"))) (shown.Step ([]) 15 ([]) (reply (answer.Value (txn 1 1 2) 1 (codes "10")) ∷ []))
    ∷ line 10 (event.Call 2 call.Regroup) (shown.Step ([]) 15 (sent 2 1 (message.Invite (view 1 2)) ∷ sent 2 3 (message.Invite (view 1 2)) ∷ []) (reply (answer.Inviting (view 1 2)) ∷ []))
    ∷ line 11 (event.Deliver 16) (shown.Step ([]) 17 (sent 3 2 (message.Accept (view 1 2)) ∷ []) ([]))
    ∷ line 12 (event.Deliver 17) (shown.Step ([]) 18 ([]) ([]))
    ∷ line 13 (event.Tick 2) (shown.Step ([]) 18 (sent 2 3 (message.ViewCommit (view 1 2) (2 ∷ 3 ∷ [])) ∷ sent 2 3 (message.RefreshRequest (view 1 2) 0) ∷ []) ([]))
    ∷ line 14 (event.Deliver 18) (shown.Step ([]) 20 (sent 3 2 (message.RefreshRequest (view 1 2) 0) ∷ []) ([]))
    ∷ line 15 (event.Deliver 19) (shown.Step ([]) 21 (sent 3 2 (message.RefreshAnswer (view 1 2) 0 (record { value = (Some (codes "10")); table = (Some ((1, 3) ∷ (2, 1) ∷ (3, 1) ∷ [])); date = (view 0 0) })) ∷ []) ([]))
    ∷ line 16 (event.Deliver 21) (shown.Step ([]) 22 ([]) ([]))
    ∷ line 17 (event.Call 2 call.Begin) (shown.Step ([]) 22 ([]) (reply (answer.Begun (txn 2 1 1) (view 1 2)) ∷ []))
    ∷ line 18 (event.Call 2 (call.Read (txn 2 1 1) 1 (codes "x"))) (shown.Step ([]) 22 ([]) (reply (answer.Inaccessible (txn 2 1 1) 1 (codes "x") 2 5) ∷ []))
    ∷ []

abbrev pub history : List Commit
history =
    record { txn = (txn 1 1 1); view = (view 0 0); ops = []; tables = (0, ((1, 3) ∷ (2, 1) ∷ (3, 1) ∷ [])) ∷ [] }
    ∷ []
