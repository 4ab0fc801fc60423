-- A worked schedule and its lines.
use Rattle.std.specs.Prelude.{ℕ, Some, None, List, [], ◌∷◌, true, codes}
use Rattle.vp_model.specs.Types.{Commit, Line}
use Rattle.vp_model.specs.Types.message
use Rattle.vp_model.specs.Types.answer
use Rattle.vp_model.specs.Types.obstacle
use Rattle.vp_model.specs.Types.puts
use Rattle.vp_model.specs.Types.op
use Rattle.vp_model.specs.Types.call
use Rattle.vp_model.specs.Types.event
use Rattle.vp_model.specs.Types.shown
use Rattle.vp_model.specs.World.{Schedule}
use Rattle.vp_model.specs.Worked.{view, txn, sent, reply, line, stored}

abbrev pub schedule : Schedule
schedule = record {
  catalogue = record { sites = ((1, 7001) ∷ (2, 7002) ∷ (3, 7003) ∷ []); records = (stored (codes "x") (codes "10") ((1, 1) ∷ (2, 1) ∷ (3, 1) ∷ []) ∷ []) };
  events =
      event.Call 1 call.Regroup
      ∷ event.Deliver 1
      ∷ event.Deliver 3
      ∷ event.Tick 1
      ∷ event.Deliver 4
      ∷ event.Deliver 5
      ∷ event.Deliver 7
      ∷ event.Deliver 6
      ∷ event.Deliver 8
      ∷ event.Call 1 call.Begin
      ∷ event.Call 1 (call.Write (txn 1 1 1) 1 (codes "x") (codes "11"))
      ∷ event.Deliver 9
      ∷ event.Deliver 10
      ∷ event.Call 1 (call.Commit (txn 1 1 1) 2)
      ∷ event.Deliver 11
      ∷ event.Deliver 12
      ∷ event.Deliver 13
      ∷ event.Call 3 call.Regroup
      ∷ event.Deliver 16
      ∷ event.Deliver 17
      ∷ event.Tick 3
      ∷ event.Deliver 18
      ∷ event.Deliver 19
      ∷ event.Deliver 21
      ∷ event.Deliver 20
      ∷ event.Deliver 22
      ∷ event.Call 3 call.Begin
      ∷ event.Call 3 (call.Weigh (txn 3 1 1) 1 (codes "x") ((1, 1) ∷ (2, 1) ∷ (3, 5) ∷ []))
      ∷ event.Deliver 23
      ∷ event.Deliver 24
      ∷ event.Call 3 (call.Commit (txn 3 1 1) 2)
      ∷ event.Deliver 25
      ∷ event.Deliver 26
      ∷ event.Call 3 call.Regroup
      ∷ event.Tick 3
      ∷ event.Call 3 call.Begin
      ∷ event.Call 3 (call.Write (txn 3 1 2) 1 (codes "x") (codes "12"))
      ∷ event.Call 3 (call.Commit (txn 3 1 2) 2)
      ∷ event.Call 1 call.Begin
      ∷ event.Call 1 (call.Read (txn 1 1 2) 1 (codes "x"))
      ∷ event.Call 1 (call.Commit (txn 1 1 2) 2)
      ∷ event.Call 1 call.Begin
      ∷ event.Call 1 (call.Write (txn 1 1 3) 1 (codes "x") (codes "13"))
      ∷ event.Deliver 30
      ∷ event.Deliver 31
      ∷ [];
}

abbrev pub lines : List (ℕ × Line)
lines =
    line 1 (event.Call 1 call.Regroup) (shown.Step ([]) 1 (sent 1 2 (message.Invite (view 1 1)) ∷ sent 1 3 (message.Invite (view 1 1)) ∷ []) (reply (answer.Inviting (view 1 1)) ∷ []))
    ∷ line 2 (event.Deliver 1) (shown.Step ([]) 3 (sent 2 1 (message.Accept (view 1 1)) ∷ []) ([]))
    ∷ line 3 (event.Deliver 3) (shown.Step ([]) 4 ([]) ([]))
    ∷ line 4 (event.Tick 1) (shown.Step ([]) 4 (sent 1 2 (message.ViewCommit (view 1 1) (1 ∷ 2 ∷ [])) ∷ sent 1 2 (message.RefreshRequest (view 1 1) 0) ∷ []) ([]))
    ∷ line 5 (event.Deliver 4) (shown.Step ([]) 6 (sent 2 1 (message.RefreshRequest (view 1 1) 0) ∷ []) ([]))
    ∷ line 6 (event.Deliver 5) (shown.Step ([]) 7 (sent 2 1 (message.RefreshAnswer (view 1 1) 0 (record { value = (Some (codes "10")); table = None; date = (view 0 0) })) ∷ []) ([]))
    ∷ line 7 (event.Deliver 7) (shown.Step ([]) 8 ([]) ([]))
    ∷ line 8 (event.Deliver 6) (shown.Step ([]) 8 (sent 1 2 (message.RefreshAnswer (view 1 1) 0 (record { value = (Some (codes "10")); table = None; date = (view 0 0) })) ∷ []) ([]))
    ∷ line 9 (event.Deliver 8) (shown.Step ([]) 9 ([]) ([]))
    ∷ line 10 (event.Call 1 call.Begin) (shown.Step ([]) 9 ([]) (reply (answer.Begun (txn 1 1 1) (view 1 1)) ∷ []))
    ∷ line 11 (event.Call 1 (call.Write (txn 1 1 1) 1 (codes "x") (codes "11"))) (shown.Step ([]) 9 (sent 1 2 (message.WriteRequest (txn 1 1 1) (view 1 1) 1 0) ∷ []) ([]))
    ∷ line 12 (event.Deliver 9) (shown.Step ([]) 10 (sent 2 1 (message.WriteAnswer (txn 1 1 1) 1) ∷ []) ([]))
    ∷ line 13 (event.Deliver 10) (shown.Step ([]) 11 ([]) (reply (answer.Written (txn 1 1 1) 1) ∷ []))
    ∷ line 14 (event.Call 1 (call.Commit (txn 1 1 1) 2)) (shown.Step ([]) 11 (sent 1 2 (message.Prepare (txn 1 1 1) (view 1 1) 2 ([]) ((0, record { put = (puts.Value (codes "11")); table = None }) ∷ [])) ∷ []) ([]))
    ∷ line 15 (event.Deliver 11) (shown.Step ([]) 12 (sent 2 1 (message.Vote (txn 1 1 1)) ∷ []) ([]))
    ∷ line 16 (event.Deliver 12) (shown.Step (record { txn = (txn 1 1 1); view = (view 1 1); ops = op.Write 0 (Some (codes "11")) ∷ []; tables = [] } ∷ []) 13 (sent 1 2 (message.Outcome (txn 1 1 1) true) ∷ []) (reply (answer.Committed (txn 1 1 1) 2) ∷ []))
    ∷ line 17 (event.Deliver 13) (shown.Step ([]) 14 (sent 2 1 (message.Ack (txn 1 1 1)) ∷ []) ([]))
    ∷ line 18 (event.Call 3 call.Regroup) (shown.Step ([]) 15 (sent 3 1 (message.Invite (view 1 3)) ∷ sent 3 2 (message.Invite (view 1 3)) ∷ []) (reply (answer.Inviting (view 1 3)) ∷ []))
    ∷ line 19 (event.Deliver 16) (shown.Step ([]) 17 (sent 2 3 (message.Accept (view 1 3)) ∷ []) ([]))
    ∷ line 20 (event.Deliver 17) (shown.Step ([]) 18 ([]) ([]))
    ∷ line 21 (event.Tick 3) (shown.Step ([]) 18 (sent 3 2 (message.ViewCommit (view 1 3) (2 ∷ 3 ∷ [])) ∷ sent 3 2 (message.RefreshRequest (view 1 3) 0) ∷ []) ([]))
    ∷ line 22 (event.Deliver 18) (shown.Step ([]) 20 (sent 2 3 (message.RefreshRequest (view 1 3) 0) ∷ []) ([]))
    ∷ line 23 (event.Deliver 19) (shown.Step ([]) 21 (sent 2 3 (message.RefreshAnswer (view 1 3) 0 (record { value = (Some (codes "11")); table = None; date = (view 1 1) })) ∷ []) ([]))
    ∷ line 24 (event.Deliver 21) (shown.Step ([]) 22 ([]) ([]))
    ∷ line 25 (event.Deliver 20) (shown.Step ([]) 22 (sent 3 2 (message.RefreshAnswer (view 1 3) 0 (record { value = (Some (codes "11")); table = None; date = (view 1 1) })) ∷ []) ([]))
    ∷ line 26 (event.Deliver 22) (shown.Step ([]) 23 ([]) ([]))
    ∷ line 27 (event.Call 3 call.Begin) (shown.Step ([]) 23 ([]) (reply (answer.Begun (txn 3 1 1) (view 1 3)) ∷ []))
    ∷ line 28 (event.Call 3 (call.Weigh (txn 3 1 1) 1 (codes "x") ((1, 1) ∷ (2, 1) ∷ (3, 5) ∷ []))) (shown.Step ([]) 23 (sent 3 2 (message.WriteRequest (txn 3 1 1) (view 1 3) 1 0) ∷ []) ([]))
    ∷ line 29 (event.Deliver 23) (shown.Step ([]) 24 (sent 2 3 (message.WriteAnswer (txn 3 1 1) 1) ∷ []) ([]))
    ∷ line 30 (event.Deliver 24) (shown.Step ([]) 25 ([]) (reply (answer.Weighed (txn 3 1 1) 1) ∷ []))
    ∷ line 31 (event.Call 3 (call.Commit (txn 3 1 1) 2)) (shown.Step ([]) 25 (sent 3 2 (message.Prepare (txn 3 1 1) (view 1 3) 2 ([]) ((0, record { put = puts.Keep; table = (Some ((1, 1) ∷ (2, 1) ∷ (3, 5) ∷ [])) }) ∷ [])) ∷ []) ([]))
    ∷ line 32 (event.Deliver 25) (shown.Step ([]) 26 (sent 2 3 (message.Vote (txn 3 1 1)) ∷ []) ([]))
    ∷ line 33 (event.Deliver 26) (shown.Step (record { txn = (txn 3 1 1); view = (view 1 3); ops = []; tables = (0, ((1, 1) ∷ (2, 1) ∷ (3, 5) ∷ [])) ∷ [] } ∷ []) 27 (sent 3 2 (message.Outcome (txn 3 1 1) true) ∷ []) (reply (answer.Committed (txn 3 1 1) 2) ∷ []))
    ∷ line 34 (event.Call 3 call.Regroup) (shown.Step ([]) 28 (sent 3 1 (message.Invite (view 2 3)) ∷ sent 3 2 (message.Invite (view 2 3)) ∷ []) (reply (answer.Inviting (view 2 3)) ∷ []))
    ∷ line 35 (event.Tick 3) (shown.Step ([]) 30 (sent 3 2 (message.Outcome (txn 3 1 1) true) ∷ []) ([]))
    ∷ line 36 (event.Call 3 call.Begin) (shown.Step ([]) 31 ([]) (reply (answer.Begun (txn 3 1 2) (view 2 3)) ∷ []))
    ∷ line 37 (event.Call 3 (call.Write (txn 3 1 2) 1 (codes "x") (codes "12"))) (shown.Step ([]) 31 ([]) (reply (answer.Written (txn 3 1 2) 1) ∷ []))
    ∷ line 38 (event.Call 3 (call.Commit (txn 3 1 2) 2)) (shown.Step (record { txn = (txn 3 1 2); view = (view 2 3); ops = op.Write 0 (Some (codes "12")) ∷ []; tables = [] } ∷ []) 31 ([]) (reply (answer.Committed (txn 3 1 2) 2) ∷ []))
    ∷ line 39 (event.Call 1 call.Begin) (shown.Step ([]) 31 ([]) (reply (answer.Begun (txn 1 1 2) (view 1 1)) ∷ []))
    ∷ line 40 (event.Call 1 (call.Read (txn 1 1 2) 1 (codes "x"))) (shown.Step ([]) 31 ([]) (reply (answer.Value (txn 1 1 2) 1 (codes "11")) ∷ []))
    ∷ line 41 (event.Call 1 (call.Commit (txn 1 1 2) 2)) (shown.Step (record { txn = (txn 1 1 2); view = (view 1 1); ops = op.Read 0 (Some (codes "11")) ∷ []; tables = [] } ∷ []) 31 ([]) (reply (answer.Committed (txn 1 1 2) 2) ∷ []))
    ∷ line 42 (event.Call 1 call.Begin) (shown.Step ([]) 31 ([]) (reply (answer.Begun (txn 1 1 3) (view 1 1)) ∷ []))
    ∷ line 43 (event.Call 1 (call.Write (txn 1 1 3) 1 (codes "x") (codes "13"))) (shown.Step ([]) 31 (sent 1 2 (message.WriteRequest (txn 1 1 3) (view 1 1) 1 0) ∷ []) ([]))
    ∷ line 44 (event.Deliver 30) (shown.Step ([]) 32 (sent 2 3 (message.Ack (txn 3 1 1)) ∷ []) ([]))
    ∷ line 45 (event.Deliver 31) (shown.Step ([]) 33 (sent 2 1 (message.Refuse (txn 1 1 3) 1 (obstacle.OtherView (Some (view 1 3)))) ∷ []) ([]))
    ∷ []

abbrev pub history : List Commit
history =
    record { txn = (txn 1 1 1); view = (view 1 1); ops = op.Write 0 (Some (codes "11")) ∷ []; tables = [] }
    ∷ record { txn = (txn 1 1 2); view = (view 1 1); ops = op.Read 0 (Some (codes "11")) ∷ []; tables = [] }
    ∷ record { txn = (txn 3 1 1); view = (view 1 3); ops = []; tables = (0, ((1, 1) ∷ (2, 1) ∷ (3, 5) ∷ [])) ∷ [] }
    ∷ record { txn = (txn 3 1 2); view = (view 2 3); ops = op.Write 0 (Some (codes "12")) ∷ []; tables = [] }
    ∷ []
