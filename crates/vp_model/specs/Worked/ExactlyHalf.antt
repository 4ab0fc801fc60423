-- A worked schedule and its lines. A record is not accessible with exactly half of the weight of its copies, and is with more.
use Rattle.std.specs.Prelude.{ℕ, List, [], ◌∷◌, None, codes, Some}
use Rattle.vp_model.specs.Types.{Commit, Line}
use Rattle.vp_model.specs.Types.message
use Rattle.vp_model.specs.Types.answer
use Rattle.vp_model.specs.Types.call
use Rattle.vp_model.specs.Types.event
use Rattle.vp_model.specs.Types.shown
use Rattle.vp_model.specs.World.{Schedule}
use Rattle.vp_model.specs.Worked.{view, txn, sent, reply, line, stored}

abbrev pub schedule : Schedule
schedule = record {
  catalogue = record { sites = ((1, 7001) ∷ (2, 7002) ∷ (3, 7003) ∷ []); records = (stored (codes "y") (codes "5") ((1, 2) ∷ (2, 1) ∷ (3, 1) ∷ []) ∷ []) };
  events =
      event.Call 1 call.Regroup
      ∷ event.Tick 1
      ∷ event.Call 1 call.Begin
      ∷ event.Call 1 (call.Read (txn 1 1 1) 1 (codes "y"))
      ∷ event.Call 1 call.Regroup
      ∷ event.Deliver 3
      ∷ event.Deliver 5
      ∷ event.Tick 1
      ∷ event.Deliver 6
      ∷ event.Deliver 7
      ∷ event.Deliver 9
      ∷ event.Call 1 call.Begin
      ∷ event.Call 1 (call.Read (txn 1 1 2) 1 (codes "y"))
      ∷ event.Call 1 (call.Read (txn 1 1 1) 1 (codes "y"))
      ∷ [];
}

abbrev pub lines : List (ℕ × Line)
lines =
    line 1 (event.Call 1 call.Regroup) (shown.Step [] 1 (sent 1 2 (message.Invite (view 1 1)) ∷ sent 1 3 (message.Invite (view 1 1)) ∷ []) (reply (answer.Inviting (view 1 1)) ∷ []))
    ∷ line 2 (event.Tick 1) (shown.Step [] 3 [] [])
    ∷ line 3 (event.Call 1 call.Begin) (shown.Step [] 3 [] (reply (answer.Begun (txn 1 1 1) (view 1 1)) ∷ []))
    ∷ line 4 (event.Call 1 (call.Read (txn 1 1 1) 1 (codes "y"))) (shown.Step [] 3 [] (reply (answer.Inaccessible (txn 1 1 1) 1 (codes "y") 2 4) ∷ []))
    ∷ line 5 (event.Call 1 call.Regroup) (shown.Step [] 3 (sent 1 2 (message.Invite (view 2 1)) ∷ sent 1 3 (message.Invite (view 2 1)) ∷ []) (reply (answer.Inviting (view 2 1)) ∷ []))
    ∷ line 6 (event.Deliver 3) (shown.Step [] 5 (sent 2 1 (message.Accept (view 2 1)) ∷ []) [])
    ∷ line 7 (event.Deliver 5) (shown.Step [] 6 [] [])
    ∷ line 8 (event.Tick 1) (shown.Step [] 6 (sent 1 2 (message.ViewCommit (view 2 1) (1 ∷ 2 ∷ [])) ∷ sent 1 2 (message.RefreshRequest (view 2 1) 0) ∷ []) [])
    ∷ line 9 (event.Deliver 6) (shown.Step [] 8 (sent 2 1 (message.RefreshRequest (view 2 1) 0) ∷ []) [])
    ∷ line 10 (event.Deliver 7) (shown.Step [] 9 (sent 2 1 (message.RefreshAnswer (view 2 1) 0 (record { value = Some (codes "5"); table = None; date = (view 0 0) })) ∷ []) [])
    ∷ line 11 (event.Deliver 9) (shown.Step [] 10 [] [])
    ∷ line 12 (event.Call 1 call.Begin) (shown.Step [] 10 [] (reply (answer.Begun (txn 1 1 2) (view 2 1)) ∷ []))
    ∷ line 13 (event.Call 1 (call.Read (txn 1 1 2) 1 (codes "y"))) (shown.Step [] 10 [] (reply (answer.Value (txn 1 1 2) 1 (codes "5")) ∷ []))
    ∷ line 14 (event.Call 1 (call.Read (txn 1 1 1) 1 (codes "y"))) (shown.Step [] 10 [] (reply (answer.ViewChanged (txn 1 1 1) 1 1 (view 1 1) None) ∷ []))
    ∷ []

-- the committed transactions, by view and then by moment of commit
abbrev pub history : List Commit
history =
    []
