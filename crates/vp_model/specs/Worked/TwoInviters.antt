-- A worked schedule and its lines. Two sites invite at once; the view with the higher identifier comes about.
use Rattle.std.specs.Prelude.{ℕ, List, [], ◌∷◌, codes}
use Rattle.vp_model.specs.Types.{Commit, Line}
use Rattle.vp_model.specs.Types.message
use Rattle.vp_model.specs.Types.answer
use Rattle.vp_model.specs.Types.call
use Rattle.vp_model.specs.Types.event
use Rattle.vp_model.specs.Types.shown
use Rattle.vp_model.specs.World.{Schedule}
use Rattle.vp_model.specs.Worked.{view, txn, sent, reply, line, stored}

abbrev pub schedule : Schedule
schedule = record {
  catalogue = record { sites = ((1, 7001) ∷ (2, 7002) ∷ []); records = (stored (codes "x") (codes "10") ((1, 1) ∷ (2, 1) ∷ []) ∷ []) };
  events =
      event.Call 1 call.Regroup
      ∷ event.Call 2 call.Regroup
      ∷ event.Deliver 1
      ∷ event.Deliver 2
      ∷ event.Deliver 3
      ∷ event.Deliver 4
      ∷ event.Tick 2
      ∷ event.Deliver 5
      ∷ event.Call 1 call.Begin
      ∷ [];
}

abbrev pub lines : List (ℕ × Line)
lines =
    line 1 (event.Call 1 call.Regroup) (shown.Step [] 1 (sent 1 2 (message.Invite (view 1 1)) ∷ []) (reply (answer.Inviting (view 1 1)) ∷ []))
    ∷ line 2 (event.Call 2 call.Regroup) (shown.Step [] 2 (sent 2 1 (message.Invite (view 1 2)) ∷ []) (reply (answer.Inviting (view 1 2)) ∷ []))
    ∷ line 3 (event.Deliver 1) (shown.Step [] 3 (sent 2 1 (message.Stale (view 1 1) (view 1 2)) ∷ []) [])
    ∷ line 4 (event.Deliver 2) (shown.Step [] 4 (sent 1 2 (message.Accept (view 1 2)) ∷ []) [])
    ∷ line 5 (event.Deliver 3) (shown.Step [] 5 [] [])
    ∷ line 6 (event.Deliver 4) (shown.Step [] 5 [] [])
    ∷ line 7 (event.Tick 2) (shown.Step [] 5 (sent 2 1 (message.ViewCommit (view 1 2) (1 ∷ 2 ∷ [])) ∷ sent 2 1 (message.RefreshRequest (view 1 2) 0) ∷ []) [])
    ∷ line 8 (event.Deliver 5) (shown.Step [] 7 (sent 1 2 (message.RefreshRequest (view 1 2) 0) ∷ []) [])
    ∷ line 9 (event.Call 1 call.Begin) (shown.Step [] 8 [] (reply (answer.Begun (txn 1 1 1) (view 1 2)) ∷ []))
    ∷ []

-- the committed transactions, by view and then by moment of commit
abbrev pub history : List Commit
history =
    []
