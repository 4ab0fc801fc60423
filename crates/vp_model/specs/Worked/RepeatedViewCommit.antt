-- A worked schedule and its lines. The message that fixed a view comes again after a crash and a restart of its receiver, which
-- does not join.
use Rattle.std.specs.Prelude.{ℕ, List, [], ◌∷◌, codes}
use Rattle.vp_model.specs.Types.{Commit, Line}
use Rattle.vp_model.specs.Types.message
use Rattle.vp_model.specs.Types.answer
use Rattle.vp_model.specs.Types.call
use Rattle.vp_model.specs.Types.event
use Rattle.vp_model.specs.Types.shown
use Rattle.vp_model.specs.World.{Schedule}
use Rattle.vp_model.specs.Worked.{view, sent, reply, line, stored}

abbrev pub schedule : Schedule
schedule = record {
  catalogue = record { sites = ((1, 7001) ∷ (2, 7002) ∷ (3, 7003) ∷ []); records = (stored (codes "x") (codes "10") ((1, 1) ∷ (2, 1) ∷ (3, 1) ∷ []) ∷ []) };
  events =
      event.Call 2 call.Regroup
      ∷ event.Deliver 2
      ∷ event.Deliver 3
      ∷ event.Tick 2
      ∷ event.Deliver 4
      ∷ event.Crash 3
      ∷ event.Restart 3
      ∷ event.Deliver 4
      ∷ event.Call 3 call.Begin
      ∷ [];
}

abbrev pub lines : List (ℕ × Line)
lines =
    line 1 (event.Call 2 call.Regroup) (shown.Step [] 1 (sent 2 1 (message.Invite (view 1 2)) ∷ sent 2 3 (message.Invite (view 1 2)) ∷ []) (reply (answer.Inviting (view 1 2)) ∷ []))
    ∷ line 2 (event.Deliver 2) (shown.Step [] 3 (sent 3 2 (message.Accept (view 1 2)) ∷ []) [])
    ∷ line 3 (event.Deliver 3) (shown.Step [] 4 [] [])
    ∷ line 4 (event.Tick 2) (shown.Step [] 4 (sent 2 3 (message.ViewCommit (view 1 2) (2 ∷ 3 ∷ [])) ∷ sent 2 3 (message.RefreshRequest (view 1 2) 0) ∷ []) [])
    ∷ line 5 (event.Deliver 4) (shown.Step [] 6 (sent 3 2 (message.RefreshRequest (view 1 2) 0) ∷ []) [])
    ∷ line 6 (event.Crash 3) (shown.Nothing)
    ∷ line 7 (event.Restart 3) (shown.Life 2)
    ∷ line 8 (event.Deliver 4) (shown.Step [] 7 [] [])
    ∷ line 9 (event.Call 3 call.Begin) (shown.Step [] 7 [] (reply (answer.NoView (view 1 2)) ∷ []))
    ∷ []

-- the committed transactions, by view and then by moment of commit
abbrev pub history : List Commit
history =
    []
