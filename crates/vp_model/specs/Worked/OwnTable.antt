-- A worked schedule and its lines.
use Rattle.std.specs.Prelude.{ℕ, Some, None, List, [], ◌∷◌, codes}
use Rattle.vp_model.specs.Types.{Commit, Line}
use Rattle.vp_model.specs.Types.message
use Rattle.vp_model.specs.Types.answer
use Rattle.vp_model.specs.Types.call
use Rattle.vp_model.specs.Types.event
use Rattle.vp_model.specs.Types.shown
use Rattle.vp_model.specs.World.{Schedule}
use Rattle.vp_model.specs.Worked.{view, txn, sent, reply, line, stored}

abbrev pub schedule : Schedule
schedule = record {
  catalogue = record { sites = ((1, 7001) ∷ (2, 7002) ∷ (3, 7003) ∷ []); records = (stored (codes "x") (codes "10") ((1, 1) ∷ (2, 1) ∷ (3, 1) ∷ []) ∷ []) };
  events =
      event.Cut 1 3
      ∷ event.Cut 2 3
      ∷ event.Call 1 call.Regroup
      ∷ event.Deliver 1
      ∷ event.Deliver 2
      ∷ event.Deliver 3
      ∷ event.Tick 1
      ∷ event.Deliver 4
      ∷ event.Flow 9
      ∷ event.Call 1 call.Begin
      ∷ event.Call 1 (call.Weigh (txn 1 1 1) 1 (codes "x") ((1, 1) ∷ (2, 1) ∷ (3, 9) ∷ []))
      ∷ [];
}

abbrev pub lines : List (ℕ × Line)
lines =
    line 1 (event.Cut 1 3) shown.Nothing
    ∷ line 2 (event.Cut 2 3) shown.Nothing
    ∷ line 3 (event.Call 1 call.Regroup) (shown.Step ([]) 1 (sent 1 2 (message.Invite (view 1 1)) ∷ sent 1 3 (message.Invite (view 1 1)) ∷ []) (reply (answer.Inviting (view 1 1)) ∷ []))
    ∷ line 4 (event.Deliver 1) (shown.Step ([]) 3 (sent 2 1 (message.Accept (view 1 1)) ∷ []) ([]))
    ∷ line 5 (event.Deliver 2) (shown.Parted 1 3)
    ∷ line 6 (event.Deliver 3) (shown.Step ([]) 4 ([]) ([]))
    ∷ line 7 (event.Tick 1) (shown.Step ([]) 4 (sent 1 2 (message.ViewCommit (view 1 1) (1 ∷ 2 ∷ [])) ∷ sent 1 2 (message.RefreshRequest (view 1 1) 0) ∷ []) ([]))
    ∷ line 8 (event.Deliver 4) (shown.Step ([]) 6 (sent 2 1 (message.RefreshRequest (view 1 1) 0) ∷ []) ([]))
    ∷ line 9 (event.Deliver 5) (shown.Step ([]) 7 (sent 2 1 (message.RefreshAnswer (view 1 1) 0 (record { value = (Some (codes "10")); table = None; date = (view 0 0) })) ∷ []) ([]))
    ∷ line 9 (event.Deliver 6) (shown.Step ([]) 8 (sent 1 2 (message.RefreshAnswer (view 1 1) 0 (record { value = (Some (codes "10")); table = None; date = (view 0 0) })) ∷ []) ([]))
    ∷ line 9 (event.Deliver 7) (shown.Step ([]) 9 ([]) ([]))
    ∷ line 9 (event.Deliver 8) (shown.Step ([]) 9 ([]) ([]))
    ∷ line 10 (event.Call 1 call.Begin) (shown.Step ([]) 9 ([]) (reply (answer.Begun (txn 1 1 1) (view 1 1)) ∷ []))
    ∷ line 11 (event.Call 1 (call.Weigh (txn 1 1 1) 1 (codes "x") ((1, 1) ∷ (2, 1) ∷ (3, 9) ∷ []))) (shown.Step ([]) 9 ([]) (reply (answer.Inaccessible (txn 1 1 1) 1 (codes "x") 2 11) ∷ []))
    ∷ []

abbrev pub history : List Commit
history =
    []
