-- A worked schedule and its lines. Messages come twice and out of order, and a call comes twice; each is done once.
use Rattle.std.specs.Prelude.{ℕ, List, [], ◌∷◌, true, codes, Some}
use Rattle.vp_model.specs.Types.{Commit, Line}
use Rattle.vp_model.specs.Types.message
use Rattle.vp_model.specs.Types.answer
use Rattle.vp_model.specs.Types.op
use Rattle.vp_model.specs.Types.call
use Rattle.vp_model.specs.Types.event
use Rattle.vp_model.specs.Types.shown
use Rattle.vp_model.specs.World.{Schedule}
use Rattle.vp_model.specs.Worked.{view, txn, sent, reply, committed, line, stored, value}

abbrev pub schedule : Schedule
schedule = record {
  catalogue = record { sites = ((1, 7001) ∷ (2, 7002) ∷ []); records = (stored (codes "x") (codes "10") ((1, 1) ∷ (2, 1) ∷ []) ∷ []) };
  events =
      event.Call 1 call.Begin
      ∷ event.Call 1 (call.Write (txn 1 1 1) 1 (codes "x") (codes "11"))
      ∷ event.Deliver 1
      ∷ event.Deliver 1
      ∷ event.Deliver 3
      ∷ event.Deliver 2
      ∷ event.Call 1 (call.Commit (txn 1 1 1) 2)
      ∷ event.Deliver 4
      ∷ event.Deliver 4
      ∷ event.Deliver 6
      ∷ event.Deliver 5
      ∷ event.Deliver 7
      ∷ event.Deliver 7
      ∷ event.Deliver 1
      ∷ event.Deliver 4
      ∷ event.Call 1 (call.Commit (txn 1 1 1) 2)
      ∷ [];
}

abbrev pub lines : List (ℕ × Line)
lines =
    line 1 (event.Call 1 call.Begin) (shown.Step [] 1 [] (reply (answer.Begun (txn 1 1 1) (view 0 0)) ∷ []))
    ∷ line 2 (event.Call 1 (call.Write (txn 1 1 1) 1 (codes "x") (codes "11"))) (shown.Step [] 1 (sent 1 2 (message.WriteRequest (txn 1 1 1) (view 0 0) 1 0) ∷ []) [])
    ∷ line 3 (event.Deliver 1) (shown.Step [] 2 (sent 2 1 (message.WriteAnswer (txn 1 1 1) 1) ∷ []) [])
    ∷ line 4 (event.Deliver 1) (shown.Step [] 3 (sent 2 1 (message.WriteAnswer (txn 1 1 1) 1) ∷ []) [])
    ∷ line 5 (event.Deliver 3) (shown.Step [] 4 [] (reply (answer.Written (txn 1 1 1) 1) ∷ []))
    ∷ line 6 (event.Deliver 2) (shown.Step [] 4 [] [])
    ∷ line 7 (event.Call 1 (call.Commit (txn 1 1 1) 2)) (shown.Step [] 4 (sent 1 2 (message.Prepare (txn 1 1 1) (view 0 0) 2 [] ((0, value (codes "11")) ∷ [])) ∷ []) [])
    ∷ line 8 (event.Deliver 4) (shown.Step [] 5 (sent 2 1 (message.Vote (txn 1 1 1)) ∷ []) [])
    ∷ line 9 (event.Deliver 4) (shown.Step [] 6 (sent 2 1 (message.Vote (txn 1 1 1)) ∷ []) [])
    ∷ line 10 (event.Deliver 6) (shown.Step (committed (txn 1 1 1) (view 0 0) (op.Write 0 (Some (codes "11")) ∷ []) ∷ []) 7 (sent 1 2 (message.Outcome (txn 1 1 1) true) ∷ []) (reply (answer.Committed (txn 1 1 1) 2) ∷ []))
    ∷ line 11 (event.Deliver 5) (shown.Step [] 8 [] [])
    ∷ line 12 (event.Deliver 7) (shown.Step [] 8 (sent 2 1 (message.Ack (txn 1 1 1)) ∷ []) [])
    ∷ line 13 (event.Deliver 7) (shown.Step [] 9 (sent 2 1 (message.Ack (txn 1 1 1)) ∷ []) [])
    ∷ line 14 (event.Deliver 1) (shown.Step [] 10 [] [])
    ∷ line 15 (event.Deliver 4) (shown.Step [] 10 [] [])
    ∷ line 16 (event.Call 1 (call.Commit (txn 1 1 1) 2)) (shown.Step [] 10 [] (reply (answer.Committed (txn 1 1 1) 2) ∷ []))
    ∷ []

-- the committed transactions, by view and then by moment of commit
abbrev pub history : List Commit
history =
    committed (txn 1 1 1) (view 0 0) (op.Write 0 (Some (codes "11")) ∷ [])
    ∷ []
