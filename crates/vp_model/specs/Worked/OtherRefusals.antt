-- A worked schedule and its lines. An unknown transaction, a skipped number, an unknown record and a call that is still pending are
-- refused; then a call comes again, and the transaction is aborted.
use Rattle.std.specs.Prelude.{ℕ, List, [], ◌∷◌, false, codes}
use Rattle.vp_model.specs.Types.{Commit, Line}
use Rattle.vp_model.specs.Types.message
use Rattle.vp_model.specs.Types.answer
use Rattle.vp_model.specs.Types.call
use Rattle.vp_model.specs.Types.event
use Rattle.vp_model.specs.Types.shown
use Rattle.vp_model.specs.World.{Schedule}
use Rattle.vp_model.specs.Worked.{view, txn, sent, reply, line, stored}

abbrev pub schedule : Schedule
schedule = record {
  catalogue = record { sites = ((1, 7001) ∷ (2, 7002) ∷ []); records = (stored (codes "x") (codes "10") ((1, 1) ∷ (2, 1) ∷ []) ∷ []) };
  events =
      event.Call 1 call.Begin
      ∷ event.Call 1 (call.Commit (txn 1 1 9) 1)
      ∷ event.Call 1 (call.Read (txn 1 1 1) 2 (codes "x"))
      ∷ event.Call 1 (call.Read (txn 1 1 1) 1 (codes "z"))
      ∷ event.Call 1 (call.Write (txn 1 1 1) 1 (codes "x") (codes "11"))
      ∷ event.Call 1 (call.Write (txn 1 1 1) 1 (codes "x") (codes "11"))
      ∷ event.Deliver 1
      ∷ event.Deliver 2
      ∷ event.Call 1 (call.Write (txn 1 1 1) 1 (codes "x") (codes "11"))
      ∷ event.Call 1 (call.Abort (txn 1 1 1) 2)
      ∷ [];
}

abbrev pub lines : List (ℕ × Line)
lines =
    line 1 (event.Call 1 call.Begin) (shown.Step [] 1 [] (reply (answer.Begun (txn 1 1 1) (view 0 0)) ∷ []))
    ∷ line 2 (event.Call 1 (call.Commit (txn 1 1 9) 1)) (shown.Step [] 1 [] (reply (answer.Unknown (txn 1 1 9)) ∷ []))
    ∷ line 3 (event.Call 1 (call.Read (txn 1 1 1) 2 (codes "x"))) (shown.Step [] 1 [] (reply (answer.Skipped (txn 1 1 1) 1) ∷ []))
    ∷ line 4 (event.Call 1 (call.Read (txn 1 1 1) 1 (codes "z"))) (shown.Step [] 1 [] (reply (answer.NoRecord (txn 1 1 1) 1) ∷ []))
    ∷ line 5 (event.Call 1 (call.Write (txn 1 1 1) 1 (codes "x") (codes "11"))) (shown.Step [] 1 (sent 1 2 (message.WriteRequest (txn 1 1 1) (view 0 0) 1 0) ∷ []) [])
    ∷ line 6 (event.Call 1 (call.Write (txn 1 1 1) 1 (codes "x") (codes "11"))) (shown.Step [] 2 [] (reply (answer.Busy (txn 1 1 1) 1) ∷ []))
    ∷ line 7 (event.Deliver 1) (shown.Step [] 2 (sent 2 1 (message.WriteAnswer (txn 1 1 1) 1) ∷ []) [])
    ∷ line 8 (event.Deliver 2) (shown.Step [] 3 [] (reply (answer.Written (txn 1 1 1) 1) ∷ []))
    ∷ line 9 (event.Call 1 (call.Write (txn 1 1 1) 1 (codes "x") (codes "11"))) (shown.Step [] 3 [] (reply (answer.Written (txn 1 1 1) 1) ∷ []))
    ∷ line 10 (event.Call 1 (call.Abort (txn 1 1 1) 2)) (shown.Step [] 3 (sent 1 2 (message.Outcome (txn 1 1 1) false) ∷ []) (reply (answer.Aborted (txn 1 1 1) 2) ∷ []))
    ∷ []

-- the committed transactions, by view and then by moment of commit
abbrev pub history : List Commit
history =
    []
