-- A site in doubt asks for the outcome of a transaction that is still live at its coordinator, which sends nothing; then the
-- transaction commits.
use Rattle.std.specs.Prelude.{ℕ, List, [], ◌∷◌, ◌++◌, true, take, codes, Some}
use Rattle.vp_model.specs.Types.{Line}
use Rattle.vp_model.specs.Types.message
use Rattle.vp_model.specs.Types.answer
use Rattle.vp_model.specs.Types.op
use Rattle.vp_model.specs.Types.event
use Rattle.vp_model.specs.Types.shown
use Rattle.vp_model.specs.World.{Schedule}
use Rattle.vp_model.specs.Worked.{view, txn, sent, reply, committed, line}
use Rattle.vp_model.specs.Worked.ForgottenDecision as forgotten

-- in the other schedule message 5, the inquiry, comes after the decision was forgotten
abbrev pub schedule : Schedule
schedule = record forgotten.schedule { events = take 7 forgotten.schedule.events ++ event.Deliver 5 ∷ event.Deliver 4 ∷ [] }

abbrev pub lines : List (ℕ × Line)
lines =
    take 7 forgotten.lines
    ++ line 8 (event.Deliver 5) (shown.Step [] 6 [] [])
    ∷ line 9 (event.Deliver 4) (shown.Step (committed (txn 1 1 1) (view 0 0) (op.Write 0 (Some (codes "11")) ∷ []) ∷ []) 6 (sent 1 2 (message.Outcome (txn 1 1 1) true) ∷ []) (reply (answer.Committed (txn 1 1 1) 2) ∷ []))
    ∷ []
