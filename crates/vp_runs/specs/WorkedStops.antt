-- Worked schedules, and what they become where a site stops within a step.
use Rattle.std.specs.Prelude.{List, [], ◌∷◌, Some, codes}
use Rattle.vp_model.specs.Types.{Event, Commit}
use Rattle.vp_model.specs.Types.call
use Rattle.vp_model.specs.Types.event
use Rattle.vp_model.specs.Types.op
use Rattle.vp_model.specs.Words.{opening}
use Rattle.vp_model.specs.World.{Schedule}
use Rattle.vp_runs.specs.Worked.{both, txn}

-- Site 1 decides in the second step of the second flow; it starts again later, and gets a tick.
abbrev pub decided_schedule : Schedule
decided_schedule = record {
  catalogue = both;
  events =
      event.Call 1 call.Begin
      ∷ event.Call 1 (call.Write (txn 1) 1 (codes "x") (codes "11"))
      ∷ event.Flow 2
      ∷ event.Call 1 (call.Commit (txn 1) 2)
      ∷ event.Flow 4
      ∷ event.Restart 1
      ∷ event.Tick 1
      ∷ event.Deliver 5
      ∷ event.Flow 3
      ∷ [];
}

-- Site 2 is left in doubt: nobody got the vote, and no flow delivers it again.
abbrev pub without_decision : List Event
without_decision =
    event.Call 1 call.Begin
    ∷ event.Call 1 (call.Write (txn 1) 1 (codes "x") (codes "11"))
    ∷ event.Deliver 1
    ∷ event.Deliver 2
    ∷ event.Call 1 (call.Commit (txn 1) 2)
    ∷ event.Deliver 3
    ∷ event.Crash 1
    ∷ event.Restart 1
    ∷ event.Tick 1
    ∷ event.Deliver 5
    ∷ event.Deliver 6
    ∷ []

-- Message 5 is the outcome, which nobody gets; the tick sends it again.
abbrev pub with_decision : List Event
with_decision =
    event.Call 1 call.Begin
    ∷ event.Call 1 (call.Write (txn 1) 1 (codes "x") (codes "11"))
    ∷ event.Deliver 1
    ∷ event.Deliver 2
    ∷ event.Call 1 (call.Commit (txn 1) 2)
    ∷ event.Deliver 3
    ∷ event.Deliver 4
    ∷ event.Crash 1
    ∷ event.Restart 1
    ∷ event.Tick 1
    ∷ event.Deliver 6
    ∷ event.Deliver 7
    ∷ event.Deliver 8
    ∷ event.Deliver 9
    ∷ []

abbrev pub one_commit : List Commit
one_commit = record { txn = txn 1; view = opening; ops = op.Write 0 (Some (codes "11")) ∷ []; tables = [] } ∷ []

abbrev pub restart_schedule : Schedule
restart_schedule = record { catalogue = both; events = event.Crash 1 ∷ event.Restart 1 ∷ [] }
