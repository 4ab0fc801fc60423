-- A schedule in a world with small limits: which limit ends it, and what is left of its trace.
use Rattle.std.specs.Prelude.{ℕ, List, [], ◌∷◌, codes}
use Rattle.vp_model.specs.Types.{Line}
use Rattle.vp_model.specs.Types.message
use Rattle.vp_model.specs.Types.answer
use Rattle.vp_model.specs.Types.call
use Rattle.vp_model.specs.Types.event
use Rattle.vp_model.specs.Types.shown
use Rattle.vp_model.specs.World.{Schedule}
use Rattle.vp_model.specs.Limits.{Limits}
use Rattle.vp_model.specs.Worked.{view, txn, sent, reply, line, stored}

abbrev pub at_most : ℕ → ℕ → Limits
at_most steps messages = record { steps = steps; messages = messages }

abbrev pub schedule : Schedule
schedule = record {
  catalogue = record { sites = ((1, 7001) ∷ (2, 7002) ∷ []); records = (stored (codes "x") (codes "10") ((1, 1) ∷ (2, 1) ∷ []) ∷ []) };
  events = event.Call 1 call.Begin ∷ event.Call 1 (call.Write (txn 1 1 1) 1 (codes "x") (codes "11")) ∷ event.Flow 5 ∷ event.Tick 1 ∷ [];
}

-- up to the line of the flow, whose first delivery is refused
abbrev pub no_delivery : List (ℕ × Line)
no_delivery =
    line 1 (event.Call 1 call.Begin) (shown.Step [] 1 [] (reply (answer.Begun (txn 1 1 1) (view 0 0)) ∷ []))
    ∷ line 2 (event.Call 1 (call.Write (txn 1 1 1) 1 (codes "x") (codes "11"))) (shown.Step [] 1 (sent 1 2 (message.WriteRequest (txn 1 1 1) (view 0 0) 1 0) ∷ []) [])
    ∷ line 3 (event.Flow 5) shown.Nothing
    ∷ []

-- up to the first delivery: the second one is refused
abbrev pub first_delivery : List (ℕ × Line)
first_delivery =
    line 3 (event.Deliver 1) (shown.Step [] 2 (sent 2 1 (message.WriteAnswer (txn 1 1 1) 1) ∷ []) [])
    ∷ []
