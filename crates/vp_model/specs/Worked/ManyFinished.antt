-- A site begins and aborts 1,025 transactions; the first of them is forgotten.
use Rattle.std.specs.Prelude.{ℕ, List, [], ◌∷◌, ◌++◌, flat_map, codes}
use Rattle.vp_model.specs.Types.{Event, Line}
use Rattle.vp_model.specs.Types.answer
use Rattle.vp_model.specs.Types.call
use Rattle.vp_model.specs.Types.event
use Rattle.vp_model.specs.Types.shown
use Rattle.vp_model.specs.World.{Schedule}
use Rattle.vp_model.specs.Worked.{txn, reply, line, stored}
use Rattle.vp_model.specs.Worked.TooManyOps.{numbers_from}

abbrev pub abort : ℕ → Event
abort n = event.Call 1 (call.Abort (txn 1 1 n) 1)

abbrev pub schedule : Schedule
schedule = record {
  catalogue = record { sites = ((1, 7001) ∷ []); records = (stored (codes "x") (codes "10") ((1, 1) ∷ []) ∷ []) };
  events = flat_map (λ n. event.Call 1 call.Begin ∷ abort n ∷ []) (numbers_from 1 1025) ++ abort 1 ∷ abort 2 ∷ [];
}

-- the lines of the calls on the first two of them
abbrev pub last_lines : List (ℕ × Line)
last_lines =
    line 2051 (abort 1) (shown.Step [] 1 [] (reply (answer.Unknown (txn 1 1 1)) ∷ []))
    ∷ line 2052 (abort 2) (shown.Step [] 1 [] (reply (answer.Aborted (txn 1 1 2) 1) ∷ []))
    ∷ []
