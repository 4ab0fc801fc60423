-- A site has 1,024 live transactions, and refuses to begin another.
use Rattle.std.specs.Prelude.{ℕ, List, [], ◌∷◌, map, codes}
use Rattle.vp_model.specs.Types.{Line}
use Rattle.vp_model.specs.Types.answer
use Rattle.vp_model.specs.Types.call
use Rattle.vp_model.specs.Types.event
use Rattle.vp_model.specs.Types.shown
use Rattle.vp_model.specs.World.{Schedule}
use Rattle.vp_model.specs.Worked.{reply, line, stored}
use Rattle.vp_model.specs.Worked.TooManyOps.{numbers_from}

abbrev pub schedule : Schedule
schedule = record {
  catalogue = record { sites = ((1, 7001) ∷ []); records = (stored (codes "x") (codes "10") ((1, 1) ∷ []) ∷ []) };
  events = map (λ n. event.Call 1 call.Begin) (numbers_from 1 1025);
}

-- the line of the refused one
abbrev pub last_lines : List (ℕ × Line)
last_lines = line 1025 (event.Call 1 call.Begin) (shown.Step [] 1 [] (reply answer.TooManyLive ∷ [])) ∷ []
