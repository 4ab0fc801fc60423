-- A schedule without events.
use Rattle.std.specs.Prelude.{ℕ, List, [], ◌∷◌, codes}
use Rattle.vp_model.specs.World.{Schedule}
use Rattle.vp_model.specs.Worked.{stored}

abbrev pub schedule : Schedule
schedule = record {
  catalogue = record { sites = ((1, 7001) ∷ (2, 7002) ∷ []); records = (stored (codes "x") (codes "10") ((1, 1) ∷ (2, 1) ∷ []) ∷ []) };
  events = [];
}

abbrev pub history : List ℕ
history = codes "history\nstart x 10\nend 0\n"
