-- What a contract sees of a world.
use Rattle.std.specs.Prelude.{◌≤◌, length}
use Rattle.vp_model.specs.Catalogue.{Catalogue}
use Rattle.vp_model.specs.World.{WorldState}

-- a world with the catalogue of its sites
pub record Known : Type 0 where
  pub catalogue : Catalogue
  pub world : WorldState

-- no limit is exceeded
pub record IsWithinLimits (w : WorldState) : Type 0 where
  pub steps : w.steps ≤ 100000
  pub messages : length w.sent ≤ 2000000
