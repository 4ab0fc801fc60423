-- What holds of the logs that every schedule leaves.
use Rattle.std.specs.Prelude.{◌≡◌, ℕ, Some}
use Rattle.std.specs.List.{AllByRecursion}
use Rattle.vp_catalog.specs.Document.{IsCatalogue}
use Rattle.vp_laws.specs.ShapeLaws.{IsEvent}
use Rattle.vp_model.specs.World.{Place, Schedule, place_of, run_of}
use Rattle.vp_runs.specs.Keeping.{durable_in}
use Rattle.vp_runs.specs.Kept.{kept}
use Rattle.vp_runs.specs.Lives.{IsOfNode}

-- What a schedule leaves in the log of a site is the durable part of the site.
abbrev pub LogsKeepPlaces : Type 0
LogsKeepPlaces = (s : Schedule) (id : ℕ) (place : Place) → place_of id (run_of s).world.places ≡ Some place → durable_in s.catalogue id (kept s id) ≡ place.durable

-- Over a catalogue in the grammar and with calls in it, it is the log of the site's node, which is in the state of the site if that is
-- up.
abbrev pub LogsAreOfNodes : Type 0
LogsAreOfNodes = (s : Schedule) (id : ℕ) (place : Place) → IsCatalogue s.catalogue → AllByRecursion IsEvent s.events → place_of id (run_of s).world.places ≡ Some place
    → IsOfNode s.catalogue id (kept s id) place.up
