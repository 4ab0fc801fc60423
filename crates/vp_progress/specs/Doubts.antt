-- What cannot be mended without its coordinator.
use Rattle.std.specs.Prelude.{◌≡◌, ℕ, false, List, [], Option, None, Some}
use Rattle.std.specs.List.{Contains}
use Rattle.vp_model.specs.Types.{Doubt, Event}
use Rattle.vp_model.specs.Words.{has}
use Rattle.vp_model.specs.World.{Place, WorldState, Schedule, place_of}
use Rattle.vp_progress.specs.Going.{goes_on, EachPasses, mends}
use Rattle.vp_progress.specs.Progress.{world_of}

abbrev pub doubts_in : Option Place → List Doubt
doubts_in None = []
doubts_in (Some place) = place.durable.doubts

-- what a site is in doubt about, be it up or down
abbrev pub doubts_of : WorldState → ℕ → List Doubt
doubts_of w site = doubts_in (place_of site w.places)

-- A doubt stays, however these sites are mended, while nothing happens at its coordinator and no message comes from it: its records
-- stay locked at that site.
abbrev pub DoubtsStay : Type 0
DoubtsStay =
    (s : Schedule) (ns : List ℕ) (q : ℕ) (d : Doubt) (more : List Event)
    → has ns d.txn.site ≡ false
    → Contains (doubts_of (world_of s) q) d
    → EachPasses s.catalogue (mends ns) (world_of s) more
    → Contains (doubts_of (world_of (goes_on s more)) q) d
