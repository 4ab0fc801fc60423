-- Any sites can be brought together, whatever the others do.
use Rattle.std.specs.Prelude.{◌≡◌, ℕ, true, false, List, ◌∷◌}
use Rattle.std.specs.List.{Contains}
use Rattle.vp_model.specs.Types.{Doubt, Event}
use Rattle.vp_model.specs.Words.{has}
use Rattle.vp_model.specs.Catalogue.{sites_of}
use Rattle.vp_model.specs.World.{WorldState, Schedule, place_of}
use Rattle.vp_progress.specs.Going.{goes_on, EachPasses, AreFresh, mends}
use Rattle.vp_progress.specs.Whole.{AreUnspent}
use Rattle.vp_progress.specs.Progress.{world_of}
use Rattle.vp_progress.specs.Doubts.{doubts_of}
use Rattle.vp_progress.specs.Together.{AreTogether}

-- Nothing happens at another site, up or down. Of the doubts at these sites those of coordinators elsewhere stay, and there is no new one.
-- Nothing is committed.
pub record LeavesOthers (sites : List ℕ) (w new : WorldState) : Type 0 where
  pub others : (q : ℕ) → has sites q ≡ false → place_of q new.places ≡ place_of q w.places
  pub doubts : (q : ℕ) (d : Doubt) → has sites d.txn.site ≡ false → Contains (doubts_of w q) d → Contains (doubts_of new q) d
  pub known : (q : ℕ) (d : Doubt) → Contains (doubts_of new q) d → Contains (doubts_of w q) d
  pub journal : new.journal ≡ w.journal

-- Events that mend these sites alone bring them together, by messages that they send themselves.
pub record CanMeet (s : Schedule) (sites : List ℕ) : Type 0 where
  pub more : List Event
  pub mending : EachPasses s.catalogue (mends sites) (world_of s) more
  pub fresh : AreFresh (world_of s) more
  pub together : AreTogether s.catalogue sites (world_of (goes_on s more))
  pub leaves : LeavesOthers sites (world_of s) (world_of (goes_on s more))

-- Any sites of the catalogue, one or more, at which no number is spent.
abbrev pub SitesCanMeet : Type 0
SitesCanMeet =
    (s : Schedule) (first : ℕ) (rest : List ℕ)
    → ((q : ℕ) → has (first ∷ rest) q ≡ true → has (sites_of s.catalogue) q ≡ true)
    → AreUnspent (first ∷ rest) (world_of s)
    → CanMeet s (first ∷ rest)
