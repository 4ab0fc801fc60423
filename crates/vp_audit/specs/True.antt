-- What a report says of the one copy.
use Rattle.std.specs.Prelude.{◌≡◌, ◌⊎◌, ℕ, true, List, Some, None}
use Rattle.std.specs.List.{Contains}
use Rattle.vp_model.specs.Types.{Stored, Commit}
use Rattle.vp_model.specs.Catalogue.{Catalogue, start_copies, start_values}
use Rattle.vp_model.specs.Durable.{DurableState, empty_durable}
use Rattle.vp_model.specs.Headline.{has_value}
use Rattle.vp_model.specs.OneCopy.{serial, order}
use Rattle.vp_model.specs.World.{WorldState, Moment, Schedule, start_place, place_of, moments_of}
use Rattle.vp_audit.specs.Audited.{Parts}
use Rattle.vp_audit.specs.declared.found.Can.TheVariants as can
use Rattle.vp_audit.specs.declared.found.Found.{Found}

-- The site is down, and has just this to keep.
abbrev pub IsDown : WorldState → ℕ × DurableState → Type 0
IsDown w part = place_of part.0 w.places ≡ Some (record { id = part.0; durable = part.1; up = None })

-- What it has to keep is that of an empty log, of life 0: a site that has not started. In a schedule, where each site begins in its first life,
-- it has done nothing yet.
pub record HasNotStarted (catalogue : Catalogue) (w : WorldState) (part : ℕ × DurableState) : Type 0 where
  pub empty : part.1 ≡ empty_durable (start_copies catalogue part.0)
  pub place : place_of part.0 w.places ≡ Some (start_place catalogue part.0)

-- The world has left these sites with these durable parts.
abbrev pub AreLeft : Catalogue → WorldState → Parts → Type 0
AreLeft catalogue w parts = (part : ℕ × DurableState) → Contains parts part → IsDown w part ⊎ HasNotStarted catalogue w part

-- Where a record's content, a value or none, is sure, the newest copy has the content that these committed transactions, by view and then by
-- moment of commit, leave on one copy.
abbrev pub IsTrueOf : Catalogue → List Commit → List Found → Type 0
IsTrueOf catalogue journal report =
    (f : Found) → Contains report f → f.can ≡ can.Yes → (copy : Stored) × (f.newest ≡ Some copy) × (has_value (serial (start_values catalogue) (order journal)) f.rec copy.value ≡ true)

abbrev pub IsTrueIn : Catalogue → WorldState → Parts → List Found → Type 0
IsTrueIn catalogue w parts report = AreLeft catalogue w parts → IsTrueOf catalogue w.journal report

-- So it is before and after each step of each schedule over the catalogue that has left these sites with just these durable parts. Of others
-- it says nothing: not of one in which a site has done something whose log is missing.
abbrev pub IsTrueReport : Catalogue → Parts → List Found → Type 0
IsTrueReport catalogue parts report =
    (s : Schedule) (m : Moment) → s.catalogue ≡ catalogue → Contains (moments_of s) m → IsTrueIn catalogue m.before parts report × IsTrueIn catalogue m.after parts report
