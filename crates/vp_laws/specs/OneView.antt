-- Schedules in which every view that a site holds is the opening one.
use Rattle.std.specs.Prelude.{◌≡◌, ℕ, Some, IsSome}
use Rattle.std.specs.List.{Contains}
use Rattle.vp_model.specs.Types.{View}
use Rattle.vp_model.specs.Words.{opening}
use Rattle.vp_model.specs.Catalogue.{start_values}
use Rattle.vp_model.specs.Site.{SiteState}
use Rattle.vp_model.specs.World.{Schedule, Moment, site_of, moments_of, journal_of}
use Rattle.vp_model.specs.OneCopy.{serial}
use Rattle.vp_model.specs.Headline.{IsTold}

-- no site leaves the opening view for another: whatever view a site holds before a step of the schedule is the opening one
abbrev pub StaysInOpening : Schedule → Type 0
StaysInOpening s = (m : Moment) (site : ℕ) (x : SiteState) (v : View) → Contains (moments_of s) m → site_of m.before site ≡ Some x → x.held ≡ Some v → v.id ≡ opening

-- the transactions can be played in the order in which they were committed, each once, and with the operations that their clients
-- were answered
pub record PlaysAsCommitted (s : Schedule) : Type 0 where
  pub serial : IsSome (serial (start_values s.catalogue) (journal_of s))
  pub told : IsTold s
