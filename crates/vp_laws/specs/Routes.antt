-- Between which sites the messages of every schedule go.
use Rattle.std.specs.Prelude.{◌≡◌, true}
use Rattle.std.specs.List.{AllByRecursion}
use Rattle.vp_catalog.specs.Document.{IsCatalogue}
use Rattle.vp_model.specs.Types.{Sent}
use Rattle.vp_model.specs.Words.{has}
use Rattle.vp_model.specs.Catalogue.{Catalogue, sites_of}
use Rattle.vp_model.specs.World.{Schedule, run_of}

-- from a site of the catalogue to a site of the catalogue
pub record IsBetweenSites (catalogue : Catalogue) (sent : Sent) : Type 0 where
  pub from_is : has (sites_of catalogue) sent.from ≡ true
  pub to_is : has (sites_of catalogue) sent.to ≡ true

-- Over a catalogue that has a text, each message that was sent goes between two of its sites.
abbrev pub MessagesGoBetweenSites : Type 0
MessagesGoBetweenSites = (s : Schedule) → IsCatalogue s.catalogue → AllByRecursion (IsBetweenSites s.catalogue) (run_of s).world.sent
