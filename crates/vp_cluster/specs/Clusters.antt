-- What the nodes are after some moments of a schedule.
use Rattle.std.specs.Prelude.{◌≡◌, ℕ, List, map, Some}
use Rattle.vp_model.specs.Words.{value_at}
use Rattle.vp_model.specs.Catalogue.{Catalogue}
use Rattle.vp_model.specs.World.{WorldState, Place, Moment, place_of}
use Rattle.vp_runs.specs.Kept.{kept_in}
use Rattle.vp_cluster.specs.Hosts.{HostValue, IsAt}
use Rattle.vp_cluster.specs.Letters.{letter_for}
use Rattle.vp_cluster.specs.Ports.{host_at}
use Rattle.vp_cluster.specs.Nodes.{NodesValue}

-- The host at this port is that of the site: up in its state or down, and its log has what these moments leave in it.
pub record HasSite (catalogue : Catalogue) (moments : List Moment) (w : WorldState) (nodes : NodesValue) (id port : ℕ) : Type 0 where
  pub place : Place
  pub place_is : place_of id w.places ≡ Some place
  pub host : HostValue
  pub host_is : host_at port nodes.hosts ≡ Some host
  pub id_is : host.id ≡ id
  pub at : IsAt (kept_in catalogue id moments) place.up host

-- This holds of each site, and each message that was sent is a letter.
pub record AreTied (catalogue : Catalogue) (moments : List Moment) (w : WorldState) (nodes : NodesValue) : Type 0 where
  pub catalogue_is : nodes.catalogue ≡ catalogue
  pub sites : (id port : ℕ) → value_at id catalogue.sites ≡ Some port → HasSite catalogue moments w nodes id port
  pub letters : nodes.letters ≡ map (letter_for catalogue) w.sent
