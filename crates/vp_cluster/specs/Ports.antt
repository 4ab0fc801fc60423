-- The hosts of a catalogue, each at the port of its site.
use Rattle.std.specs.Prelude.{◌≡◌, ◌≢◌, ℕ, ◌==◌, List, map, find, Option, Some, None}
use Rattle.std.specs.List.{AllByRecursion}
use Rattle.vp_model.specs.Words.{value_at}
use Rattle.vp_model.specs.Catalogue.{Catalogue}
use Rattle.vp_model.specs.Site.{SiteState}
use Rattle.vp_cluster.specs.Hosts.{HostValue, address_of, IsHost, Lends, Begins}

-- what contracts see of the hosts of a catalogue
pub record HostsValue : Type 0 where
  pub catalogue : Catalogue
  pub hosts : List HostValue

-- There is a host for each site of the catalogue, in its order.
pub record AreHosts (catalogue : Catalogue) (hosts : List HostValue) : Type 0 where
  pub sites_are : map address_of hosts ≡ catalogue.sites
  pub each : AllByRecursion (IsHost catalogue) hosts

-- each in the first life of its site
pub record AreBegun (catalogue : Catalogue) (hosts : List HostValue) : Type 0 where
  pub sites_are : map address_of hosts ≡ catalogue.sites
  pub each : AllByRecursion (λ host. Begins catalogue host.id host.port host) hosts

-- the host at this port
abbrev pub host_at : ℕ → List HostValue → Option HostValue
host_at port hosts = find (λ (host : HostValue). host.port == port) hosts

-- the site can be lent to the host at this port
abbrev pub LendsAt : Catalogue → SiteState → ℕ → List HostValue → Type 0
LendsAt catalogue site port hosts = (host : HostValue) × (host_at port hosts ≡ Some host) × Lends catalogue site host

-- there is a host for this site
abbrev pub HasHost : Catalogue → ℕ → List HostValue → Type 0
HasHost catalogue site hosts = (port : ℕ) × (host : HostValue) × (value_at site catalogue.sites ≡ Some port) × (host_at port hosts ≡ Some host)

-- The host at this port changes like this, and the others don't.
pub record ChangesAt (port : ℕ) (does : HostValue → HostValue → Type 0) (old new : List HostValue) : Type 0 where
  pub there : (host : HostValue) → host_at port old ≡ Some host → (after : HostValue) × (host_at port new ≡ Some after) × does host after
  pub others : (other : ℕ) → other ≢ port → host_at other new ≡ host_at other old

-- the host of a site of the catalogue changes like this; for another site none does
pub record ChangesOf (catalogue : Catalogue) (site : ℕ) (does : HostValue → HostValue → Type 0) (old new : List HostValue) : Type 0 where
  pub there : (port : ℕ) → value_at site catalogue.sites ≡ Some port → ChangesAt port does old new
  pub nowhere : value_at site catalogue.sites ≡ None → new ≡ old
