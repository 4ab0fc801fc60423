-- What happens after a stop: the site that stopped starts from the log that it has left.
use Rattle.std.specs.Prelude.{◌≡◌, ◌≢◌, ℕ, List, Some, None, IfSome}
use Rattle.vp_model.specs.Types.{LogRecord}
use Rattle.vp_model.specs.Words.{value_at}
use Rattle.vp_model.specs.Catalogue.{Catalogue}
use Rattle.vp_model.specs.World.{WorldState, Place, place_of}
use Rattle.vp_runs.specs.Keeping.{durable_in}
use Rattle.vp_world.specs.Asked.{Asked}
use Rattle.vp_cluster.specs.Hosts.{HostValue, IsAt}
use Rattle.vp_cluster.specs.Ports.{host_at}
use Rattle.vp_cluster.specs.Nodes.{NodesValue, MayDo, Does}
use Rattle.vp_stopping.specs.declared.after_stop.AfterStop.{AfterStop}

-- the first start of the site that stopped is asked of its node, and all else of the sites
abbrev pub MayAfterStop : Catalogue → Asked → AfterStop → Type 0
MayAfterStop catalogue (Asked.steps e site given) following = Unit {0}
MayAfterStop catalogue (Asked.crashes id) following = Unit {0}
MayAfterStop catalogue (Asked.restarts id site) following = following.stopped ≡ Some id → MayDo catalogue (Asked.restarts id site) following.nodes

-- That site starts from its log as the stop has left it, whatever batches that has; and nothing else is done to the nodes.
abbrev pub DoesAfterStop : Asked → AfterStop → AfterStop → Type 0
DoesAfterStop (Asked.steps e site given) old new = new ≡ old
DoesAfterStop (Asked.crashes id) old new = new ≡ old
DoesAfterStop (Asked.restarts id site) old new =
    (old.stopped ≡ Some id → Does (Asked.restarts id site) old.nodes new.nodes × (new.stopped ≡ None)) × (old.stopped ≢ Some id → new ≡ old)

-- The site is down, and the batches that its node has left fold to its durable part.
pub record Waits (catalogue : Catalogue) (w : WorldState) (id : ℕ) (nodes : NodesValue) : Type 0 where
  pub place : Place
  pub place_is : place_of id w.places ≡ Some place
  pub is_down : place.up ≡ None
  pub port : ℕ
  pub port_is : value_at id nodes.catalogue.sites ≡ Some port
  pub host : HostValue
  pub host_is : host_at port nodes.hosts ≡ Some host
  pub id_is : host.id ≡ id
  pub batches : List (List LogRecord)
  pub down : IsAt batches None host
  pub folds : durable_in catalogue id batches ≡ place.durable
  pub same_catalogue : nodes.catalogue ≡ catalogue

-- this holds of the site that stopped, until it starts
abbrev pub IsAfterStop : Catalogue → WorldState → AfterStop → Type 0
IsAfterStop catalogue w following = IfSome following.stopped (λ id. Waits catalogue w id following.nodes)
