-- The nodes of a cluster: what they may be asked for, and what they make of that.
use Rattle.std.specs.Prelude.{◌≡◌, ℕ, List, [], ◌++◌, map, flat_map, Option, Some, None}
use Rattle.vp_model.specs.Types.{Event, Input, LogRecord}
use Rattle.vp_model.specs.Words.{value_at}
use Rattle.vp_model.specs.Catalogue.{Catalogue}
use Rattle.vp_model.specs.Site.{SiteState}
use Rattle.vp_runs.specs.declared.arrival.Arrival.TheVariants as arrives
use Rattle.vp_laws.specs.ShapeLaws.{IsEvent}
use Rattle.vp_runs.specs.Arrivals.{arrival}
use Rattle.vp_runs.specs.Keeping.{durable_in}
use Rattle.vp_runs.specs.Turns.{message_datagram}
use Rattle.vp_world.specs.Asked.{Asked, life_start}
use Rattle.vp_node.specs.declared.turned.TurnEffects.{TurnEffects}
use Rattle.vp_cluster.specs.declared.host.StoppedLog.{StoppedLog}
use Rattle.vp_cluster.specs.Hosts.{HostValue, IsAt, Takes, Stops, Crashes, Restarts, Begins}
use Rattle.vp_cluster.specs.Letter.{Letter, as_received}
use Rattle.vp_cluster.specs.Ports.{host_at, LendsAt, ChangesAt, ChangesOf}
use Rattle.vp_cluster.specs.Letters.{sent_from, letter_of}

-- what contracts see of the nodes: their catalogue, their hosts, and the letters of the messages that were sent so far, in order
pub record NodesValue : Type 0 where
  pub catalogue : Catalogue
  pub hosts : List HostValue
  pub letters : List Letter

-- ---- what they may be asked for

-- The event's letter brings this input to this site, which can be lent to the host at its port.
pub record MayStep (catalogue : Catalogue) (e : Event) (site : SiteState) (given : Input) (nodes : NodesValue) : Type 0 where
  pub formed : IsEvent e
  pub letter : Letter
  pub letter_is : letter_of nodes.catalogue nodes.letters e ≡ Some letter
  pub comes : arrival nodes.catalogue site.id (as_received letter) ≡ arrives.Gives given
  pub lent : LendsAt nodes.catalogue site letter.to nodes.hosts
  pub same_catalogue : nodes.catalogue ≡ catalogue

-- The site with this number is down at its host, and the log there starts it as this site, or as none if its lives are spent.
pub record MayRestart (catalogue : Catalogue) (id : ℕ) (site : Option SiteState) (nodes : NodesValue) : Type 0 where
  pub port : ℕ
  pub host : HostValue
  pub port_is : value_at id nodes.catalogue.sites ≡ Some port
  pub host_is : host_at port nodes.hosts ≡ Some host
  pub id_is : host.id ≡ id
  pub batches : List (List LogRecord)
  pub down : IsAt batches None host
  pub site_is : site ≡ life_start nodes.catalogue id (durable_in nodes.catalogue id batches)
  pub same_catalogue : nodes.catalogue ≡ catalogue

abbrev pub MayDo : Catalogue → Asked → NodesValue → Type 0
MayDo catalogue (Asked.steps e site given) nodes = MayStep catalogue e site given nodes
MayDo catalogue (Asked.crashes id) nodes = Unit {0}
MayDo catalogue (Asked.restarts id site) nodes = MayRestart catalogue id site nodes

-- ---- what they do

-- The letter comes to the host at its port, to which this site is lent. The datagrams of the messages of its step are letters from then
-- on.
abbrev pub Comes : Letter → SiteState → NodesValue → NodesValue → Type 0
Comes letter site old new = (after : SiteState) × (turn_effects : TurnEffects)
    × ChangesAt letter.to (λ host next. Takes old.catalogue (as_received letter) site host next after turn_effects) old.hosts new.hosts
    × (new.letters ≡ old.letters ++ map (sent_from letter.to) (flat_map (message_datagram old.catalogue) turn_effects.effects.messages))

-- The event's letter comes, to this site.
pub record Posts (e : Event) (site : SiteState) (old new : NodesValue) : Type 0 where
  pub letter : Letter
  pub letter_is : letter_of old.catalogue old.letters e ≡ Some letter
  pub comes : Comes letter site old new
  pub same_catalogue : new.catalogue ≡ old.catalogue

-- The host of the site with this number changes like this.
pub record ChangesHost (id : ℕ) (does : HostValue → HostValue → Type 0) (old new : NodesValue) : Type 0 where
  pub hosts : ChangesOf old.catalogue id does old.hosts new.hosts
  pub letters_stay : new.letters ≡ old.letters
  pub same_catalogue : new.catalogue ≡ old.catalogue

-- what they make of what they are asked for
abbrev pub Does : Asked → NodesValue → NodesValue → Type 0
Does (Asked.steps e site given) old new = Posts e site old new
Does (Asked.crashes id) old new = ChangesHost id (Crashes old.catalogue) old new
Does (Asked.restarts id site) old new = ChangesHost id (Restarts old.catalogue site) old new

-- The letter comes to the host at its port, and this site, which is lent to it, stops within the append of its batch.
abbrev pub StopsWith : Letter → SiteState → Option StoppedLog → NodesValue → NodesValue → Type 0
StopsWith letter site left old new = ChangesAt letter.to (λ host next. Stops old.catalogue (as_received letter) site host next left) old.hosts new.hosts

-- Each site of the catalogue is in its first life, and no letter was sent.
pub record Begin (catalogue : Catalogue) (nodes : NodesValue) : Type 0 where
  pub catalogue_is : nodes.catalogue ≡ catalogue
  pub hosts_are : (id port : ℕ) → value_at id catalogue.sites ≡ Some port → (host : HostValue) × (host_at port nodes.hosts ≡ Some host) × Begins catalogue id port host
  pub letters_are : nodes.letters ≡ []
