-- A run of single steps, before a stop and after it.
use Rattle.std.specs.Prelude.{◌≡◌, ℕ, ◌-◌, Bool, List, [], take, Option, Some, None, Result, Ok, Err}
use Rattle.vp_model.specs.Types.{Event}
use Rattle.vp_model.specs.Catalogue.{Catalogue}
use Rattle.vp_model.specs.Limits.{world_limits, limit_in, limit_reached}
use Rattle.vp_model.specs.Site.{SiteState}
use Rattle.vp_model.specs.World.{WorldState, Run, start_world, Place, Moment, Schedule, place_of, site_of, moment, next, run_from, moments_of, journal_of}
use Rattle.vp_laws.specs.ShapeLaws.{IsEvent}
use Rattle.vp_runs.specs.Keeping.{durable_in}
use Rattle.vp_runs.specs.Kept.{kept_in}
use Rattle.vp_runs.specs.Stopped.{moment_of, stop_at, run_in, follow, singles, stopped}
use Rattle.vp_world.specs.Steps.{taker}
use Rattle.vp_world.specs.Limits.{limit_of}
use Rattle.vp_world.specs.declared.end.WorldEnd.{WorldEnd}
use Rattle.vp_world.specs.declared.end.WorldEnd.TheVariants as end
use Rattle.vp_cluster.specs.Letter.{Letter}
use Rattle.vp_cluster.specs.declared.host.StoppedLog.{StoppedLog}
use Rattle.vp_cluster.specs.Ports.{LendsAt}
use Rattle.vp_stopping.specs.declared.stopped.Steps.{Steps}
use Rattle.vp_stopping.specs.declared.stopped.Front.{Front}
use Rattle.vp_stopping.specs.declared.stopped.Stopped.{Stopped}
use Rattle.vp_stopping.specs.declared.stopped.StoppedSite.{StoppedSite}
use Rattle.vp_cluster.specs.Letters.{letter_of}
use Rattle.vp_cluster.specs.Nodes.{NodesValue, Begin, StopsWith}
use Rattle.vp_cluster.specs.Clusters.{AreTied}

-- This was done, and the world is this one.
abbrev pub HaveDone : Catalogue → List Event → WorldState → Steps → Type 0
HaveDone catalogue done w steps = (steps.world ≡ record { catalogue = catalogue; world = w }) × (steps.done ≡ done)

-- the moment of the event in this world; its number doesn't matter here
abbrev pub moment_in : Catalogue → Event → WorldState → Moment
moment_in catalogue e w = moment 0 w e (next catalogue e w)

-- what is done instead of the event if its step is stopped
abbrev pub run_in_place : Catalogue → Bool → ℕ → Event → WorldState → Run
run_in_place catalogue kept site e w = run_from catalogue 1 (stop_at kept site e) (run_in w)

-- Nothing was done, and all is left.
pub record IsBegun (s : Schedule) (front : Front) : Type 0 where
  pub done : HaveDone s.catalogue [] (start_world s.catalogue) front.steps
  pub left_is : front.left ≡ s.events
  pub nodes : Begin s.catalogue front.nodes

-- The steps before this one were done, and this is its event; these events are left after it.
pub record AreBefore (s : Schedule) (step : ℕ) (e : Event) (steps : Steps) (left : List Event) : Type 0 where
  pub m : Moment
  pub is : moment_of step (moments_of s) ≡ Some m
  pub event_is : m.line.event ≡ e
  pub done : HaveDone s.catalogue (singles (take (step - 1) (moments_of s))) m.before steps
  pub left_is : left ≡ follow s.events (take step (moments_of s)) m
  pub none : limit_in world_limits (take (step - 1) (moments_of s)) ≡ None

-- The site whose step the event is can be lent to the host that the event's letter comes to.
abbrev pub MayStop : Event → Front → Type 0
MayStop e front = (id : ℕ) (site : SiteState) → taker front.steps.world.catalogue e front.steps.world.world ≡ Some id → site_of front.steps.world.world id ≡ Some site
    → (letter : Letter) → letter_of front.nodes.catalogue front.nodes.letters e ≡ Some letter → LendsAt front.nodes.catalogue site letter.to front.nodes.hosts

-- The nodes have come as far too.
pub record IsBefore (s : Schedule) (step : ℕ) (front : Front) (e : Event) : Type 0 where
  pub before : AreBefore s step e front.steps front.left
  pub formed : IsEvent e
  pub tied : AreTied s.catalogue (take (step - 1) (moments_of s)) before.m.before front.nodes
  pub folds : (id : ℕ) (place : Place) → place_of id before.m.before.places ≡ Some place → durable_in s.catalogue id (kept_in s.catalogue id (take (step - 1) (moments_of s))) ≡ place.durable
  pub may_stop : MayStop e front

-- The run has come to a step, or has none of that number, or a limit ends it before.
abbrev pub ComesTo : Schedule → ℕ → Result (Option (Front × Event)) WorldEnd → Type 0
ComesTo s step (Ok (Some it)) = IsBefore s step it.0 it.1
ComesTo s step (Ok None) = (moment_of step (moments_of s) ≡ None) × (limit_in world_limits (moments_of s) ≡ None)
ComesTo s step (Err (end.Limit what limit)) = (limit ≡ limit_of what) × (limit_in world_limits (take (step - 1) (moments_of s)) ≡ Some what)
ComesTo s step (Err end.NoMemory) = Unit {0}

-- The site stops within the append of the turn of the event's letter, and leaves the nodes like this.
abbrev pub StopsOf : Event → SiteState → Option StoppedLog → NodesValue → NodesValue → Type 0
StopsOf e site left old new = (letter : Letter) → letter_of old.catalogue old.letters e ≡ Some letter → StopsWith letter site left old new

-- The result of a stop within the event's step: what the nodes say of its site, if it is one's.
abbrev pub StopsIn : Event → Front → Option StoppedSite → Type 0
StopsIn e front None = (id : ℕ) (site : SiteState) → taker front.steps.world.catalogue e front.steps.world.world ≡ Some id → site_of front.steps.world.world id ≡ Some site → (new : NodesValue) × StopsOf e site None front.nodes new
StopsIn e front (Some it) = (taker front.steps.world.catalogue e front.steps.world.world ≡ Some it.site)
    × ((site : SiteState) → site_of front.steps.world.world it.site ≡ Some site → StopsOf e site (Some it.left) front.nodes it.nodes)
    × (it.nodes.catalogue ≡ front.nodes.catalogue)

-- The run after the stop comes to its end, with the log that was left there, or a limit ends it.
abbrev pub GoesOn : Schedule → ℕ → StoppedLog → Result Stopped WorldEnd → Type 0
GoesOn s step left (Ok it) = (stopped step left.kept s ≡ Some it.schedule) × (limit_reached world_limits it.schedule ≡ None) × (it.commits ≡ journal_of it.schedule) × (it.log ≡ left.log)
GoesOn s step left (Err (end.Limit what limit)) = (limit ≡ limit_of what) × ((t : Schedule) × (stopped step left.kept s ≡ Some t) × (limit_reached world_limits t ≡ Some what))
GoesOn s step left (Err end.NoMemory) = Unit {0}
