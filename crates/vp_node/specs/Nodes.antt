-- A node, what its disk keeps of it, and what a start and a turn make of both.
use Rattle.std.specs.Prelude.{◌≡◌, ◌⊎◌, ◌-◌, ◌^◌, ◌<◌, ℕ, List, IfSome}
use Rattle.vp_model.specs.Types.{LogRecord}
use Rattle.vp_model.specs.Catalogue.{Catalogue}
use Rattle.vp_model.specs.Site.{SiteState}
use Rattle.vp_model.specs.Step.{durable_of}
use Rattle.vp_catalog.specs.Document.{IsCatalogue}
use Rattle.vp_laws.specs.Shapes.{IsShaped}
use Rattle.vp_outside.specs.Disk.{Halves, DiskState, log_of, Steps, Only}
use Rattle.vp_outside.specs.declared.datagram.Datagram.{Datagram}
use Rattle.vp_stable.specs.Halves.{Standing, StandsAt, HaveBatches, AreBadLog}
use Rattle.vp_runs.specs.declared.arrival.Arrival.{Arrival}
use Rattle.vp_runs.specs.Arrivals.{arrival}
use Rattle.vp_runs.specs.Keeping.{durable_in}
use Rattle.vp_node.specs.Keeping.{KeepsAt, MayKeepAt}
use Rattle.vp_runs.specs.Turns.{Turn, datagrams_of, turn_on, turn_lines}
use Rattle.vp_runs.specs.Runs.{start_node}
use Rattle.vp_node.specs.declared.turned.TurnEffects.{TurnEffects}
use Rattle.vp_node.specs.declared.turned.Turned.{Turned}

-- what contracts see of a node: its site, and where its log is on the disk
pub record NodeValue : Type 0 where
  pub site : SiteState
  pub at : Standing

-- It is a node over this catalogue.
pub record IsNode (catalogue : Catalogue) (node : NodeValue) : Type 0 where
  pub catalogue_is : IsCatalogue catalogue
  pub site_is : IsShaped catalogue node.site

-- ---- what the disk keeps

-- A crash leaves what is read back: a log whose batches fold to the durable part of the site.
pub record Keeps (catalogue : Catalogue) (node : NodeValue) (log : Halves) (images : Halves → Type 0) : Type 0 where
  pub synced : Only log images
  pub batches : List (List LogRecord)
  pub stands : StandsAt node.at batches log
  pub folds : durable_in catalogue node.site.id batches ≡ durable_of node.site

-- the same where the disk is honest and has a log
abbrev pub IsKept : Catalogue → NodeValue → DiskState → Type 0
IsKept catalogue node disk = disk.honest → IfSome (log_of disk) (λ log. Keeps catalogue node log (disk.may_leave disk.asked))

-- ---- a start

-- The node starts from the batches that the log had, if the disk has one, and its log has the start after them.
pub record Starts (catalogue : Catalogue) (id : ℕ) (node : NodeValue) (old new : DiskState) : Type 0 where
  pub batches : List (List LogRecord)
  pub had : IfSome (log_of old) (HaveBatches batches)
  pub site : node.site ≡ (start_node catalogue id batches).site
  pub has : Steps (λ before log. StandsAt node.at (start_node catalogue id batches).batches log) old new

-- these batches end in a life that is not the last one
abbrev pub HasLifeLeft : Catalogue → ℕ → List (List LogRecord) → Type 0
HasLifeLeft catalogue id batches = (durable_in catalogue id batches).life < 2 ^ 32 - 1

-- The batches of the log are left, or these with the start, if a life was left; if it was no log, it is none.
pub record MayStart (catalogue : Catalogue) (id : ℕ) (old new : Halves) : Type 0 where
  pub batches : (batches : List (List LogRecord)) → HaveBatches batches old
      → HaveBatches batches new ⊎ (HasLifeLeft catalogue id batches × HaveBatches (start_node catalogue id batches).batches new)
  pub faults : (half place : ℕ) → AreBadLog half place old → AreBadLog half place new

-- the log ends in the last life
abbrev pub IsSpent : Catalogue → ℕ → ℕ → DiskState → Type 0
IsSpent catalogue id life disk =
    (life ≡ 2 ^ 32 - 1) × ((batches : List (List LogRecord)) × IfSome (log_of disk) (HaveBatches batches) × ((durable_in catalogue id batches).life ≡ life))

-- ---- a turn

-- what the datagram is to the node, and what it does
abbrev pub what_comes : Catalogue → NodeValue → Datagram → Arrival
what_comes catalogue node d = arrival catalogue node.site.id d

abbrev pub turn_of : Catalogue → NodeValue → Datagram → Turn
turn_of catalogue node d = turn_on catalogue node.site (what_comes catalogue node d)

-- The site with this number has done the turn, and these are its commits and what it has to hand over: what the effects have to send
-- are the turn's datagrams.
pub record Gives (catalogue : Catalogue) (id : ℕ) (turn : Turn) (after : NodeValue) (turn_effects : TurnEffects) : Type 0 where
  pub site : after.site ≡ turn.site
  pub datagrams : datagrams_of catalogue id turn_effects.effects ≡ turn.datagrams
  pub commits : turn_effects.effects.commits ≡ turn.commits
  pub stop : turn_effects.stop ≡ turn.stop

-- The site has done the turn, and these are its lines and what it has to hand over.
pub record Turns (catalogue : Catalogue) (node : NodeValue) (d : Datagram) (after : NodeValue) (told : Turned) : Type 0 where
  pub site : after.site ≡ (turn_of catalogue node d).site
  pub lines : told.lines ≡ turn_lines d (what_comes catalogue node d) (turn_of catalogue node d)
  pub datagrams : told.datagrams ≡ (turn_of catalogue node d).datagrams
  pub stop : told.stop ≡ (turn_of catalogue node d).stop

-- The log that was in the first place has the turn's batch after the others, or a checkpoint instead if one is due.
abbrev pub Saves : Turn → Standing → Standing → Halves → Halves → Type 0
Saves turn from to old new = KeepsAt (durable_of turn.site) turn.batch from to old new

-- What is left of the log that was there. It folds to the durable part of the site before the turn or after it.
pub record MaySave (catalogue : Catalogue) (node : NodeValue) (turn : Turn) (old new : Halves) : Type 0 where
  pub batches : MayKeepAt (durable_of turn.site) turn.batch node.at old new
  pub folds : (after : List (List LogRecord)) × HaveBatches after new
      × ((durable_in catalogue node.site.id after ≡ durable_of node.site) ⊎ (durable_in catalogue node.site.id after ≡ durable_of turn.site))
