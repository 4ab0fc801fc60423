-- What the run of a schedule becomes that is stopped within a step.
use Rattle.std.proofs.Common.{◌≡◌, ◌∙◌, ap, sym, subst, ℕ, zero, suc, ◌-◌, Bool, List, [], ◌∷◌, take, drop, refl}
use Rattle.std.specs.Prelude.{Option, Some, None, Result, Ok, Err, slice_get}
use Rattle.std.specs.Option.{option_map_or}
use Rattle.std.specs.List.{AllByRecursion}
use Rattle.std.proofs.lemmas.List.{take-append-drop}
use Rattle.vp_text.proofs.Items.{all_append}
use Rattle.vp_model.specs.Types.{Event, Counted}
use Rattle.vp_model.specs.Types.event
use Rattle.vp_model.specs.Catalogue.{Catalogue, sites_of}
use Rattle.vp_model.specs.Limits.{world_limits, exceeded, limit_in, limit_reached, refused}
use Rattle.vp_model.specs.Site.{SiteState}
use Rattle.vp_model.specs.World.{WorldState, Moment, Schedule, site_of, next, moments_of}
use Rattle.vp_laws.proofs.Lists.Members.{Has, has_first, has_left, has_right}
use Rattle.vp_schedule.specs.Document.{IsSchedule}
use Rattle.vp_schedule.specs.Events.{IsEvent as IsReadable}
use Rattle.vp_stable.specs.Halves.{HaveBatches}
use Rattle.vp_stable.specs.Stops.{with_batch}
use Rattle.vp_runs.specs.Kept.{forced_at, kept_in}
use Rattle.vp_cluster.specs.declared.host.StoppedLog.{StoppedLog}
use Rattle.vp_runs.specs.Stopped.{moment_of, appender, left_of_line, stopped_world}
use Rattle.vp_world.specs.Known.{Known}
use Rattle.vp_world.specs.Limits.{limit_of, Ends}
use Rattle.vp_world.specs.Steps.{taker}
use Rattle.vp_world.specs.declared.end.WorldEnd.{WorldEnd}
use Rattle.vp_world.specs.declared.end.WorldEnd.TheVariants as end
use Rattle.vp_stopping.specs.declared.stopped.Front.{Front}
use Rattle.vp_stopping.specs.declared.stopped.Steps.{Steps}
use Rattle.vp_stopping.specs.declared.stopped.Stopped.{Stopped}
use Rattle.vp_stopping.specs.declared.stopped.StoppedSite.{StoppedSite}
use Rattle.vp_stopping.specs.Left.{CanRise}
use Rattle.vp_stopping.specs.AfterStop.{IsAfterStop, Waits}
use Rattle.vp_stopping.specs.Singles.{ComesTo, IsBefore, GoesOn, StopsIn, StopsOf, moment_in}
use Rattle.vp_stopping.specs.RanStopped.{LeavesLog, RunsStopped}
use Rattle.vp_cluster.proofs.Acting.{Facts}
use Rattle.vp_cluster.proofs.Running.{events_formed}
use Rattle.vp_cluster.proofs.Tied.{facts}
use Rattle.vp_stopping.proofs.Going.{c_is, world_is}
use Rattle.vp_stopping.proofs.TiedStops.{Left, nothing_appended, batch_appended, site_waits}
use Rattle.vp_stopping.proofs.Rejoined.{stopped_none, stopped_nobody, none_stopped, none_up_to, ended_before, up_to_it, limit_of_it}

-- ---- there is nothing to stop in

pub no_step : (s : Schedule) (kept : Bool) → RunsStopped s 0 kept (Ok None)
no_step s kept any = (stopped_none s 0 any refl, none_stopped s 0 any (stopped_none s 0 any refl))

pub nothing_there : (s : Schedule) (step : ℕ) (kept : Bool) → (moment_of step (moments_of s) ≡ None) × (limit_in world_limits (moments_of s) ≡ None) → RunsStopped s step kept (Ok None)
nothing_there s step kept h any = let none = stopped_none s step any h.0 in (none, none_stopped s step any none ∙ none_up_to step (moments_of s) h.1)

-- a limit ends the steps before
ended_first : (s : Schedule) (step : ℕ) (kept : Bool) (what : Counted) (limit : ℕ) → (limit ≡ limit_of what) × (limit_in world_limits (take (step - 1) (moments_of s)) ≡ Some what) → RunsStopped s step kept (Err (end.Limit what limit))
ended_first s step kept what limit h = (h.0, ended_before s step kept what h.1)

pub came_ends : (s : Schedule) (step : ℕ) (kept : Bool) (why : WorldEnd) (r : Result (Option Stopped) WorldEnd) → ComesTo s step (Err why) → r ≡ Err why → RunsStopped s step kept r
came_ends s step kept (end.Limit what much) r ended is = rw is (ended_first s step kept what much ended)
came_ends s step kept end.NoMemory r ended is = rw is tt

-- ---- the run went on after the stop

pub all_done : (s : Schedule) (step : ℕ) (left : StoppedLog) (it : Stopped) → GoesOn s step left (Ok it) → LeavesLog step left.kept s left.log → RunsStopped s step left.kept (Ok (Some it))
all_done s step left it goes leaves = (
  goes.0,
  ap (λ o. option_map_or (limit_reached world_limits) o (limit_in world_limits (take step (moments_of s)))) goes.0 ∙ goes.1,
  goes.2,
  subst (LeavesLog step left.kept s) (sym goes.3) leaves,
)

pub rest_ends : (s : Schedule) (step : ℕ) (left : StoppedLog) (why : WorldEnd) (r : Result (Option Stopped) WorldEnd) → GoesOn s step left (Err why) → r ≡ Err why → RunsStopped s step left.kept r
rest_ends s step left (end.Limit what much) r goes is = rw is (goes.0, ap (λ o. option_map_or (limit_reached world_limits) o (limit_in world_limits (take step (moments_of s)))) goes.1.1 ∙ goes.1.2)
rest_ends s step left end.NoMemory r goes is = rw is tt

-- ---- at the step

module _ (s : Schedule) (is : IsSchedule s) (step : ℕ) (front : Front) (e : Event) (h : IsBefore s step front e) where
  abbrev m : Moment
  m = h.before.m

  has_it : Has (moments_of s) m
  has_it =
      subst (λ ms. Has ms m) (take-append-drop step (moments_of s))
      (has_left (take step (moments_of s)) (drop step (moments_of s)) m
      (subst (λ ms. Has ms m) (sym (up_to_it s step m h.before.is)) (has_right (take (step - 1) (moments_of s)) (m ∷ []) m (has_first m []))))

  its_facts : Facts s.catalogue m
  its_facts = facts s is.catalogue_is (events_formed (sites_of s.catalogue) s.events is.events_are) m has_it

  taker_is : (site : ℕ) → taker s.catalogue m.line.event m.before ≡ Some site → taker front.steps.world.catalogue e front.steps.world.world ≡ Some site
  taker_is site takes =
      ap (λ (k : Known). taker k.catalogue e k.world) h.before.done.0 ∙ ap (λ e. taker s.catalogue e m.before) (sym h.before.event_is) ∙ takes

  taker_there : (site : ℕ) → taker front.steps.world.catalogue e front.steps.world.world ≡ Some site → taker s.catalogue m.line.event m.before ≡ Some site
  taker_there site takes =
      ap (λ e. taker s.catalogue e m.before) h.before.event_is ∙ sym (ap (λ (k : Known). taker k.catalogue e k.world) h.before.done.0) ∙ takes

  limit_here : exceeded world_limits (next front.steps.world.catalogue e front.steps.world.world).world ≡ limit_in world_limits (take step (moments_of s))
  limit_here =
      ap (λ (k : Known). exceeded world_limits (next k.catalogue e k.world).world) h.before.done.0
      ∙ ap (λ e. exceeded world_limits (next s.catalogue e m.before).world) (sym h.before.event_is)
      ∙ sym (limit_of_it s step m h.before.is h.before.none)

  site_is : (id : ℕ) (site : SiteState) → site_of m.before id ≡ Some site → site_of front.steps.world.world id ≡ Some site
  site_is id site up = ap (λ (k : Known). site_of k.world id) h.before.done.0 ∙ up

  -- ---- what a stop of the nodes says

  pub nobody : StopsIn e front None → appender s.catalogue m ≡ None
  nobody stops =
      nothing_appended s.catalogue is.catalogue_is m (take (step - 1) (moments_of s)) front.nodes its_facts h.tied
      (λ id site takes up. let it = stops id site (taker_is id takes) (site_is id site up) in (it.0, subst (λ e. StopsOf e site None front.nodes it.0) (sym h.before.event_is) it.1))

  module _ (at : StoppedSite) (stops : StopsIn e front (Some at)) where
    stops_here : (site : SiteState) → site_of m.before at.site ≡ Some site → StopsOf m.line.event site (Some at.left) front.nodes at.nodes
    stops_here site up = subst (λ e. StopsOf e site (Some at.left) front.nodes at.nodes) (sym h.before.event_is) (stops.1 site (site_is at.site site up))

    -- what the site has left is its durable part
    pub has_waited : Waits s.catalogue (stopped_world s.catalogue at.left.kept at.site m) at.site at.nodes
    has_waited =
        site_waits s.catalogue is.catalogue_is m (take (step - 1) (moments_of s)) front.nodes its_facts h.tied h.folds at.site at.left at.nodes (taker_there at.site stops.0) stops_here stops.2

    appended : Left s.catalogue m (take (step - 1) (moments_of s)) at.left at.site
    appended =
        batch_appended s.catalogue is.catalogue_is m (take (step - 1) (moments_of s)) front.nodes its_facts h.tied at.site at.left at.nodes (taker_there at.site stops.0) stops_here

    pub somebody : appender s.catalogue m ≡ Some at.site
    somebody = appended.0

    pub leaves_log : LeavesLog step at.left.kept s at.left.log
    leaves_log = record {
      m = m;
      is = h.before.is;
      site_is = appended.0 ∙ ap Some (sym appended.1);
      has = subst (λ id. HaveBatches (with_batch at.left.kept (forced_at s.catalogue id m) (kept_in s.catalogue id (take (step - 1) (moments_of s)))) (at.left.log.1, at.left.log.2)) (sym appended.1) appended.2;
    }

  -- ---- the run has come to the step once more

  module _ (again : Front) (f : Event) (g : IsBefore s step again f) where
    same_moment : m ≡ g.before.m
    same_moment = let z = sym h.before.is ∙ g.before.is in cc

    pub same_appender : (o : Option ℕ) → appender s.catalogue m ≡ o → appender s.catalogue g.before.m ≡ o
    same_appender o = subst (λ (m : Moment). appender s.catalogue m ≡ o) same_moment

    same_taker : (site : ℕ) → taker s.catalogue m.line.event m.before ≡ Some site → taker s.catalogue g.before.m.line.event g.before.m.before ≡ Some site
    same_taker site = subst (λ (m : Moment). taker s.catalogue m.line.event m.before ≡ Some site) same_moment

  -- ---- nobody appends

  module _ (nobody : appender s.catalogue m ≡ None) where
    pub nothing_done : refused world_limits front.steps.world.catalogue e front.steps.world.world ≡ None → (kept : Bool) → RunsStopped s step kept (Ok None)
    nothing_done none kept any =
        let nothing = stopped_nobody s step any m h.before.is nobody in
        (nothing, none_stopped s step any nothing ∙ sym limit_here ∙ none)

    pub nothing_ends : (kept : Bool) (why : WorldEnd) (r : Result (Option Stopped) WorldEnd) → Ends {A = Steps} (refused world_limits front.steps.world.catalogue e front.steps.world.world) (Err why) → r ≡ Err why → RunsStopped s step kept r
    nothing_ends kept (end.Limit what much) r ended is = rw is (ended.1, none_stopped s step kept (stopped_nobody s step kept m h.before.is nobody) ∙ sym limit_here ∙ ended.0)
    nothing_ends kept end.NoMemory r ended is = rw is tt

  -- ---- numbers that may rise

  can_rise : (sites : List ℕ) (e : Event) → IsReadable sites e → CanRise e
  can_rise sites (event.Call site words) r = tt
  can_rise sites (event.Deliver k) r = r.1
  can_rise sites (event.Flow count) r = tt
  can_rise sites (event.Tick site) r = tt
  can_rise sites (event.Probe site) r = tt
  can_rise sites (event.Cut a b) r = tt
  can_rise sites (event.Heal a b) r = tt
  can_rise sites (event.Crash site) r = tt
  can_rise sites (event.Restart site) r = tt

  after_rise : (sites : List ℕ) (n : ℕ) (events : List Event) → AllByRecursion (IsReadable sites) events → AllByRecursion CanRise (drop n events)
  after_rise sites zero [] all = tt
  after_rise sites zero (e ∷ events) all = (can_rise sites e all.0, after_rise sites zero events all.1)
  after_rise sites (suc n) [] all = tt
  after_rise sites (suc n) (e ∷ events) all = after_rise sites n events all.1

  line_rise : (done : ℕ) (o : Option Event) → AllByRecursion CanRise (option_map_or (left_of_line done) o [])
  line_rise done None = tt
  line_rise done (Some (event.Flow count)) = (tt, tt)
  line_rise done (Some (event.Call site words)) = tt
  line_rise done (Some (event.Deliver k)) = tt
  line_rise done (Some (event.Tick site)) = tt
  line_rise done (Some (event.Probe site)) = tt
  line_rise done (Some (event.Cut a b)) = tt
  line_rise done (Some (event.Heal a b)) = tt
  line_rise done (Some (event.Crash site)) = tt
  line_rise done (Some (event.Restart site)) = tt

  pub all_rise : AllByRecursion CanRise front.left
  all_rise =
      subst (λ (left : List Event). AllByRecursion CanRise left) (sym h.before.left_is)
      (all_append CanRise (option_map_or (left_of_line _) (slice_get s.events (m.number - 1)) []) (drop m.number s.events) (line_rise _ (slice_get s.events (m.number - 1))) (after_rise (sites_of s.catalogue) m.number s.events is.events_are))

-- the site that stopped in the step does it, if the run has come there once more
pub taker_again : (s : Schedule) (is : IsSchedule s) (step : ℕ) (front : Front) (e : Event) (h : IsBefore s step front e) (again : Front) (f : Event) (g : IsBefore s step again f) (site : ℕ)
    → taker front.steps.world.catalogue e front.steps.world.world ≡ Some site → taker again.steps.world.catalogue f again.steps.world.world ≡ Some site
taker_again s is step front e h again f g site takes = taker_is s is step again f g site (same_taker s is step front e h again f g site (taker_there s is step front e h site takes))

-- what it has left is its durable part there
pub waits_again : (s : Schedule) (is : IsSchedule s) (step : ℕ) (front : Front) (e : Event) (h : IsBefore s step front e) (at : StoppedSite) (stops : StopsIn e front (Some at)) (again : Front) (f : Event) (g : IsBefore s step again f)
    → IsAfterStop again.steps.world.catalogue (stopped_world again.steps.world.catalogue at.left.kept at.site (moment_in again.steps.world.catalogue f again.steps.world.world)) (record { nodes = at.nodes; stopped = Some at.site })
waits_again s is step front e h at stops again f g =
    let waits = has_waited s is step front e h at stops in
    let here = subst (λ (m : Moment). Waits s.catalogue (stopped_world s.catalogue at.left.kept at.site m) at.site at.nodes) (same_moment s is step front e h again f g) waits in
    let by = same_appender s is step front e h again f g (Some at.site) (somebody s is step front e h at stops) in
    let takes = taker_again s is step front e h again f g at.site stops.0 in
    let there = subst (λ (w : WorldState). Waits s.catalogue w at.site at.nodes) (sym (world_is s step f again.steps again.left g.before at.site at.left by takes)) here in
    subst (λ (c : Catalogue). Waits c (stopped_world again.steps.world.catalogue at.left.kept at.site (moment_in again.steps.world.catalogue f again.steps.world.world)) at.site at.nodes) (sym (c_is s step f again.steps again.left g.before at.site at.left by takes)) there
