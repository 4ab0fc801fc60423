-- What a stop of a node says of the step of a schedule.
use Rattle.std.proofs.Common.{◌≡◌, ◌≢◌, ◌∙◌, ap, sym, subst, ℕ, Bool, true, false, List, ◌∷◌, [], refl}
use Rattle.std.specs.Prelude.{Option, Some, None, not, ◌==◌, ◌&&◌, if◌then◌else◌, option_and_then}
use Rattle.std.specs.Option.{option_map_or}
use Rattle.vp_catalog.specs.Document.{IsCatalogue}
use Rattle.vp_model.specs.Types.{LogRecord, Event}
use Rattle.vp_model.specs.Words.{is_empty, value_at}
use Rattle.vp_model.specs.Catalogue.{Catalogue}
use Rattle.vp_model.specs.Site.{SiteState}
use Rattle.vp_model.specs.Step.{step}
use Rattle.vp_model.specs.Told.{is_step}
use Rattle.vp_model.specs.Justified.{site_named}
use Rattle.vp_model.specs.Durable.{apply_all}
use Rattle.vp_model.specs.World.{Moment, Place, place_of, site_of, after_step, next}
use Rattle.vp_laws.proofs.Lists.Numbers.{eq_self}
use Rattle.vp_stable.specs.Halves.{HaveBatches}
use Rattle.vp_runs.specs.Keeping.{durable_in}
use Rattle.vp_runs.specs.Turns.{Turn}
use Rattle.vp_runs.proofs.Checkpoints.{batch_folds}
use Rattle.vp_runs.specs.Kept.{input_of, forced_records, forced_at, kept_in as batches_in}
use Rattle.vp_runs.proofs.Happened.{Acts, Effect, effect, named, put_down}
use Rattle.vp_runs.specs.Stopped.{appends, appender, stopped_world}
use Rattle.vp_world.specs.Steps.{taker}
use Rattle.vp_cluster.specs.Letter.{Letter, as_received}
use Rattle.vp_cluster.specs.declared.host.StoppedLog.{StoppedLog}
use Rattle.vp_cluster.specs.Letters.{letter_of}
use Rattle.vp_stable.specs.Stops.{with_batch}
use Rattle.vp_cluster.specs.Hosts.{HostValue, IsAt, Stops, turn_at, log_in}
use Rattle.vp_cluster.specs.Ports.{LendsAt, host_at}
use Rattle.vp_cluster.specs.Nodes.{NodesValue}
use Rattle.vp_cluster.specs.Clusters.{AreTied}
use Rattle.vp_cluster.proofs.Acting.{Facts, Folds}
use Rattle.vp_cluster.proofs.Acting as acting
use Rattle.vp_stopping.specs.Singles.{StopsOf}
use Rattle.vp_stopping.specs.AfterStop.{Waits}
use Rattle.vp_stopping.proofs.InPlace.{taken_single}
use Rattle.vp_stopping.proofs.Waiting.{stopped_place}

-- if a site is named, it may be this one
appender_by : (catalogue : Catalogue) (m : Moment) (o : Option ℕ) → site_named m.before m.line.event ≡ o → appender catalogue m ≡ option_and_then (λ site. if appends catalogue m site then Some site else None) o
appender_by catalogue m o e = ap (option_and_then (λ site. if appends catalogue m site then Some site else None)) e

nobody_steps : (catalogue : Catalogue) (m : Moment) → is_step m.line.shown ≡ false → appender catalogue m ≡ None
nobody_steps catalogue m none = go (site_named m.before m.line.event) refl
  where
    never : (site : ℕ) → appends catalogue m site ≡ false
    never site = ap (λ b. (b && option_map_or (λ named. named == site) (site_named m.before m.line.event) false) && not (is_empty (forced_at catalogue site m))) none

    go : (o : Option ℕ) → site_named m.before m.line.event ≡ o → appender catalogue m ≡ None
    go None e = appender_by catalogue m None e
    go (Some site) e = appender_by catalogue m (Some site) e ∙ ap (λ (b : Bool). if b then Some site else None) (never site)

module _ (catalogue : Catalogue) (m : Moment) (s : ℕ) (a : Acts catalogue m s) where
  abbrev records : List LogRecord
  records = (step catalogue a.x a.given).effects.records

  names : site_named m.before m.line.event ≡ Some s
  names = (named m.line.event m.before s a.given a.gives).1

  forced_is : forced_at catalogue s m ≡ records
  forced_is = ap (λ o. forced_records catalogue o (input_of m.before m.line.event)) a.up ∙ ap (forced_records catalogue (Some a.x)) (named m.line.event m.before s a.given a.gives).2

  steps : is_step m.line.shown ≡ true
  steps = ap is_step a.shown_is

  appends_is : appends catalogue m s ≡ not (is_empty records)
  appends_is =
      ap (λ b. (b && option_map_or (λ named. named == s) (site_named m.before m.line.event) false) && not (is_empty (forced_at catalogue s m))) steps
      ∙ ap (λ o. option_map_or (λ named. named == s) o false && not (is_empty (forced_at catalogue s m))) names
      ∙ ap (λ b. b && not (is_empty (forced_at catalogue s m))) (eq_self s)
      ∙ ap (λ r. not (is_empty r)) forced_is

  appender_is : appender catalogue m ≡ (if not (is_empty records) then Some s else None)
  appender_is = appender_by catalogue m (Some s) names ∙ ap (λ (b : Bool). if b then Some s else None) appends_is

-- the site is the one that appends, and its log has what was in it, with or without the batch of the moment's step
abbrev pub Left : Catalogue → Moment → List Moment → StoppedLog → ℕ → Type 0
Left catalogue m moments it s = (appender catalogue m ≡ Some s) × (it.log.0 ≡ s)
    × HaveBatches (with_batch it.kept (forced_at catalogue s m) (batches_in catalogue s moments)) (it.log.1, it.log.2)

is_there : (records : List LogRecord) → records ≢ [] → not (is_empty records) ≡ true
is_there [] some = absurd (some refl)
is_there (r ∷ rest) some = refl

module _ (catalogue : Catalogue) (k : IsCatalogue catalogue) (m : Moment) (moments : List Moment) (old : NodesValue) (facts : Facts catalogue m) (tied : AreTied catalogue moments m.before old) where
  abbrev e : Event
  e = m.line.event

  -- the step of a site
  module _ (s : ℕ) (a : Acts catalogue m s) where
    abbrev letter : Letter
    letter = (acting.letter catalogue k m moments old facts tied s a).0

    comes : letter_of old.catalogue old.letters e ≡ Some letter
    comes = ap (λ (c : Catalogue). letter_of c old.letters e) tied.catalogue_is ∙ (acting.letter catalogue k m moments old facts tied s a).1

    stops : (left : Option StoppedLog) (new : NodesValue) → StopsOf e a.x left old new
        → (host : HostValue) × (host_at letter.to new.hosts ≡ Some host) × Stops old.catalogue (as_received letter) a.x (acting.own catalogue k m moments old facts tied s a).host host left
    stops left new h = let own = acting.own catalogue k m moments old facts tied s a in (h letter comes).there own.host own.host_is

    turn_batch : (turn_at old.catalogue a.x (as_received letter)).batch ≡ records catalogue m s a
    turn_batch = ap (λ (turn : Turn). turn.batch) (acting.turn_is catalogue k m moments old facts tied s a)

    at : IsAt (batches_in catalogue s moments) (Some a.x) (acting.own catalogue k m moments old facts tied s a).host
    at =
        let own = acting.own catalogue k m moments old facts tied s a in
        subst (λ (up : Option SiteState). IsAt (batches_in catalogue s moments) up own.host) (acting.up_is catalogue k m moments old facts tied s a) own.at

    none_acts : (new : NodesValue) → StopsOf e a.x None old new → appender catalogue m ≡ None
    none_acts new h =
        let (host, at_port, stop) = stops None new h in
        let none = (stop.up (batches_in catalogue s moments) at).0 in
        appender_is catalogue m s a ∙ ap (λ r. if not (is_empty r) then Some s else None) (sym turn_batch ∙ none)

    some_acts : (it : StoppedLog) (new : NodesValue) → StopsOf e a.x (Some it) old new → Left catalogue m moments it s
    some_acts it new h =
        let (host, at_port, stop) = stops (Some it) new h in
        let own = acting.own catalogue k m moments old facts tied s a in
        let some = (stop.up (batches_in catalogue s moments) at).1 in
        let batch = turn_batch ∙ sym (forced_is catalogue m s a) in (
          appender_is catalogue m s a ∙ ap (λ (b : Bool). if b then Some s else None) (is_there (records catalogue m s a) (λ none. some.0 (turn_batch ∙ none))),
          ap (λ (log : ℕ × List ℕ × List ℕ). log.0) stop.log_is ∙ stop.stays.same_id ∙ own.id_is,
          subst (λ (log : ℕ × List ℕ × List ℕ). HaveBatches (with_batch it.kept (forced_at catalogue s m) (batches_in catalogue s moments)) (log.1, log.2)) (sym stop.log_is)
              (subst (λ r. HaveBatches (with_batch it.kept r (batches_in catalogue s moments)) (log_in host)) batch some.1.has),
        )

  what : Effect catalogue m
  what = subst (Effect catalogue) (sym facts.next_is) (effect catalogue m.number e m.before)

  shows : is_step (next catalogue e m.before).shown ≡ is_step m.line.shown
  shows = ap (λ (n : Moment). is_step n.line.shown) (sym facts.next_is)

  taker_by : (o : Option ℕ) → site_named m.before e ≡ o → taker catalogue e m.before ≡ option_and_then (λ site. if is_step m.line.shown then Some site else None) o
  taker_by o named = ap (option_and_then (λ site. if is_step (next catalogue e m.before).shown then Some site else None)) named ∙ ap (λ b. option_and_then (λ site. if b then Some site else None) o) shows

  taker_acts : (s : ℕ) (a : Acts catalogue m s) → taker catalogue e m.before ≡ Some s
  taker_acts s a = taker_by (Some s) (names catalogue m s a) ∙ ap (λ b. if b then Some s else None) (steps catalogue m s a)

  -- what the site has left is its durable part, in the world after the stop
  module _ (folds : (id : ℕ) (place : Place) → place_of id m.before.places ≡ Some place → durable_in catalogue id (batches_in catalogue id moments) ≡ place.durable) (s : ℕ) (a : Acts catalogue m s) where
    abbrev stood : Place
    stood = (acting.own catalogue k m moments old facts tied s a).place

    stood_there : place_of s m.before.places ≡ Some stood
    stood_there = (acting.own catalogue k m moments old facts tied s a).place_is

    abbrev stepped : Place
    stepped = after_step (step catalogue a.x a.given) stood

    stepped_there : place_of s (next catalogue e m.before).world.places ≡ Some stepped
    stepped_there = ap (λ (n : Moment). place_of s n.after.places) (sym facts.next_is) ∙ (a.here stood stood_there).place_is

    gained : (kept : Bool) → durable_in catalogue s (with_batch kept (records catalogue m s a) (batches_in catalogue s moments)) ≡ (put_down (if kept then stepped else stood)).durable
    gained true = batch_folds catalogue s (records catalogue m s a) (batches_in catalogue s moments) ∙ ap (apply_all (records catalogue m s a)) (folds s stood stood_there)
    gained false = folds s stood stood_there

    stopped_waits : (it : StoppedLog) (new : NodesValue) → StopsOf e a.x (Some it) old new → new.catalogue ≡ old.catalogue → Waits catalogue (stopped_world catalogue it.kept s m) s new
    stopped_waits it new h same =
        let (host, at_port, stop) = stops s a (Some it) new h in
        let some = (stop.up (batches_in catalogue s moments) (at s a)).1 in
        record {
          place = put_down (if it.kept then stepped else stood);
          place_is = stopped_place catalogue m it.kept s stood stepped (taken_single catalogue m.before s e (taker_acts s a)) stood_there stepped_there;
          is_down = refl;
          port = (letter s a).to;
          port_is = ap (λ (c : Catalogue). value_at s c.sites) (same ∙ tied.catalogue_is) ∙ (acting.letter catalogue k m moments old facts tied s a).2.to_is;
          host = host;
          host_is = at_port;
          id_is = stop.stays.same_id ∙ (acting.own catalogue k m moments old facts tied s a).id_is;
          batches = with_batch it.kept (records catalogue m s a) (batches_in catalogue s moments);
          down = subst (λ r. IsAt (with_batch it.kept r (batches_in catalogue s moments)) None host) (turn_batch s a) some.1;
          folds = gained it.kept;
          same_catalogue = same ∙ tied.catalogue_is;
        }

  -- no site is named
  unnamed : site_named m.before e ≡ None → (taker catalogue e m.before ≡ None) × (appender catalogue m ≡ None)
  unnamed none = (taker_by None none, appender_by catalogue m None none)

  idle : is_step m.line.shown ≡ false → taker catalogue e m.before ≡ None
  idle none = go (site_named m.before e) refl
    where
      go : (o : Option ℕ) → site_named m.before e ≡ o → taker catalogue e m.before ≡ None
      go None named = taker_by None named
      go (Some site) named = taker_by (Some site) named ∙ ap (λ b. if b then Some site else None) none

  pub nothing_appended : ((id : ℕ) (site : SiteState) → taker catalogue e m.before ≡ Some id → site_of m.before id ≡ Some site → (new : NodesValue) × StopsOf e site None old new) → appender catalogue m ≡ None
  nothing_appended h = by what
    where
      by : Effect catalogue m → appender catalogue m ≡ None
      by (Effect.acts s a others) = let it = h s a.x (taker_acts s a) a.up in none_acts s a it.0 it.1
      by (Effect.crashes s is sent own others) = (unnamed (ap (site_named m.before) is)).1
      by (Effect.restarts s is sent own others) = (unnamed (ap (site_named m.before) is)).1
      by (Effect.stands plain none sent all) = nobody_steps catalogue m none

  pub batch_appended : (id : ℕ) (it : StoppedLog) (new : NodesValue) → taker catalogue e m.before ≡ Some id → ((site : SiteState) → site_of m.before id ≡ Some site → StopsOf e site (Some it) old new) → Left catalogue m moments it id
  batch_appended id it new takes h = by what
    where
      by : Effect catalogue m → Left catalogue m moments it id
      by (Effect.acts s a others) =
          let same : s ≡ id = (let z = sym (taker_acts s a) ∙ takes in cc) in
          subst (λ s. Left catalogue m moments it s) same
          (some_acts s a it new (h a.x (subst (λ id. site_of m.before id ≡ Some a.x) same a.up)))
      by (Effect.crashes s is sent own others) = absurd (let z = sym (unnamed (ap (site_named m.before) is)).0 ∙ takes in cc)
      by (Effect.restarts s is sent own others) = absurd (let z = sym (unnamed (ap (site_named m.before) is)).0 ∙ takes in cc)
      by (Effect.stands plain none sent all) = absurd (let z = sym (idle none) ∙ takes in cc)

  pub site_waits : ((id : ℕ) (place : Place) → place_of id m.before.places ≡ Some place → durable_in catalogue id (batches_in catalogue id moments) ≡ place.durable)
      → (id : ℕ) (it : StoppedLog) (new : NodesValue) → taker catalogue e m.before ≡ Some id → ((site : SiteState) → site_of m.before id ≡ Some site → StopsOf e site (Some it) old new) → new.catalogue ≡ old.catalogue
      → Waits catalogue (stopped_world catalogue it.kept id m) id new
  site_waits folds id it new takes h same = by what
    where
      by : Effect catalogue m → Waits catalogue (stopped_world catalogue it.kept id m) id new
      by (Effect.acts s a others) =
          let own : s ≡ id = (let z = sym (taker_acts s a) ∙ takes in cc) in
          subst (λ s. Waits catalogue (stopped_world catalogue it.kept s m) s new) own
          (stopped_waits folds s a it new (h a.x (subst (λ id. site_of m.before id ≡ Some a.x) own a.up)) same)
      by (Effect.crashes s is sent own others) = absurd (let z = sym (unnamed (ap (site_named m.before) is)).0 ∙ takes in cc)
      by (Effect.restarts s is sent own others) = absurd (let z = sym (unnamed (ap (site_named m.before) is)).0 ∙ takes in cc)
      by (Effect.stands plain none sent all) = absurd (let z = sym (idle none) ∙ takes in cc)

  -- the site whose step it is can be lent to the host that the letter comes to
  pub lent_now : Folds catalogue moments m.before → (id : ℕ) (site : SiteState) → taker catalogue e m.before ≡ Some id → site_of m.before id ≡ Some site
      → (letter : Letter) → letter_of old.catalogue old.letters e ≡ Some letter → LendsAt old.catalogue site letter.to old.hosts
  lent_now folds id site takes up letter at = by what
    where
      by : Effect catalogue m → LendsAt old.catalogue site letter.to old.hosts
      by (Effect.acts s a others) =
          let same : s ≡ id = (let z = sym (taker_acts s a) ∙ takes in cc) in
          let it : a.x ≡ site = (let z = sym a.up ∙ ap (site_of m.before) same ∙ up in cc) in
          let own : (acting.letter catalogue k m moments old facts tied s a).0 ≡ letter = (let z = sym (comes s a) ∙ at in cc) in
          subst (λ (l : Letter). LendsAt old.catalogue site l.to old.hosts) own
          (subst (λ (x : SiteState). LendsAt old.catalogue x (acting.letter catalogue k m moments old facts tied s a).0.to old.hosts) it (acting.lends_at catalogue k m moments old facts tied s a folds))
      by (Effect.crashes s is sent own others) = absurd (let z = sym (unnamed (ap (site_named m.before) is)).0 ∙ takes in cc)
      by (Effect.restarts s is sent own others) = absurd (let z = sym (unnamed (ap (site_named m.before) is)).0 ∙ takes in cc)
      by (Effect.stands plain none sent all) = absurd (let z = sym (idle none) ∙ takes in cc)
