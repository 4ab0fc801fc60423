-- After a stop, what the site that stopped has left is its durable part, until it starts.
use Rattle.std.proofs.Common.{◌≡◌, ◌≢◌, ◌∙◌, ap, sym, subst, ℕ, Bool, true, false, cond, refl}
use Rattle.std.specs.Prelude.{◌==◌, Option, Some, None, IfSome, is_some, if◌then◌else◌, option_map, option_and_then}
use Rattle.std.specs.Option.{option_map_or}
use Rattle.std.proofs.lemmas.Bool.{eqb-true}
use Rattle.vp_model.specs.Types.{Event, Input, Sent}
use Rattle.vp_model.specs.Types.event
use Rattle.vp_model.specs.Types.input
use Rattle.vp_model.specs.Catalogue.{Catalogue}
use Rattle.vp_model.specs.Site.{SiteState}
use Rattle.vp_model.specs.World.{Place, WorldState, Moment, place_of, site_of, message_at, is_cut, next, moment}
use Rattle.vp_laws.proofs.Worlds.Scenes.{place-id}
use Rattle.vp_laws.proofs.Lists.Numbers.{eq_self}
use Rattle.vp_runs.specs.Keeping.{durable_in}
use Rattle.vp_runs.proofs.Happened.{Effect, IsPlain, effect, named, put_down}
use Rattle.vp_runs.specs.Stopped.{stop_at, stopped_world}
use Rattle.vp_runs.proofs.Delivered.{IsSingle, steps_to}
use Rattle.vp_world.specs.Asked.{Asked, life_start, restart_asked}
use Rattle.vp_world.specs.Places.{Did}
use Rattle.vp_world.specs.Steps.{step_at, step_by, IsReady, DoesEvent}
use Rattle.vp_cluster.specs.Nodes.{MayRestart}
use Rattle.vp_stopping.specs.declared.after_stop.AfterStop.{AfterStop}
use Rattle.vp_stopping.specs.AfterStop.{MayAfterStop, DoesAfterStop, Waits, IsAfterStop}
use Rattle.vp_stopping.proofs.InPlace.{place_world}

-- ---- which site it is

pub is_that : (o : Option ℕ) (id : ℕ) → option_map_or (λ stopped. stopped == id) o false ≡ true → o ≡ Some id
is_that None id e = absurd cc
is_that (Some n) id e = ap Some (eqb-true n id e)

pub is_other : (o : Option ℕ) (id : ℕ) → option_map_or (λ stopped. stopped == id) o false ≡ false → o ≢ Some id
is_other o id e same =
    let yes : option_map_or (λ stopped. stopped == id) o false ≡ true = ap (λ o. option_map_or (λ stopped. stopped == id) o false) same ∙ eq_self id in
    let z = sym yes ∙ e in
    cc

-- ---- the place of a site that stops

put_down_at : (catalogue : Catalogue) (s : ℕ) (w : WorldState) (place : Place) → place_of s w.places ≡ Some place → place_of s (next catalogue (event.Crash s) w).world.places ≡ Some (put_down place)
put_down_at catalogue s w place at = by (effect catalogue 0 (event.Crash s) w)
  where
    by : Effect catalogue (moment 0 w (event.Crash s) (next catalogue (event.Crash s) w)) → place_of s (next catalogue (event.Crash s) w).world.places ≡ Some (put_down place)
    by (Effect.acts x a others) = absurd (named (event.Crash s) w x a.given a.gives).0
    by (Effect.crashes x is sent own others) = let same : s ≡ x = cc in ap (λ (n : ℕ). place_of n (next catalogue (event.Crash s) w).world.places) same ∙ (own place (ap (λ s. place_of s w.places) (sym same) ∙ at)).place_is
    by (Effect.restarts x is sent own others) = absurd cc
    by (Effect.stands plain none sent all) = absurd plain

pub stopped_place : (catalogue : Catalogue) (m : Moment) (kept : Bool) (s : ℕ) (stood stepped : Place) → IsSingle m.line.event → place_of s m.before.places ≡ Some stood
    → place_of s (next catalogue m.line.event m.before).world.places ≡ Some stepped → place_of s (stopped_world catalogue kept s m).places ≡ Some (put_down (if kept then stepped else stood))
stopped_place catalogue m kept s stood stepped single at then_ = ap (λ (w : WorldState). place_of s w.places) (place_world catalogue kept s m.line.event m.before single) ∙ go kept
  where
    go : (kept : Bool) → place_of s (steps_to catalogue (stop_at kept s m.line.event) m.before).places ≡ Some (put_down (if kept then stepped else stood))
    go true = put_down_at catalogue s (next catalogue m.line.event m.before).world stepped then_
    go false = put_down_at catalogue s m.before stood at

-- ---- what may be asked

module _ (catalogue : Catalogue) (w : WorldState) (following : AfterStop) where
  abbrev IfAsked : Option Asked → Type 0
  IfAsked o = IfSome o (λ a. MayAfterStop catalogue a following)

  stepping : (e : Event) (given : Input) (o : Option SiteState) → IfAsked (option_map (λ site. Asked.steps e site given) o)
  stepping e given None = tt
  stepping e given (Some x) = tt

  delivering : (k : ℕ) (o : Option Sent) → IfAsked (option_and_then (step_by w (event.Deliver k)) o)
  delivering k None = tt
  delivering k (Some sent) = go (is_cut w sent.from sent.to)
    where
      go : (b : Bool) → IfAsked (cond b None (step_at w (event.Deliver k) sent.to (input.Message sent.from sent.message)))
      go true = tt
      go false = stepping (event.Deliver k) (input.Message sent.from sent.message) (site_of w sent.to)

  crashing : (s : ℕ) (o : Option SiteState) → IfAsked (option_map (λ _. Asked.crashes s) o)
  crashing s None = tt
  crashing s (Some x) = tt

  may_start : (s : ℕ) (place : Place) → place_of s w.places ≡ Some place → Waits catalogue w place.id following.nodes → MayRestart catalogue place.id (life_start catalogue place.id place.durable) following.nodes
  may_start s place at waits =
      let same : waits.place ≡ place = (let z = sym waits.place_is ∙ ap (λ id. place_of id w.places) (place-id s w.places place at) ∙ at in cc) in
      record {
        port = waits.port;
        host = waits.host;
        port_is = waits.port_is;
        host_is = waits.host_is;
        id_is = waits.id_is;
        batches = waits.batches;
        down = waits.down;
        site_is =
            ap (life_start catalogue place.id) (sym (waits.folds ∙ ap (λ (p : Place). p.durable) same))
            ∙ sym (ap (λ (c : Catalogue). life_start c place.id (durable_in c place.id waits.batches)) waits.same_catalogue);
        same_catalogue = waits.same_catalogue;
      }

  module _ (h : IsAfterStop catalogue w following) where
    starting : (s : ℕ) (found : Option Place) → place_of s w.places ≡ found → IfAsked (option_and_then (restart_asked catalogue) found)
    starting s None at = tt
    starting s (Some place) at = go place.up
      where
        go : (up : Option SiteState) → IfAsked (cond (is_some up) None (Some (Asked.restarts place.id (life_start catalogue place.id place.durable))))
        go (Some x) = tt
        go None = λ is. may_start s place at (subst (λ o. IfSome o (λ id. Waits catalogue w id following.nodes)) is h)

    pub after_ready : (e : Event) → IsReady MayAfterStop catalogue e w following
    after_ready (event.Call s words) = stepping (event.Call s words) (input.Call 0 words) (site_of w s)
    after_ready (event.Deliver k) = delivering k (message_at w k)
    after_ready (event.Flow count) = tt
    after_ready (event.Tick s) = stepping (event.Tick s) input.Tick (site_of w s)
    after_ready (event.Probe s) = stepping (event.Probe s) input.Probe (site_of w s)
    after_ready (event.Cut a b) = tt
    after_ready (event.Heal a b) = tt
    after_ready (event.Crash s) = crashing s (site_of w s)
    after_ready (event.Restart s) = starting s (place_of s w.places) refl

-- ---- what is done then

module _ (catalogue : Catalogue) (w : WorldState) (old new : AfterStop) where
  abbrev Done : Option Asked → Type 0
  Done o = Did DoesAfterStop o old new

  abbrev IfDone : Event → Type 0
  IfDone e = DoesEvent DoesAfterStop catalogue e w old new

  step_stays : (e : Event) (given : Input) (o : Option SiteState) → Done (option_map (λ site. Asked.steps e site given) o) → new ≡ old
  step_stays e given None d = d
  step_stays e given (Some x) d = d

  delivery_stays : (k : ℕ) (o : Option Sent) → Done (option_and_then (step_by w (event.Deliver k)) o) → new ≡ old
  delivery_stays k None d = d
  delivery_stays k (Some sent) d = go (is_cut w sent.from sent.to) d
    where
      go : (b : Bool) → Done (cond b None (step_at w (event.Deliver k) sent.to (input.Message sent.from sent.message))) → new ≡ old
      go true d = d
      go false d = step_stays (event.Deliver k) (input.Message sent.from sent.message) (site_of w sent.to) d

  crash_stays : (s : ℕ) (o : Option SiteState) → Done (option_map (λ _. Asked.crashes s) o) → new ≡ old
  crash_stays s None d = d
  crash_stays s (Some x) d = d

  plain_stays : (e : Event) → IsPlain e → IfDone e → new ≡ old
  plain_stays (event.Call s words) plain d = step_stays (event.Call s words) (input.Call 0 words) (site_of w s) d
  plain_stays (event.Deliver k) plain d = delivery_stays k (message_at w k) d
  plain_stays (event.Flow count) plain d = d
  plain_stays (event.Tick s) plain d = step_stays (event.Tick s) input.Tick (site_of w s) d
  plain_stays (event.Probe s) plain d = step_stays (event.Probe s) input.Probe (site_of w s) d
  plain_stays (event.Cut a b) plain d = d
  plain_stays (event.Heal a b) plain d = d
  plain_stays (event.Crash s) plain d = absurd plain
  plain_stays (event.Restart s) plain d = absurd plain

  -- another site is started
  other_stays : (s : ℕ) → old.stopped ≢ Some s → (found : Option Place) → place_of s w.places ≡ found → Done (option_and_then (restart_asked catalogue) found) → new ≡ old
  other_stays s other None at d = d
  other_stays s other (Some place) at d = go place.up d
    where
      go : (up : Option SiteState) → Done (cond (is_some up) None (Some (Asked.restarts place.id (life_start catalogue place.id place.durable)))) → new ≡ old
      go (Some x) d = d
      go None d = d.1 (λ is. other (is ∙ ap Some (place-id s w.places place at)))

  -- the site that stopped is
  that_starts : (s : ℕ) (place : Place) → old.stopped ≡ Some s → place_of s w.places ≡ Some place → place.up ≡ None → IfDone (event.Restart s) → new.stopped ≡ None
  that_starts s place is at down d =
      let asked = subst (λ found. Done (option_and_then (restart_asked catalogue) found)) at d in
      let starts = subst (λ (up : Option SiteState). Done (cond (is_some up) None (Some (Asked.restarts place.id (life_start catalogue place.id place.durable))))) down asked in
      (starts.0 (is ∙ ap Some (sym (place-id s w.places place at)))).1

  module _ (e : Event) (d : IfDone e) where
    abbrev v : WorldState
    v = (next catalogue e w).world

    abbrev It : Type 0
    It = Effect catalogue (moment 0 w e (next catalogue e w))

    -- no site that stopped is still to start
    none_waits : old.stopped ≡ None → It → IsAfterStop catalogue v new
    none_waits none it = subst (λ (b : AfterStop). IsAfterStop catalogue v b) (sym (stays it)) (subst (λ o. IfSome o (λ id. Waits catalogue v id old.nodes)) (sym none) tt)
      where
        nobody : (s : ℕ) → old.stopped ≢ Some s
        nobody s is = let z = sym none ∙ is in cc

        stays : It → new ≡ old
        stays (Effect.acts s a others) = plain_stays e (named e w s a.given a.gives).0 d
        stays (Effect.crashes s is sent own others) = crash_stays s (site_of w s) (subst (λ (e : Event). IfDone e) is d)
        stays (Effect.restarts s is sent own others) = other_stays s (nobody s) (place_of s w.places) refl (subst (λ (e : Event). IfDone e) is d)
        stays (Effect.stands plain none sent all) = plain_stays e plain d

    -- one has
    module _ (id : ℕ) (is_it : old.stopped ≡ Some id) (waits : Waits catalogue w id old.nodes) where
      still : new ≡ old → (place : Place) → place_of id v.places ≡ Some place → place.up ≡ None → waits.place.durable ≡ place.durable → IsAfterStop catalogue v new
      still same place at down durable =
          subst (λ (b : AfterStop). IsAfterStop catalogue v b) (sym same)
          (subst (λ o. IfSome o (λ id. Waits catalogue v id old.nodes)) (sym is_it) (record {
            place = place;
            place_is = at;
            is_down = down;
            port = waits.port;
            port_is = waits.port_is;
            host = waits.host;
            host_is = waits.host_is;
            id_is = waits.id_is;
            batches = waits.batches;
            down = waits.down;
            folds = waits.folds ∙ durable;
            same_catalogue = waits.same_catalogue;
          }))

      unchanged : new ≡ old → place_of id v.places ≡ place_of id w.places → IsAfterStop catalogue v new
      unchanged same at = still same waits.place (at ∙ waits.place_is) waits.is_down refl

      is_not_up : (x : SiteState) → site_of w id ≡ Some x → ⊥
      is_not_up x up = let down : site_of w id ≡ None = ap (option_and_then (λ (p : Place). p.up)) waits.place_is ∙ waits.is_down in let z = sym down ∙ up in cc

      one_waits : It → IsAfterStop catalogue v new
      one_waits (Effect.acts s a others) =
          unchanged (plain_stays e (named e w s a.given a.gives).0 d) (others id (λ same. is_not_up a.x (ap (site_of w) same ∙ a.up))).place_is
      one_waits (Effect.stands plain none sent all) = unchanged (plain_stays e plain d) (all id).place_is
      one_waits (Effect.crashes s is sent own others) = go (id == s) refl
        where
          same_nodes : new ≡ old
          same_nodes = crash_stays s (site_of w s) (subst (λ (e : Event). IfDone e) is d)

          go : (b : Bool) → (id == s) ≡ b → IsAfterStop catalogue v new
          go true t =
              let same : id ≡ s = eqb-true id s t in
              still same_nodes (put_down waits.place) (ap (λ s. place_of s v.places) same ∙ (own waits.place (ap (λ s. place_of s w.places) (sym same) ∙ waits.place_is)).place_is) refl refl
          go false t = unchanged same_nodes (others id (λ same. let z : (id == s) ≡ true = ap (λ n. id == n) (sym same) ∙ eq_self id in let y = sym z ∙ t in cc)).place_is
      one_waits (Effect.restarts s is sent own others) = go (id == s) refl
        where
          go : (b : Bool) → (id == s) ≡ b → IsAfterStop catalogue v new
          go true t =
              let same : id ≡ s = eqb-true id s t in
              let none : new.stopped ≡ None = that_starts s waits.place (is_it ∙ ap Some same) (ap (λ s. place_of s w.places) (sym same) ∙ waits.place_is) waits.is_down (subst (λ (e : Event). IfDone e) is d) in
              subst (λ o. IfSome o (λ id. Waits catalogue v id new.nodes)) (sym none) tt
          go false t =
              let differ : id ≢ s = (λ same. let z : (id == s) ≡ true = ap (λ n. id == n) (sym same) ∙ eq_self id in let y = sym z ∙ t in cc) in
              unchanged (other_stays s (λ other. differ (let z = sym is_it ∙ other in cc)) (place_of s w.places) refl (subst (λ (e : Event). IfDone e) is d)) (others id differ).place_is

    -- this holds after each step
    pub after_on : IsAfterStop catalogue w old → IsAfterStop catalogue v new
    after_on h = go old.stopped refl h
      where
        go : (o : Option ℕ) → old.stopped ≡ o → IfSome o (λ id. Waits catalogue w id old.nodes) → IsAfterStop catalogue v new
        go None none h = none_waits none (effect catalogue 0 e w)
        go (Some id) is h = one_waits id is h (effect catalogue 0 e w)
