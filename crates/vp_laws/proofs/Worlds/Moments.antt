-- The moments of a schedule: each is a step of a site with what it gave, or a change that shows no commit and no reply. And what
-- lasts from a moment to the end of the schedule.
use Rattle.std.proofs.Common.{◌≡◌, sym, subst, ℕ, ◌+◌, ◌-◌, ◌^◌, zero, suc, List, [], ◌∷◌, ◌++◌, refl, ⊎_elim}
use Rattle.std.specs.Prelude.{Option, Some, None, ◌==◌, length}
use Rattle.vp_model.specs.Types.{Event, Input, Sent, Shown}
use Rattle.vp_model.specs.Types.event
use Rattle.vp_model.specs.Types.input
use Rattle.vp_model.specs.Types.shown
use Rattle.vp_model.specs.Catalogue.{Catalogue}
use Rattle.vp_model.specs.Site.{SiteState}
use Rattle.vp_model.specs.Step.{step}
use Rattle.vp_model.specs.World.{Place, WorldState, Moved, Run, Moment, place_of, site_of, change_place, message_at, is_cut, site_step, at_site, deliver, crash, restart, restart_place, restart_from, happens, next, one_step, flow, one_event, run_from, run_of, flowing, moments_of, shows}
use Rattle.vp_model.specs.Told.{replies_in}
use Rattle.vp_model.specs.Headline.{commits_in}
use Rattle.vp_laws.proofs.Lists.Members.{Has, has_none, has_cases, has_one_is}
use Rattle.vp_laws.proofs.Lists.Keeps.{for_some-keeps, by_test, by_option}
use Rattle.vp_laws.proofs.Worlds.Scenes.{Scene, scene_of, plain_at, acted, place-id, message_at-has}
use Rattle.vp_laws.proofs.Worlds.Events.{Arrives, Lasts, happens-good}
use Rattle.vp_laws.proofs.Worlds.Sites.{Quiet, crash_quiet, restart_quiet}

pub data MomentOf (catalogue : Catalogue) (w : Scene) (what : Shown) (new : Scene) : Type 0 where
  same : new ≡ w → replies_in what ≡ [] → commits_in what ≡ [] → MomentOf catalogue w what new
  quiet : (s : ℕ) → Quiet catalogue w new s → replies_in what ≡ [] → commits_in what ≡ [] → MomentOf catalogue w what new
  steps : (s : ℕ) (x : SiteState) (given : Input) (first : ℕ) → plain_at w s ≡ Some x → Arrives w s given → what ≡ shown.Step (step catalogue x given).effects.commits first (step catalogue x given).effects.messages (step catalogue x given).effects.replies → new ≡ acted w s x (step catalogue x given) → MomentOf catalogue w what new

module _ (catalogue : Catalogue) where
  abbrev Is : WorldState → Moved → Type 0
  Is w m = MomentOf catalogue (scene_of w) m.shown (scene_of m.world)

  site_step-is : (s : ℕ) (x : SiteState) (given : Input) (w : WorldState) → site_of w s ≡ Some x → Arrives (scene_of w) s given → Is w (site_step catalogue s x given w)
  unfolding site_step
  site_step-is s x given w up a = MomentOf.steps s x given (length w.sent + 1) up a refl refl

  at_site-is : (s : ℕ) (given : Input) (w : WorldState) → Arrives (scene_of w) s given → Is w (at_site catalogue s given w)
  unfolding at_site
  at_site-is s given w a = by_option (Is w) (λ site. site_step catalogue s site given w) (site_of w s) (shows w (shown.Down s)) (λ x up. site_step-is s x given w up a) (λ none. MomentOf.same refl refl refl)

  deliver-is : (n : ℕ) (m : Sent) (w : WorldState) → Has w.sent m → Is w (deliver catalogue n m w)
  unfolding deliver
  deliver-is n m w sent =
      by_option (Is w) _ (site_of w m.to) (shows w (shown.Down m.to))
      (λ x up. by_test (Is w) (is_cut w m.from m.to) (shows w (shown.Parted m.from m.to)) (site_step catalogue m.to x (input.Message m.from m.message) (record w { delivered = w.delivered ++ n ∷ [] }))
      (λ e. MomentOf.same refl refl refl) (λ e. site_step-is m.to x (input.Message m.from m.message) (record w { delivered = w.delivered ++ n ∷ [] }) up sent))
      (λ none. MomentOf.same refl refl refl)

  crash-is : (s : ℕ) (w : WorldState) → Is w (crash s w)
  unfolding crash
  crash-is s w = by_option (Is w) _ (site_of w s) (shows w (shown.Down s)) (λ x up. MomentOf.quiet s (crash_quiet catalogue (scene_of w) s) refl refl) (λ none. MomentOf.same refl refl refl)

  restart_from-is : (place : Place) (s : ℕ) (w : WorldState) → place_of s w.places ≡ Some place → place.id ≡ s → Is w (restart_from catalogue place w)
  restart_from-is place s w e i = go place.up refl
    where
      go : (up : Option SiteState) → place.up ≡ up → Is w (restart_from catalogue place w)
      go (Some x) u = rw u (MomentOf.same refl refl refl)
      go None u =
          rw u (by_test (Is w) (place.durable.life == 2 ^ 32 - 1) (shows w (shown.LivesSpent (2 ^ 32 - 1)))
          (shows (record w { places = change_place place.id (restart_place catalogue) w.places }) (shown.Life (place.durable.life + 1)))
          (λ t. MomentOf.same refl refl refl) (λ t. rw i (MomentOf.quiet s (restart_quiet catalogue (scene_of w) s place e i) refl refl)))

  restart-is : (s : ℕ) (w : WorldState) → Is w (restart catalogue s w)
  unfolding restart
  restart-is s w = by_option (Is w) _ (place_of s w.places) (shows w shown.Nothing) (λ place e. restart_from-is place s w e (place-id s w.places place e)) (λ none. MomentOf.same refl refl refl)

  happens-is : (e : Event) (w : WorldState) → Is w (happens catalogue e w)
  unfolding happens
  happens-is (event.Call s words) w = at_site-is s (input.Call 0 words) w tt
  happens-is (event.Deliver n) w = by_option (Is w) _ (message_at w n) (shows w shown.NoMessage) (λ m e. deliver-is n m w (message_at-has w n m e)) (λ none. MomentOf.same refl refl refl)
  happens-is (event.Flow count) w = MomentOf.same refl refl refl
  happens-is (event.Tick s) w = at_site-is s input.Tick w tt
  happens-is (event.Probe s) w = at_site-is s input.Probe w tt
  happens-is (event.Cut a b) w = MomentOf.same refl refl refl
  happens-is (event.Heal a b) w = MomentOf.same refl refl refl
  happens-is (event.Crash s) w = crash-is s w
  happens-is (event.Restart s) w = restart-is s w

  -- an invariant I, and a fact K that each moment keeps
  module _ (I : Scene → Type 0) (lasts : Lasts catalogue I) (K : Scene → Type 0) (keeps : (w : Scene) (what : Shown) (new : Scene) → MomentOf catalogue w what new → I w → I new → K w → K new) where
    record RunIs (run : Run) : Type 0 where
      world : I (scene_of run.world)
      moments : (m : Moment) → Has run.moments m → MomentOf catalogue (scene_of m.before) m.line.shown (scene_of m.after)
      later : (m : Moment) → Has run.moments m → K (scene_of m.after) → K (scene_of run.world)

    one_step-is : (number : ℕ) (e : Event) (run : Run) → RunIs run → RunIs (one_step catalogue number e run)
    unfolding one_step
    one_step-is number e run h =
        let now : MomentOf catalogue (scene_of run.world) (next catalogue e run.world).shown (scene_of (next catalogue e run.world).world) = happens-is e (record run.world { steps = run.world.steps + 1 }) in
        let good : I (scene_of (next catalogue e run.world).world) = happens-good catalogue I lasts e (record run.world { steps = run.world.steps + 1 }) h.world in
        record {
          world = good;
          moments = λ m q. ⊎_elim (λ old. h.moments m old) (λ new. let same = has_one_is _ m new in rw (← same) now) (has_cases run.moments _ m q);
          later = λ m q k. ⊎_elim (λ old. keeps (scene_of run.world) (next catalogue e run.world).shown (scene_of (next catalogue e run.world).world) now h.world good (h.later m old k)) (λ new. let same = has_one_is _ m new in subst (λ (m : Moment). K (scene_of m.after)) (sym same) k) (has_cases run.moments _ m q);
        }

    flow-is : (number count : ℕ) (run : Run) → RunIs run → RunIs (flow catalogue number count run)
    unfolding flow
    flow-is number zero run h = h
    flow-is number (suc count) run h =
        for_some-keeps RunIs
        (λ n run. flow catalogue number count (one_step catalogue number (event.Deliver n) run))
        (λ n run h. flow-is number count (one_step catalogue number (event.Deliver n) run) (one_step-is number (event.Deliver n) run h))
        (flowing run.world) run h

    one_event-is : (number : ℕ) (e : Event) (run : Run) → RunIs run → RunIs (one_event catalogue number e run)
    unfolding one_event
    one_event-is number (event.Flow count) run h = flow-is number count run h
    one_event-is number e run h = one_step-is number e run h

    run_from-is : (number : ℕ) (events : List Event) (run : Run) → RunIs run → RunIs (run_from catalogue number events run)
    unfolding run_from
    run_from-is number [] run h = h
    run_from-is number (e ∷ events) run h = run_from-is (number + 1) events (one_event catalogue number e run) (one_event-is number e run h)

    run-is : (events : List Event) → RunIs (run_of (record { catalogue = catalogue; events = events }))
    unfolding run_of
    run-is events = run_from-is 1 events _ (record { world = lasts.starts; moments = λ m q. absurd (has_none m q); later = λ m q k. absurd (has_none m q) })

    pub moment_of : (events : List Event) (m : Moment) → Has (moments_of (record { catalogue = catalogue; events = events })) m → MomentOf catalogue (scene_of m.before) m.line.shown (scene_of m.after)
    moment_of events m h = (run-is events).moments m h

    pub later_on : (events : List Event) (m : Moment) → Has (moments_of (record { catalogue = catalogue; events = events })) m → K (scene_of m.after) → K (scene_of (run_of (record { catalogue = catalogue; events = events })).world)
    later_on events m h k = (run-is events).later m h k
