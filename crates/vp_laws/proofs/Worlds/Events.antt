-- What each event keeps holds in every world of every schedule: the induction, once for any property of scenes.
use Rattle.std.proofs.Common.{◌≡◌, ℕ, ◌+◌, ◌-◌, ◌^◌, zero, suc, List, [], ◌∷◌, ◌++◌, refl, ⊎_elim}
use Rattle.std.specs.Prelude.{Option, Some, None, ◌==◌}
use Rattle.vp_model.specs.Types.{Event, Input, Sent, Message}
use Rattle.vp_model.specs.Types.event
use Rattle.vp_model.specs.Types.input
use Rattle.vp_model.specs.Types.shown
use Rattle.vp_model.specs.Catalogue.{Catalogue}
use Rattle.vp_model.specs.Site.{SiteState}
use Rattle.vp_model.specs.Step.{step}
use Rattle.vp_model.specs.World.{Place, WorldState, Moved, Run, Moment, place_of, site_of, change_place, message_at, is_cut, start_world, site_step, at_site, deliver, crash, restart, restart_place, restart_from, happens, next, one_step, flow, one_event, run_from, run_of, flowing, moments_of, shows}
use Rattle.vp_laws.proofs.Lists.Members.{Has, has_none, has_cases, has_one_is}
use Rattle.vp_laws.proofs.Lists.Keeps.{for_some-keeps, by_test, by_option}
use Rattle.vp_laws.proofs.Worlds.Scenes.{Scene, scene_of, plain_at, acted, place-id, message_at-has}
use Rattle.vp_laws.proofs.Moves.LocalViews.{letter}
use Rattle.vp_laws.proofs.Moves.Table.{Comes}

-- a message that comes was sent to the site
abbrev pub Arrives : Scene → ℕ → Input → Type 0
Arrives w s (input.Message from m) = Has w.sent (record { from = from; to = s; message = m })
Arrives w s given = Unit {0}

pub came_in : (w : Scene) (s : ℕ) (given : Input) → Arrives w s given → (from : ℕ) (m : Message) → Comes given from m → Has w.sent (letter from s m)
came_in w s given r from m e = rw e at r

abbrev pub crashed : Scene → ℕ → Scene
crashed w s = record w { places = change_place s (λ (place : Place). record place { up = None }) w.places }

abbrev pub restarted : Catalogue → Scene → ℕ → Scene
restarted catalogue w s = record w { places = change_place s (restart_place catalogue) w.places }

pub record Lasts (catalogue : Catalogue) (I : Scene → Type 0) : Type 0 where
  pub starts : I (scene_of (start_world catalogue))
  pub acts : (w : Scene) (s : ℕ) (x : SiteState) (given : Input) → plain_at w s ≡ Some x → Arrives w s given → I w → I (acted w s x (step catalogue x given))
  pub crashes : (w : Scene) (s : ℕ) → I w → I (crashed w s)
  pub restarts : (w : Scene) (s : ℕ) (place : Place) → place_of s w.places ≡ Some place → place.up ≡ None → place.id ≡ s → I w → I (restarted catalogue w s)

module _ (catalogue : Catalogue) (I : Scene → Type 0) (k : Lasts catalogue I) where
  abbrev Good : WorldState → Type 0
  Good w = I (scene_of w)

  site_step-good : (s : ℕ) (x : SiteState) (given : Input) (w : WorldState) → site_of w s ≡ Some x → Arrives (scene_of w) s given → Good w → Good (site_step catalogue s x given w).world
  unfolding site_step
  site_step-good s x given w up a h = k.acts (scene_of w) s x given up a h

  abbrev Kept : Moved → Type 0
  Kept m = Good m.world

  at_site-good : (s : ℕ) (given : Input) (w : WorldState) → Arrives (scene_of w) s given → Good w → Kept (at_site catalogue s given w)
  unfolding at_site
  at_site-good s given w a h = by_option Kept (λ site. site_step catalogue s site given w) (site_of w s) (shows w (shown.Down s)) (λ x up. site_step-good s x given w up a h) (λ none. h)

  deliver-good : (n : ℕ) (m : Sent) (w : WorldState) → Has w.sent m → Good w → Kept (deliver catalogue n m w)
  unfolding deliver
  deliver-good n m w sent h =
      by_option Kept _ (site_of w m.to) (shows w (shown.Down m.to))
      (λ x up. by_test Kept (is_cut w m.from m.to) (shows w (shown.Parted m.from m.to)) (site_step catalogue m.to x (input.Message m.from m.message) (record w { delivered = w.delivered ++ n ∷ [] }))
      (λ e. h) (λ e. site_step-good m.to x (input.Message m.from m.message) (record w { delivered = w.delivered ++ n ∷ [] }) up sent h))
      (λ none. h)

  crash-good : (s : ℕ) (w : WorldState) → Good w → Kept (crash s w)
  unfolding crash
  crash-good s w h = by_option Kept _ (site_of w s) (shows w (shown.Down s)) (λ x up. k.crashes (scene_of w) s h) (λ none. h)

  restart_from-good : (place : Place) (s : ℕ) (w : WorldState) → place_of s w.places ≡ Some place → place.id ≡ s → Good w → Kept (restart_from catalogue place w)
  restart_from-good place s w e i h = go place.up refl
    where
      go : (up : Option SiteState) → place.up ≡ up → Kept (restart_from catalogue place w)
      go (Some x) u = rw u h
      go None u =
          rw u (by_test Kept (place.durable.life == 2 ^ 32 - 1) (shows w (shown.LivesSpent (2 ^ 32 - 1)))
          (shows (record w { places = change_place place.id (restart_place catalogue) w.places }) (shown.Life (place.durable.life + 1)))
          (λ t. h) (λ t. rw i (k.restarts (scene_of w) s place e u i h)))

  restart-good : (s : ℕ) (w : WorldState) → Good w → Kept (restart catalogue s w)
  unfolding restart
  restart-good s w h = by_option Kept _ (place_of s w.places) (shows w shown.Nothing) (λ place e. restart_from-good place s w e (place-id s w.places place e) h) (λ none. h)

  pub happens-good : (e : Event) (w : WorldState) → Good w → Kept (happens catalogue e w)
  unfolding happens
  happens-good (event.Call s words) w h = at_site-good s (input.Call 0 words) w tt h
  happens-good (event.Deliver n) w h = by_option Kept _ (message_at w n) (shows w shown.NoMessage) (λ m e. deliver-good n m w (message_at-has w n m e) h) (λ none. h)
  happens-good (event.Flow count) w h = h
  happens-good (event.Tick s) w h = at_site-good s input.Tick w tt h
  happens-good (event.Probe s) w h = at_site-good s input.Probe w tt h
  happens-good (event.Cut a b) w h = h
  happens-good (event.Heal a b) w h = h
  happens-good (event.Crash s) w h = crash-good s w h
  happens-good (event.Restart s) w h = restart-good s w h

  -- the run's last world, and the worlds before and after each step
  record GoodRun (run : Run) : Type 0 where
    world : Good run.world
    moments : (m : Moment) → Has run.moments m → Good m.before × Good m.after

  one_step-good : (number : ℕ) (e : Event) (run : Run) → GoodRun run → GoodRun (one_step catalogue number e run)
  unfolding one_step
  one_step-good number e run h =
      let now : Good (next catalogue e run.world).world = happens-good e (record run.world { steps = run.world.steps + 1 }) h.world in
      record {
        world = now;
        moments = λ m q. ⊎_elim (λ old. h.moments m old) (λ new. let same = has_one_is _ m new in rw (← same) (h.world, now)) (has_cases run.moments _ m q);
      }

  flow-good : (number count : ℕ) (run : Run) → GoodRun run → GoodRun (flow catalogue number count run)
  unfolding flow
  flow-good number zero run h = h
  flow-good number (suc count) run h =
      for_some-keeps GoodRun
      (λ n run. flow catalogue number count (one_step catalogue number (event.Deliver n) run))
      (λ n run h. flow-good number count (one_step catalogue number (event.Deliver n) run) (one_step-good number (event.Deliver n) run h))
      (flowing run.world) run h

  one_event-good : (number : ℕ) (e : Event) (run : Run) → GoodRun run → GoodRun (one_event catalogue number e run)
  unfolding one_event
  one_event-good number (event.Flow count) run h = flow-good number count run h
  one_event-good number e run h = one_step-good number e run h

  run_from-good : (number : ℕ) (events : List Event) (run : Run) → GoodRun run → GoodRun (run_from catalogue number events run)
  unfolding run_from
  run_from-good number [] run h = h
  run_from-good number (e ∷ events) run h = run_from-good (number + 1) events (one_event catalogue number e run) (one_event-good number e run h)

  run-good : (events : List Event) → GoodRun (run_of (record { catalogue = catalogue; events = events }))
  unfolding run_of
  run-good events = run_from-good 1 events _ (record { world = k.starts; moments = λ m q. absurd (has_none m q) })

  pub in_last : (events : List Event) → I (scene_of (run_of (record { catalogue = catalogue; events = events })).world)
  in_last events = (run-good events).world

  pub in_each : (events : List Event) (m : Moment) → Has (moments_of (record { catalogue = catalogue; events = events })) m → I (scene_of m.before) × I (scene_of m.after)
  in_each events m q = (run-good events).moments m q
