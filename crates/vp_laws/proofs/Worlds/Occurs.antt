-- What one event does in a world, by kinds, and the induction over the runs of all schedules for a property of runs.
use Rattle.std.proofs.Common.{◌≡◌, ◌++◌, ℕ, zero, suc, ◌+◌, ◌-◌, ◌^◌, false, List, [], ◌∷◌, refl}
use Rattle.std.specs.Prelude.{Option, Some, None, ◌==◌}
use Rattle.vp_model.specs.Types.{Event, Input, Sent, Call, Shown}
use Rattle.vp_model.specs.Types.event
use Rattle.vp_model.specs.Types.input
use Rattle.vp_model.specs.Types.shown
use Rattle.vp_model.specs.Catalogue.{Catalogue}
use Rattle.vp_model.specs.Site.{SiteState}
use Rattle.vp_model.specs.Told.{is_step, replies_in}
use Rattle.vp_model.specs.World.{Place, WorldState, Moved, Run, place_of, site_of, message_at, is_cut, site_step, at_site, deliver, crash, restart, restart_place, restart_from, happens, next, start_run, one_step, flow, one_event, run_from, run_of, flowing, shows, change_place}
use Rattle.vp_laws.proofs.Lists.Keeps.{for_some-keeps, by_option, by_test}
use Rattle.vp_laws.proofs.Worlds.Scenes.{scene_of, place-id, message_at-has}
use Rattle.vp_laws.proofs.Worlds.Events.{Arrives, crashed, restarted}

-- what is no step shows no reply
pub no_replies : (what : Shown) → is_step what ≡ false → replies_in what ≡ []
no_replies (shown.Step commits first messages replies) e = cc
no_replies _ e = refl

-- the event gives this input to the site
pub data Gives (e : Event) (w : WorldState) (s : ℕ) : Input → Type 0 where
  called : (words : Call) → e ≡ event.Call s words → Gives e w s (input.Call 0 words)
  came : (k : ℕ) (m : Sent) → e ≡ event.Deliver k → message_at w k ≡ Some m → m.to ≡ s → Gives e w s (input.Message m.from m.message)
  ticked : e ≡ event.Tick s → Gives e w s input.Tick
  probed : e ≡ event.Probe s → Gives e w s input.Probe

-- a site does a step; or a site goes down or starts again; or all stays, and no step is shown
pub data Occurs (catalogue : Catalogue) (e : Event) (w : WorldState) (m : Moved) : Type 0 where
  acts : (s : ℕ) (x : SiteState) (given : Input) (v : WorldState) → scene_of v ≡ scene_of w → site_of w s ≡ Some x → Arrives (scene_of w) s given → Gives e w s given → m ≡ site_step catalogue s x given v → Occurs catalogue e w m
  stands : scene_of m.world ≡ scene_of w → is_step m.shown ≡ false → Occurs catalogue e w m
  crashes : (s : ℕ) → scene_of m.world ≡ crashed (scene_of w) s → is_step m.shown ≡ false → Occurs catalogue e w m
  restarts : (s : ℕ) (place : Place) → place_of s w.places ≡ Some place → place.up ≡ None → place.id ≡ s → scene_of m.world ≡ restarted catalogue (scene_of w) s → is_step m.shown ≡ false → Occurs catalogue e w m

-- the world in which the step is counted already
abbrev pub counted : WorldState → WorldState
counted w = record w { steps = w.steps + 1 }

module _ (catalogue : Catalogue) (e : Event) (w : WorldState) where
  abbrev O : Moved → Type 0
  O m = Occurs catalogue e w m

  at_site-occurs : (s : ℕ) (given : Input) → Arrives (scene_of w) s given → Gives e w s given → O (at_site catalogue s given (counted w))
  unfolding at_site
  at_site-occurs s given a g = by_option O (λ site. site_step catalogue s site given (counted w)) (site_of w s) (shows (counted w) (shown.Down s)) (λ x up. Occurs.acts s x given (counted w) refl up a g refl) (λ down. Occurs.stands refl refl)

  deliver-occurs : (k : ℕ) (m : Sent) → e ≡ event.Deliver k → message_at w k ≡ Some m → O (deliver catalogue k m (counted w))
  unfolding deliver
  deliver-occurs k m is at =
      let v : WorldState = record (counted w) { delivered = w.delivered ++ k ∷ [] } in
      by_option O _ (site_of w m.to) (shows (counted w) (shown.Down m.to))
      (λ x up. by_test O (is_cut w m.from m.to) (shows (counted w) (shown.Parted m.from m.to)) (site_step catalogue m.to x (input.Message m.from m.message) v)
      (λ parted. Occurs.stands refl refl)
      (λ joined. Occurs.acts m.to x (input.Message m.from m.message) v refl up (message_at-has w k m at) (Gives.came k m is at refl) refl))
      (λ down. Occurs.stands refl refl)

  crash-occurs : (s : ℕ) → O (crash s (counted w))
  unfolding crash
  crash-occurs s = by_option O _ (site_of w s) (shows (counted w) (shown.Down s)) (λ x up. Occurs.crashes s refl refl) (λ down. Occurs.stands refl refl)

  restart_from-occurs : (place : Place) (s : ℕ) → place_of s w.places ≡ Some place → place.id ≡ s → O (restart_from catalogue place (counted w))
  restart_from-occurs place s at i = go place.up refl
    where
      go : (up : Option SiteState) → place.up ≡ up → O (restart_from catalogue place (counted w))
      go (Some x) u = rw u (Occurs.stands refl refl)
      go None u =
          rw u (by_test O (place.durable.life == 2 ^ 32 - 1) (shows (counted w) (shown.LivesSpent (2 ^ 32 - 1)))
          (shows (record (counted w) { places = change_place place.id (restart_place catalogue) w.places }) (shown.Life (place.durable.life + 1)))
          (λ t. Occurs.stands refl refl) (λ t. Occurs.restarts s place at u i (rw i refl) refl))

  restart-occurs : (s : ℕ) → O (restart catalogue s (counted w))
  unfolding restart
  restart-occurs s = by_option O _ (place_of s w.places) (shows (counted w) shown.Nothing) (λ place at. restart_from-occurs place s at (place-id s w.places place at)) (λ none. Occurs.stands refl refl)

happens-occurs : (catalogue : Catalogue) (e : Event) (w : WorldState) → Occurs catalogue e w (next catalogue e w)
unfolding happens
happens-occurs catalogue (event.Call s words) w = at_site-occurs catalogue (event.Call s words) w s (input.Call 0 words) tt (Gives.called words refl)
happens-occurs catalogue (event.Deliver k) w = by_option (Occurs catalogue (event.Deliver k) w) _ (message_at w k) (shows (counted w) shown.NoMessage) (λ m at. deliver-occurs catalogue (event.Deliver k) w k m refl at) (λ none. Occurs.stands refl refl)
happens-occurs catalogue (event.Flow count) w = Occurs.stands refl refl
happens-occurs catalogue (event.Tick s) w = at_site-occurs catalogue (event.Tick s) w s input.Tick tt (Gives.ticked refl)
happens-occurs catalogue (event.Probe s) w = at_site-occurs catalogue (event.Probe s) w s input.Probe tt (Gives.probed refl)
happens-occurs catalogue (event.Cut a b) w = Occurs.stands refl refl
happens-occurs catalogue (event.Heal a b) w = Occurs.stands refl refl
happens-occurs catalogue (event.Crash s) w = crash-occurs catalogue (event.Crash s) w s
happens-occurs catalogue (event.Restart s) w = restart-occurs catalogue (event.Restart s) w s

pub occurs : (catalogue : Catalogue) (e : Event) (w : WorldState) → Occurs catalogue e w (next catalogue e w)
occurs = happens-occurs

-- a property that each step keeps holds of the run of each schedule
pub record RunLasts (catalogue : Catalogue) (J : Run → Type 0) : Type 0 where
  pub starts : J (start_run catalogue)
  pub steps : (number : ℕ) (e : Event) (run : Run) → J run → J (one_step catalogue number e run)

module _ (catalogue : Catalogue) (J : Run → Type 0) (k : RunLasts catalogue J) where
  flow-keeps : (number count : ℕ) (run : Run) → J run → J (flow catalogue number count run)
  unfolding flow
  flow-keeps number zero run h = h
  flow-keeps number (suc count) run h =
      for_some-keeps J
      (λ n run. flow catalogue number count (one_step catalogue number (event.Deliver n) run))
      (λ n run h. flow-keeps number count (one_step catalogue number (event.Deliver n) run) (k.steps number (event.Deliver n) run h))
      (flowing run.world) run h

  one_event-keeps : (number : ℕ) (e : Event) (run : Run) → J run → J (one_event catalogue number e run)
  unfolding one_event
  one_event-keeps number (event.Flow count) run h = flow-keeps number count run h
  one_event-keeps number e run h = k.steps number e run h

  run_from-keeps : (number : ℕ) (events : List Event) (run : Run) → J run → J (run_from catalogue number events run)
  unfolding run_from
  run_from-keeps number [] run h = h
  run_from-keeps number (e ∷ events) run h = run_from-keeps (number + 1) events (one_event catalogue number e run) (one_event-keeps number e run h)

  pub run-keeps : (events : List Event) → J (run_of (record { catalogue = catalogue; events = events }))
  unfolding run_of
  run-keeps events = run_from-keeps 1 events (start_run catalogue) k.starts
