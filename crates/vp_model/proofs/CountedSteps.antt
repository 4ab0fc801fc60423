-- An event does not change the count of steps, and the step that it is counts as one.
use Rattle.std.proofs.Common.{◌≡◌, ◌+◌, ◌-◌, ◌^◌, ◌==◌, ℕ, Bool, true, false, if◌then◌else◌, is_some, Option, Some, None, refl}
use Rattle.std.specs.Option.{option_map_or}
use Rattle.vp_model.specs.Types.{Sent, Input, Event}
use Rattle.vp_model.specs.Types.event
use Rattle.vp_model.specs.Types.input
use Rattle.vp_model.specs.Types.shown
use Rattle.vp_model.specs.Catalogue.{Catalogue}
use Rattle.vp_model.specs.World.{WorldState, Moved, shows, site_of, place_of, message_at, is_cut, site_step, at_site, deliver, crash, restart, restart_from, happens, next}

option_steps : {A : Type 0} (f : A → Moved) (o : Option A) (d : Moved) (n : ℕ) → ((a : A) → (f a).world.steps ≡ n) → d.world.steps ≡ n → (option_map_or f o d).world.steps ≡ n
option_steps f None d n h e = e
option_steps f (Some a) d n h e = h a

cond_steps : (b : Bool) (m k : Moved) (n : ℕ) → m.world.steps ≡ n → k.world.steps ≡ n → (if b then m else k).world.steps ≡ n
cond_steps true m k n h e = h
cond_steps false m k n h e = e

module _ (catalogue : Catalogue) (w : WorldState) where
  at_site_steps : (id : ℕ) (given : Input) → (at_site catalogue id given w).world.steps ≡ w.steps
  unfolding at_site site_step
  at_site_steps id given = option_steps (λ site. site_step catalogue id site given w) (site_of w id) (shows w (shown.Down id)) w.steps (λ site. refl) refl

  deliver_steps : (k : ℕ) (sent : Sent) → (deliver catalogue k sent w).world.steps ≡ w.steps
  unfolding deliver site_step
  deliver_steps k sent = option_steps _ (site_of w sent.to) (shows w (shown.Down sent.to)) w.steps (λ site. cond_steps (is_cut w sent.from sent.to) _ _ w.steps refl refl) refl

  crash_steps : (id : ℕ) → (crash id w).world.steps ≡ w.steps
  unfolding crash
  crash_steps id = option_steps _ (site_of w id) (shows w (shown.Down id)) w.steps (λ site. refl) refl

  restart_steps : (id : ℕ) → (restart catalogue id w).world.steps ≡ w.steps
  unfolding restart
  restart_steps id = option_steps (λ place. restart_from catalogue place w) (place_of id w.places) (shows w shown.Nothing) w.steps (λ place. cond_steps (is_some place.up) _ _ w.steps refl (cond_steps (place.durable.life == 2 ^ 32 - 1) _ _ w.steps refl refl)) refl

  pub happens_steps : (e : Event) → (happens catalogue e w).world.steps ≡ w.steps
  unfolding happens
  happens_steps (event.Call site words) = at_site_steps site (input.Call 0 words)
  happens_steps (event.Deliver k) = option_steps (λ sent. deliver catalogue k sent w) (message_at w k) (shows w shown.NoMessage) w.steps (λ sent. deliver_steps k sent) refl
  happens_steps (event.Flow count) = refl
  happens_steps (event.Tick site) = at_site_steps site input.Tick
  happens_steps (event.Probe site) = at_site_steps site input.Probe
  happens_steps (event.Cut a b) = refl
  happens_steps (event.Heal a b) = refl
  happens_steps (event.Crash site) = crash_steps site
  happens_steps (event.Restart site) = restart_steps site

pub next_counts : (catalogue : Catalogue) (e : Event) (w : WorldState) → (next catalogue e w).world.steps ≡ w.steps + 1
next_counts catalogue e w = happens_steps catalogue (record w { steps = w.steps + 1 }) e
