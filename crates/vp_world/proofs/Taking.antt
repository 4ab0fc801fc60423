-- Which site takes a step.
use Rattle.std.proofs.Common.{◌≡◌, ℕ, ◌+◌, Bool, true, false, if◌then◌else◌, is_some, Option, Some, None, option_map, option_and_then, Result, Ok, Err, IfOk, refl, ◌∙◌}
use Rattle.std.specs.Option.{option_map_or}
use Rattle.vp_model.specs.Types.{Sent, Input, Event}
use Rattle.vp_model.specs.Types.event
use Rattle.vp_model.specs.Types.input
use Rattle.vp_model.specs.Types.shown
use Rattle.vp_model.specs.Catalogue.{Catalogue}
use Rattle.vp_model.specs.Told.{is_step}
use Rattle.vp_model.specs.World.{WorldState, Moved, site_of, message_at, is_cut, shows, site_step, at_site, deliver, happens}
use Rattle.vp_world.specs.Steps.{taker, if_up, receiver, taker_now}

-- an event is a step where a site can do it, and nothing is in the way
taken_by : {A : Type 0} (f : A → Moved) (o : Option A) (idle : Moved) (s : ℕ) → ((a : A) → is_step (f a).shown ≡ true) → is_step idle.shown ≡ false
    → (if is_some o then Some s else None) ≡ (if is_step (option_map_or f o idle).shown then Some s else None)
taken_by f None idle s steps rests = rw rests refl
taken_by f (Some a) idle s steps rests = rw (steps a) refl

let_by : {A : Type 0} (f : A → Moved) (o : Option A) (idle kept : Moved) (s : ℕ) (b : Bool) → ((a : A) → is_step (f a).shown ≡ true) → is_step idle.shown ≡ false → is_step kept.shown ≡ false
    → (if b then None else (if is_some o then Some s else None)) ≡ (if is_step (option_map_or (λ a. if b then kept else f a) o idle).shown then Some s else None)
let_by f None idle kept s true steps rests stays = rw rests refl
let_by f (Some a) idle kept s true steps rests stays = rw stays refl
let_by f o idle kept s false steps rests stays = taken_by f o idle s steps rests

module _ (catalogue : Catalogue) (w : WorldState) where
  abbrev counted : WorldState
  counted = record w { steps = w.steps + 1 }

  at_a_site : (s : ℕ) (given : Input) → if_up w s ≡ (if is_step (at_site catalogue s given counted).shown then Some s else None)
  unfolding at_site site_step
  at_a_site s given = taken_by _ (site_of w s) _ s (λ site. refl) refl

  at_a_receiver : (k : ℕ) (sent : Sent) → (if is_cut w sent.from sent.to then None else if_up w sent.to) ≡ (if is_step (deliver catalogue k sent counted).shown then Some sent.to else None)
  unfolding deliver site_step
  at_a_receiver k sent = let_by _ (site_of w sent.to) _ _ sent.to (is_cut w sent.from sent.to) (λ site. refl) refl refl

  delivered : (k : ℕ) → receiver w k ≡ taker catalogue (event.Deliver k) w
  unfolding happens
  delivered k = go (message_at w k)
    where
      go : (o : Option Sent) → option_and_then (λ (sent : Sent). if is_cut w sent.from sent.to then None else if_up w sent.to) o
          ≡ option_and_then (λ site. if is_step (option_map_or (λ sent. deliver catalogue k sent counted) o (shows counted shown.NoMessage)).shown then Some site else None) (option_map (λ (sent : Sent). sent.to) o)
      go None = refl
      go (Some sent) = at_a_receiver k sent

  pub takers : (e : Event) → taker_now e w ≡ taker catalogue e w
  unfolding happens
  takers (event.Call s words) = at_a_site s (input.Call 0 words)
  takers (event.Deliver k) = delivered k
  takers (event.Flow count) = refl
  takers (event.Tick s) = at_a_site s input.Tick
  takers (event.Probe s) = at_a_site s input.Probe
  takers (event.Cut a b) = refl
  takers (event.Heal a b) = refl
  takers (event.Crash s) = refl
  takers (event.Restart s) = refl

pub taken_so : {E : Type 0} (r : Result (Option ℕ) E) (catalogue : Catalogue) (e : Event) (w : WorldState) → IfOk r (λ site. site ≡ taker_now e w) → IfOk r (λ site. site ≡ taker catalogue e w)
taken_so (Ok site) catalogue e w h = h ∙ takers catalogue w e
taken_so (Err fault) catalogue e w h = tt
