-- What an event asks of the nodes if it is neither a crash nor a restart: a step of the site that is lent for it, or nothing.
use Rattle.std.proofs.Common.{◌≡◌, ◌∙◌, ap, sym, ℕ, Bool, true, false, cond, refl}
use Rattle.std.specs.Prelude.{Option, Some, None, is_some, option_map, option_and_then}
use Rattle.std.specs.Option.{option_map_or}
use Rattle.vp_model.specs.Types.{Event, Input, Sent}
use Rattle.vp_model.specs.Types.event
use Rattle.vp_model.specs.Types.input
use Rattle.vp_model.specs.Types.shown
use Rattle.vp_model.specs.Catalogue.{Catalogue}
use Rattle.vp_model.specs.Site.{SiteState}
use Rattle.vp_model.specs.Told.{is_step}
use Rattle.vp_model.specs.World.{WorldState, Moved, site_of, message_at, is_cut, shows, site_step, at_site, deliver, happens, next}
use Rattle.vp_laws.proofs.Lists.Items.{none_of}
use Rattle.vp_laws.proofs.Worlds.Occurs.{Gives, counted}
use Rattle.vp_world.specs.Asked.{Asked}
use Rattle.vp_world.specs.Steps.{step_at, step_by, asked_of}
use Rattle.vp_runs.proofs.Happened.{IsPlain, named}

-- an event is a step where a site is lent for it
lent_by : {A B : Type 0} (f : A → Moved) (g : A → B) (o : Option A) (idle : Moved) → ((a : A) → is_step (f a).shown ≡ true) → is_step idle.shown ≡ false → is_step (option_map_or f o idle).shown ≡ is_some (option_map g o)
lent_by f g None idle steps rests = rests
lent_by f g (Some a) idle steps rests = steps a

lent_over : {A B : Type 0} (f : A → Moved) (g : A → B) (o : Option A) (idle kept : Moved) (b : Bool) → ((a : A) → is_step (f a).shown ≡ true) → is_step idle.shown ≡ false → is_step kept.shown ≡ false
    → is_step (option_map_or (λ a. cond b kept (f a)) o idle).shown ≡ is_some (cond b None (option_map g o))
lent_over f g None idle kept true steps rests stays = rests
lent_over f g (Some a) idle kept true steps rests stays = stays
lent_over f g o idle kept false steps rests stays = lent_by f g o idle steps rests

module _ (catalogue : Catalogue) (w : WorldState) where
  at_a_site : (e : Event) (s : ℕ) (given : Input) → is_step (at_site catalogue s given (counted w)).shown ≡ is_some (step_at w e s given)
  unfolding at_site site_step
  at_a_site e s given = lent_by (λ (site : SiteState). site_step catalogue s site given (counted w)) (λ (site : SiteState). Asked.steps e site given) (site_of w s) (shows (counted w) (shown.Down s)) (λ site. refl) refl

  at_a_receiver : (k : ℕ) (sent : Sent) → is_step (deliver catalogue k sent (counted w)).shown ≡ is_some (step_by w (event.Deliver k) sent)
  unfolding deliver site_step
  at_a_receiver k sent =
      lent_over _ (λ (site : SiteState). Asked.steps (event.Deliver k) site (input.Message sent.from sent.message)) (site_of w sent.to) (shows (counted w) (shown.Down sent.to)) (shows (counted w) (shown.Parted sent.from sent.to)) (is_cut w sent.from sent.to) (λ site. refl) refl refl

  delivered : (k : ℕ) → is_step (happens catalogue (event.Deliver k) (counted w)).shown ≡ is_some (asked_of catalogue (event.Deliver k) w)
  unfolding happens
  delivered k = go (message_at w k)
    where
      go : (o : Option Sent) → is_step (option_map_or (λ sent. deliver catalogue k sent (counted w)) o (shows (counted w) shown.NoMessage)).shown ≡ is_some (option_and_then (step_by w (event.Deliver k)) o)
      go None = refl
      go (Some sent) = at_a_receiver k sent

  pub shows_step : (e : Event) → IsPlain e → is_step (next catalogue e w).shown ≡ is_some (asked_of catalogue e w)
  unfolding happens
  shows_step (event.Call s words) plain = at_a_site (event.Call s words) s (input.Call 0 words)
  shows_step (event.Deliver k) plain = delivered k
  shows_step (event.Flow count) plain = refl
  shows_step (event.Tick s) plain = at_a_site (event.Tick s) s input.Tick
  shows_step (event.Probe s) plain = at_a_site (event.Probe s) s input.Probe
  shows_step (event.Cut a b) plain = refl
  shows_step (event.Heal a b) plain = refl
  shows_step (event.Crash s) plain = absurd plain
  shows_step (event.Restart s) plain = absurd plain

  -- no step, and nothing is asked for
  pub none_lent : (e : Event) → IsPlain e → is_step (next catalogue e w).shown ≡ false → asked_of catalogue e w ≡ None
  none_lent e plain none = none_of (asked_of catalogue e w) (sym (shows_step e plain) ∙ none)

  -- what comes to a site that is up is lent with the site, if the event is a step
  pub site_lent : (e : Event) (s : ℕ) (x : SiteState) (given : Input) → Gives e w s given → site_of w s ≡ Some x → is_step (next catalogue e w).shown ≡ true → asked_of catalogue e w ≡ Some (Asked.steps e x given)
  site_lent e s x given (Gives.called words is) up shows =
      ap (λ (e : Event). asked_of catalogue e w) is ∙ ap (option_map (λ (site : SiteState). Asked.steps (event.Call s words) site (input.Call 0 words))) up ∙ ap (λ (e : Event). Some (Asked.steps e x (input.Call 0 words))) (sym is)
  site_lent e s x given (Gives.came k m is at to) up shows =
      let by : asked_of catalogue e w ≡ cond (is_cut w m.from m.to) None (step_at w (event.Deliver k) m.to (input.Message m.from m.message)) = ap (λ (e : Event). asked_of catalogue e w) is ∙ ap (option_and_then (step_by w (event.Deliver k))) at in
      let plain = (named e w s (input.Message m.from m.message) (Gives.came k m is at to)).0 in
      by ∙ go (is_cut w m.from m.to) (ap is_some (sym by) ∙ sym (shows_step e plain) ∙ shows) ∙ ap (λ (e : Event). Some (Asked.steps e x (input.Message m.from m.message))) (sym is)
    where
      go : (b : Bool) → is_some (cond b None (step_at w (event.Deliver k) m.to (input.Message m.from m.message))) ≡ true → cond b None (step_at w (event.Deliver k) m.to (input.Message m.from m.message)) ≡ Some (Asked.steps (event.Deliver k) x (input.Message m.from m.message))
      go true some = absurd cc
      go false some = ap (λ (s : ℕ). step_at w (event.Deliver k) s (input.Message m.from m.message)) to ∙ ap (option_map (λ (site : SiteState). Asked.steps (event.Deliver k) site (input.Message m.from m.message))) up
  site_lent e s x given (Gives.ticked is) up shows =
      ap (λ (e : Event). asked_of catalogue e w) is ∙ ap (option_map (λ (site : SiteState). Asked.steps (event.Tick s) site input.Tick)) up ∙ ap (λ (e : Event). Some (Asked.steps e x input.Tick)) (sym is)
  site_lent e s x given (Gives.probed is) up shows =
      ap (λ (e : Event). asked_of catalogue e w) is ∙ ap (option_map (λ (site : SiteState). Asked.steps (event.Probe s) site input.Probe)) up ∙ ap (λ (e : Event). Some (Asked.steps e x input.Probe)) (sym is)
