-- Single steps do the same in worlds that differ only in which messages count as delivered.
use Rattle.std.proofs.Common.{◌≡◌, ◌∙◌, ap, sym, subst, ℕ, ◌+◌, ◌-◌, ◌^◌, Bool, true, false, cond, List, [], ◌∷◌, ◌++◌, refl}
use Rattle.std.specs.Prelude.{⊤, Option, Some, None, ◌==◌, is_some}
use Rattle.std.specs.Option.{option_map_or}
use Rattle.std.specs.List.{AllByRecursion}
use Rattle.vp_model.specs.Types.{Event, Input, Sent}
use Rattle.vp_model.specs.Types.event
use Rattle.vp_model.specs.Types.input
use Rattle.vp_model.specs.Catalogue.{Catalogue}
use Rattle.vp_model.specs.World.{WorldState, Moved, Run, place_of, site_of, message_at, is_cut, site_step, at_site, deliver, crash, restart, happens, next, one_step, one_event, run_from}
use Rattle.vp_runs.specs.StopLaws.{SameButDelivered}

-- ---- one step

-- the results of two steps are the same
abbrev Alike : Moved → Moved → Type 0
Alike m n = SameButDelivered m.world n.world

by_both : {A : Type 0} (f g : A → Moved) (o : Option A) (d e : Moved) → ((a : A) → Alike (f a) (g a)) → Alike d e → Alike (option_map_or f o d) (option_map_or g o e)
by_both f g (Some a) d e some none = some a
by_both f g None d e some none = none

by_each : (b : Bool) (x y u v : Moved) → Alike x u → Alike y v → Alike (cond b x y) (cond b u v)
by_each true x y u v first second = first
by_each false x y u v first second = second

module _ (catalogue : Catalogue) (w : WorldState) (numbers : List ℕ) where
  -- the other world, and both with the step counted
  abbrev other : WorldState
  other = record w { delivered = numbers }

  abbrev counted : WorldState → WorldState
  counted v = record v { steps = v.steps + 1 }

  steps_alike : (s : ℕ) (given : Input) → Alike (at_site catalogue s given (counted other)) (at_site catalogue s given (counted w))
  unfolding at_site site_step
  steps_alike s given = by_both _ _ (site_of w s) _ _ (λ site. (numbers, refl)) (numbers, refl)

  comes_alike : (k : ℕ) (sent : Sent) → Alike (deliver catalogue k sent (counted other)) (deliver catalogue k sent (counted w))
  unfolding deliver site_step
  comes_alike k sent =
      by_both _ _ (site_of w sent.to) _ _ (λ site. by_each (is_cut w sent.from sent.to) _ _ _ _ (numbers, refl) (numbers ++ k ∷ [], refl)) (numbers, refl)

  crashes_alike : (s : ℕ) → Alike (crash s (counted other)) (crash s (counted w))
  unfolding crash
  crashes_alike s = by_both _ _ (site_of w s) _ _ (λ site. (numbers, refl)) (numbers, refl)

  restarts_alike : (s : ℕ) → Alike (restart catalogue s (counted other)) (restart catalogue s (counted w))
  unfolding restart
  restarts_alike s =
      by_both _ _ (place_of s w.places) _ _
      (λ place. by_each (is_some place.up) _ _ _ _ (numbers, refl) (by_each (place.durable.life == 2 ^ 32 - 1) _ _ _ _ (numbers, refl) (numbers, refl)))
      (numbers, refl)

  next_alike : (e : Event) → Alike (next catalogue e other) (next catalogue e w)
  unfolding happens
  next_alike (event.Call s words) = steps_alike s (input.Call 0 words)
  next_alike (event.Deliver k) = by_both _ _ (message_at w k) _ _ (comes_alike k) (numbers, refl)
  next_alike (event.Flow count) = (numbers, refl)
  next_alike (event.Tick s) = steps_alike s input.Tick
  next_alike (event.Probe s) = steps_alike s input.Probe
  next_alike (event.Cut a b) = (numbers, refl)
  next_alike (event.Heal a b) = (numbers, refl)
  next_alike (event.Crash s) = crashes_alike s
  next_alike (event.Restart s) = restarts_alike s

pub next_same : (catalogue : Catalogue) (e : Event) (v w : WorldState) → SameButDelivered v w → SameButDelivered (next catalogue e v).world (next catalogue e w).world
next_same catalogue e v w same = subst (λ (v : WorldState). SameButDelivered (next catalogue e v).world (next catalogue e w).world) (sym same.1) (next_alike catalogue w same.0 e)

-- ---- single steps, one after the other

-- an event that is one step
abbrev pub IsSingle : Event → Type 0
IsSingle (event.Flow count) = ⊥
IsSingle e = ⊤

module _ (catalogue : Catalogue) where
  -- the world after these steps
  abbrev pub steps_to : List Event → WorldState → WorldState
  steps_to [] w = w
  steps_to (e ∷ events) w = steps_to events (next catalogue e w).world

  pub steps_more : (xs ys : List Event) (w : WorldState) → steps_to (xs ++ ys) w ≡ steps_to ys (steps_to xs w)
  steps_more [] ys w = refl
  steps_more (x ∷ xs) ys w = steps_more xs ys (next catalogue x w).world

  one_is : (number : ℕ) (e : Event) (run : Run) → IsSingle e → (one_event catalogue number e run).world ≡ (next catalogue e run.world).world
  unfolding one_event one_step
  one_is number (event.Call s words) run single = refl
  one_is number (event.Deliver k) run single = refl
  one_is number (event.Flow count) run single = absurd single
  one_is number (event.Tick s) run single = refl
  one_is number (event.Probe s) run single = refl
  one_is number (event.Cut a b) run single = refl
  one_is number (event.Heal a b) run single = refl
  one_is number (event.Crash s) run single = refl
  one_is number (event.Restart s) run single = refl

  -- a run without flows ends there
  pub run_is : (number : ℕ) (events : List Event) (run : Run) → AllByRecursion IsSingle events → (run_from catalogue number events run).world ≡ steps_to events run.world
  unfolding run_from
  run_is number [] run single = refl
  run_is number (e ∷ events) run single =
      run_is (number + 1) events (one_event catalogue number e run) single.1 ∙ ap (steps_to events) (one_is number e run single.0)

  -- in worlds that differ only in what counts as delivered they do the same
  pub steps_same : (events : List Event) (v w : WorldState) → SameButDelivered v w → SameButDelivered (steps_to events v) (steps_to events w)
  steps_same [] v w same = same
  steps_same (e ∷ events) v w same = steps_same events (next catalogue e v).world (next catalogue e w).world (next_same catalogue e v w same)
