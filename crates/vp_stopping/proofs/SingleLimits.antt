-- The limit that single steps exceed.
use Rattle.std.proofs.Common.{◌≡◌, ◌∙◌, ap, sym, ℕ, ◌+◌, cond, List, [], ◌∷◌, ◌++◌, refl}
use Rattle.std.specs.Prelude.{Option, Some, None, is_some, find, option_and_then}
use Rattle.std.specs.Option.{option_or}
use Rattle.std.specs.List.{AllByRecursion}
use Rattle.vp_model.specs.Types.{Event, Counted}
use Rattle.vp_model.specs.Types.event
use Rattle.vp_model.specs.Catalogue.{Catalogue}
use Rattle.vp_model.specs.World.{WorldState, Run, Moment, Schedule, next, moment, one_step, one_event, run_from, run_of, start_run, start_world}
use Rattle.vp_model.specs.Limits.{world_limits, exceeded, is_over, limit_in, limit_reached}
use Rattle.vp_runs.proofs.Through.{Follow}
use Rattle.vp_runs.specs.Stopped.{singles}
use Rattle.vp_runs.specs.StopLaws.{SameButDelivered}
use Rattle.vp_runs.proofs.Delivered.{IsSingle, steps_to, next_same}

-- ---- of moments

pub or_more : (a b c : Option Counted) → option_or (option_or a b) c ≡ option_or a (option_or b c)
or_more None b c = refl
or_more (Some x) b c = refl

pub or_none : (a : Option Counted) → option_or a None ≡ a
or_none None = refl
or_none (Some x) = refl

abbrev over : Moment → Option Counted
over m = exceeded world_limits m.after

limit_first : (m : Moment) (ms : List Moment) → limit_in world_limits (m ∷ ms) ≡ option_or (over m) (limit_in world_limits ms)
limit_first m ms = go (over m) refl
  where
    go : (o : Option Counted) → over m ≡ o → option_and_then over (cond (is_some o) (Some m) (find (is_over world_limits) ms)) ≡ option_or o (limit_in world_limits ms)
    go None e = refl
    go (Some x) e = e

pub limit_append : (xs ys : List Moment) → limit_in world_limits (xs ++ ys) ≡ option_or (limit_in world_limits xs) (limit_in world_limits ys)
limit_append [] ys = refl
limit_append (m ∷ xs) ys =
    limit_first m (xs ++ ys) ∙ ap (option_or (over m)) (limit_append xs ys) ∙ sym (or_more (over m) (limit_in world_limits xs) (limit_in world_limits ys))
    ∙ ap (λ o. option_or o (limit_in world_limits ys)) (sym (limit_first m xs))

pub limit_one : (m : Moment) → limit_in world_limits (m ∷ []) ≡ over m
limit_one m = limit_first m [] ∙ or_none (over m)

-- ---- of single steps

module _ (catalogue : Catalogue) where
  -- the limit of the first of them that exceeds one
  abbrev pub limit_at : List Event → WorldState → Option Counted
  limit_at [] w = None
  limit_at (e ∷ events) w = option_or (exceeded world_limits (next catalogue e w).world) (limit_at events (next catalogue e w).world)

  pub limit_more : (xs ys : List Event) (w : WorldState) → limit_at (xs ++ ys) w ≡ option_or (limit_at xs w) (limit_at ys (steps_to catalogue xs w))
  limit_more [] ys w = refl
  limit_more (e ∷ xs) ys w =
      let v = (next catalogue e w).world in
      ap (option_or (exceeded world_limits v)) (limit_more xs ys v)
      ∙ sym (or_more (exceeded world_limits v) (limit_at xs v) (limit_at ys (steps_to catalogue xs v)))

  same_exceeded : (v w : WorldState) → SameButDelivered v w → exceeded world_limits v ≡ exceeded world_limits w
  same_exceeded v w same = ap (exceeded world_limits) same.1

  pub limit_same : (events : List Event) (v w : WorldState) → SameButDelivered v w → limit_at events v ≡ limit_at events w
  limit_same [] v w same = refl
  limit_same (e ∷ events) v w same =
      let then_ = next_same catalogue e v w same in
      ap (λ o. option_or o (limit_at events (next catalogue e v).world)) (same_exceeded (next catalogue e v).world (next catalogue e w).world then_)
      ∙ ap (option_or (exceeded world_limits (next catalogue e w).world)) (limit_same events (next catalogue e v).world (next catalogue e w).world then_)

  -- moments that follow each other
  pub limit_followed : (ms : List Moment) (w v : WorldState) → Follow catalogue w ms v → limit_in world_limits ms ≡ limit_at (singles ms) w
  limit_followed [] w v h = refl
  limit_followed (m ∷ ms) w v h =
      let after : m.after ≡ (next catalogue m.line.event w).world = ap (λ (n : Moment). n.after) h.0 in
      limit_first m ms ∙ ap (option_or (over m)) (limit_followed ms m.after v h.1)
      ∙ ap (λ w. option_or (exceeded world_limits w) (limit_at (singles ms) w)) after

  -- a run without flows
  one_event_is : (n : ℕ) (e : Event) (run : Run) → IsSingle e → one_event catalogue n e run ≡ one_step catalogue n e run
  unfolding one_event
  one_event_is n (event.Call s words) run single = refl
  one_event_is n (event.Deliver k) run single = refl
  one_event_is n (event.Flow count) run single = absurd single
  one_event_is n (event.Tick s) run single = refl
  one_event_is n (event.Probe s) run single = refl
  one_event_is n (event.Cut a b) run single = refl
  one_event_is n (event.Heal a b) run single = refl
  one_event_is n (event.Crash s) run single = refl
  one_event_is n (event.Restart s) run single = refl

  step_limit : (n : ℕ) (e : Event) (run : Run) → limit_in world_limits (one_step catalogue n e run).moments ≡ option_or (limit_in world_limits run.moments) (exceeded world_limits (next catalogue e run.world).world)
  unfolding one_step
  step_limit n e run =
      let m = moment n run.world e (next catalogue e run.world) in
      limit_append run.moments (m ∷ []) ∙ ap (option_or (limit_in world_limits run.moments)) (limit_one m)

  step_world : (n : ℕ) (e : Event) (run : Run) → (one_step catalogue n e run).world ≡ (next catalogue e run.world).world
  unfolding one_step
  step_world n e run = refl

  pub limit_run : (n : ℕ) (events : List Event) (run : Run) → AllByRecursion IsSingle events → limit_in world_limits (run_from catalogue n events run).moments ≡ option_or (limit_in world_limits run.moments) (limit_at events run.world)
  unfolding run_from
  limit_run n [] run single = sym (or_none (limit_in world_limits run.moments))
  limit_run n (e ∷ events) run single =
      let v = (next catalogue e run.world).world in
      limit_run (n + 1) events (one_event catalogue n e run) single.1
      ∙ ap (λ (r : Run). option_or (limit_in world_limits r.moments) (limit_at events r.world)) (one_event_is n e run single.0)
      ∙ ap (λ o. option_or o (limit_at events (one_step catalogue n e run).world)) (step_limit n e run)
      ∙ ap (λ w. option_or (option_or (limit_in world_limits run.moments) (exceeded world_limits v)) (limit_at events w)) (step_world n e run)
      ∙ or_more (limit_in world_limits run.moments) (exceeded world_limits v) (limit_at events v)

-- a schedule without flows
pub limit_of_singles : (s : Schedule) → AllByRecursion IsSingle s.events → limit_reached world_limits s ≡ limit_at s.catalogue s.events (start_world s.catalogue)
unfolding run_of
limit_of_singles s single = limit_run s.catalogue 1 s.events (start_run s.catalogue) single
