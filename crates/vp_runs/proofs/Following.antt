-- The moments of a run are single steps that follow each other, so the schedule of them ends where the run does.
use Rattle.std.proofs.Common.{◌≡◌, ◌∙◌, ap, sym, subst, ℕ, zero, suc, ◌+◌, List, [], ◌∷◌, refl, take}
use Rattle.std.specs.Prelude.{Option, Some, None, slice_get}
use Rattle.std.specs.List.{AllByRecursion}
use Rattle.vp_text.proofs.Items.{all_push}
use Rattle.vp_model.specs.Types.{Event}
use Rattle.vp_model.specs.Types.event
use Rattle.vp_model.specs.Words.{for_some}
use Rattle.vp_model.specs.Catalogue.{Catalogue}
use Rattle.vp_model.specs.World.{WorldState, Run, Moment, Schedule, next, moment, flowing, start_world, start_run, one_step, flow, one_event, run_from, run_of}
use Rattle.vp_runs.proofs.Through.{Follow, one_more}
use Rattle.vp_runs.specs.Stopped.{run_in, singles}
use Rattle.vp_runs.proofs.Delivered.{IsSingle, steps_to}

-- each moment is a single step
abbrev pub AreSingle : List Moment → Type 0
AreSingle moments = AllByRecursion (λ (m : Moment). IsSingle m.line.event) moments

-- the run's moments are single steps that follow each other from this world on
pub record Goes (catalogue : Catalogue) (w : WorldState) (run : Run) : Type 0 where
  pub follow : Follow catalogue w run.moments run.world
  pub single : AreSingle run.moments

module _ (catalogue : Catalogue) where
  step_goes : (w : WorldState) (number : ℕ) (e : Event) (run : Run) → IsSingle e → Goes catalogue w run → Goes catalogue w (one_step catalogue number e run)
  unfolding one_step
  step_goes w number e run single h = record {
    follow = one_more catalogue number e run.moments w run.world h.follow;
    single = all_push (λ (m : Moment). IsSingle m.line.event) run.moments (moment number run.world e (next catalogue e run.world)) h.single single;
  }

  flow_goes : (w : WorldState) (number count : ℕ) (run : Run) → Goes catalogue w run → Goes catalogue w (flow catalogue number count run)
  unfolding flow
  flow_goes w number zero run h = h
  flow_goes w number (suc count) run h = go (flowing run.world) (λ k. flow_goes w number count (one_step catalogue number (event.Deliver k) run) (step_goes w number (event.Deliver k) run tt h))
    where
      go : (o : Option ℕ) → ((k : ℕ) → Goes catalogue w (flow catalogue number count (one_step catalogue number (event.Deliver k) run))) → Goes catalogue w (for_some o (λ k run. flow catalogue number count (one_step catalogue number (event.Deliver k) run)) run)
      go None rest = h
      go (Some k) rest = rest k

  event_goes : (w : WorldState) (number : ℕ) (e : Event) (run : Run) → Goes catalogue w run → Goes catalogue w (one_event catalogue number e run)
  unfolding one_event
  event_goes w number (event.Flow count) run h = flow_goes w number count run h
  event_goes w number (event.Call s words) run h = step_goes w number (event.Call s words) run tt h
  event_goes w number (event.Deliver k) run h = step_goes w number (event.Deliver k) run tt h
  event_goes w number (event.Tick s) run h = step_goes w number (event.Tick s) run tt h
  event_goes w number (event.Probe s) run h = step_goes w number (event.Probe s) run tt h
  event_goes w number (event.Cut a b) run h = step_goes w number (event.Cut a b) run tt h
  event_goes w number (event.Heal a b) run h = step_goes w number (event.Heal a b) run tt h
  event_goes w number (event.Crash s) run h = step_goes w number (event.Crash s) run tt h
  event_goes w number (event.Restart s) run h = step_goes w number (event.Restart s) run tt h

  run_goes : (w : WorldState) (number : ℕ) (events : List Event) (run : Run) → Goes catalogue w run → Goes catalogue w (run_from catalogue number events run)
  unfolding run_from
  run_goes w number [] run h = h
  run_goes w number (e ∷ events) run h = run_goes w (number + 1) events (one_event catalogue number e run) (event_goes w number e run h)

  -- a run that begins in this world
  pub after_goes : (number : ℕ) (events : List Event) (w : WorldState) → Goes catalogue w (run_from catalogue number events (run_in w))
  after_goes number events w = run_goes w number events (run_in w) (record { follow = refl; single = tt })

  -- moments that follow each other lead to where their events do
  pub followed : (moments : List Moment) (w v : WorldState) → Follow catalogue w moments v → v ≡ steps_to catalogue (singles moments) w
  followed [] w v h = sym h
  followed (m ∷ moments) w v h =
      followed moments m.after v h.1 ∙ ap (steps_to catalogue (singles moments)) (ap (λ (n : Moment). n.after) h.0)

  -- the world before a moment is the one that the moments before it lead to
  pub led_to : (step : ℕ) (moments : List Moment) (m : Moment) (w v : WorldState) → Follow catalogue w moments v → slice_get moments step ≡ Some m → m.before ≡ steps_to catalogue (singles (take step moments)) w
  led_to step [] m w v h at = cc
  led_to zero (n ∷ moments) m w v h at = let same : n ≡ m = cc in ap (λ (n : Moment). n.before) (sym same ∙ h.0)
  led_to (suc step) (n ∷ moments) m w v h at =
      led_to step moments m n.after v h.1 at ∙ ap (steps_to catalogue (singles (take step moments))) (ap (λ (n : Moment). n.after) h.0)

-- the run of a schedule
pub schedule_goes : (s : Schedule) → Goes s.catalogue (start_world s.catalogue) (run_of s)
unfolding run_of
schedule_goes s = run_goes s.catalogue (start_world s.catalogue) 1 s.events (start_run s.catalogue) (record { follow = refl; single = tt })

pub single_at : (step : ℕ) (moments : List Moment) (m : Moment) → AreSingle moments → slice_get moments step ≡ Some m → IsSingle m.line.event
single_at step [] m h at = cc
single_at zero (n ∷ moments) m h at = let same : n ≡ m = cc in subst (λ (n : Moment). IsSingle n.line.event) same h.0
single_at (suc step) (n ∷ moments) m h at = single_at step moments m h.1 at

pub all_taken : (P : Moment → Type 0) (step : ℕ) (moments : List Moment) → AllByRecursion P moments → AllByRecursion P (take step moments)
all_taken P zero moments h = tt
all_taken P (suc step) [] h = tt
all_taken P (suc step) (m ∷ moments) h = (h.0, all_taken P step moments h.1)

pub all_events : (moments : List Moment) → AreSingle moments → AllByRecursion IsSingle (singles moments)
all_events [] h = tt
all_events (m ∷ moments) h = (h.0, all_events moments h.1)
