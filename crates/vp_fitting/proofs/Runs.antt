-- What one more event adds to the schedule that is put together.
use Rattle.std.proofs.Common.{◌≡◌, ◌∙◌, ap, ℕ, ◌+◌, List, ◌∷◌, [], ◌++◌, length, refl}
use Rattle.std.specs.Prelude.{Option, None, find, option_and_then}
use Rattle.std.specs.List.{AllByRecursion}
use Rattle.std.specs.Option.{option_or}
use Rattle.std.proofs.lemmas.List.Folds.{find-append}
use Rattle.vp_model.specs.Types.{Event}
use Rattle.vp_model.specs.Types.event
use Rattle.vp_model.specs.Catalogue.{Catalogue}
use Rattle.vp_model.specs.Limits.{Limits, refused, exceeded, is_over, first_over, limit_reached}
use Rattle.vp_model.specs.World.{WorldState, Run, Moment, next, moment, start_world, start_run, one_step, one_event, run_from, run_of}
use Rattle.vp_model.proofs.RunGrows.{run_from-more}
use Rattle.vp_laws.specs.ShapeLaws.{IsEvent}
use Rattle.vp_laws.proofs.Lists.Items.{all_and_one}
use Rattle.vp_fitting.specs.Fitting.{IsSingle}
use Rattle.vp_fitting.specs.Laws.{over}

abbrev pub run_in : Catalogue → List Event → Run
run_in catalogue events = run_of (over catalogue events)

abbrev pub moment_in : Catalogue → List Event → Event → WorldState → Moment
moment_in catalogue events e w = moment (1 + length events) w e (next catalogue e w)

pub no_moments : (catalogue : Catalogue) → (run_in catalogue []).moments ≡ []
unfolding run_of run_from
no_moments catalogue = refl

module _ (limits : Limits) (catalogue : Catalogue) where
  -- the events lead to this world, one by one and within the limits
  pub record Runs (w : WorldState) (events : List Event) : Type 0 where
    pub world : (run_in catalogue events).world ≡ w
    pub singles : AllByRecursion IsSingle events
    pub calls : AllByRecursion IsEvent events
    pub within : first_over limits (run_in catalogue events).moments ≡ None
    pub cuts : w.cuts ≡ []

  single_step : (number : ℕ) (e : Event) (run : Run) → IsSingle e → one_event catalogue number e run ≡ one_step catalogue number e run
  unfolding one_event
  single_step number (event.Flow count) run single = absurd single
  single_step number e run single = refl

  stepped_once : (number : ℕ) (e : Event) (run : Run) → one_step catalogue number e run ≡ record { moments = run.moments ++ moment number run.world e (next catalogue e run.world) ∷ []; world = (next catalogue e run.world).world }
  unfolding one_step
  stepped_once number e run = refl

  run_more : (events : List Event) (e : Event) → IsSingle e → run_in catalogue (events ++ e ∷ []) ≡ one_step catalogue (1 + length events) e (run_in catalogue events)
  unfolding run_of
  run_more events e single = run_from-more catalogue 1 events e (start_run catalogue) ∙ single_step (1 + length events) e (run_from catalogue 1 events (start_run catalogue)) single

  pub begins : Runs (start_world catalogue) []
  unfolding run_of run_from start_world
  begins = record { world = refl; singles = tt; calls = tt; within = refl; cuts = refl }

  module _ (w : WorldState) (events : List Event) (h : Runs w events) (e : Event) (single : IsSingle e) where
    pub moments_more : (run_in catalogue (events ++ e ∷ [])).moments ≡ (run_in catalogue events).moments ++ moment_in catalogue events e w ∷ []
    moments_more =
        ap (λ (run : Run). run.moments) (run_more events e single ∙ stepped_once (1 + length events) e (run_in catalogue events))
        ∙ ap (λ (v : WorldState). (run_in catalogue events).moments ++ moment_in catalogue events e v ∷ []) h.world

    world_more : (run_in catalogue (events ++ e ∷ [])).world ≡ (next catalogue e w).world
    world_more =
        ap (λ (run : Run). run.world) (run_more events e single ∙ stepped_once (1 + length events) e (run_in catalogue events))
        ∙ ap (λ (v : WorldState). (next catalogue e v).world) h.world

    pub runs_more : IsEvent e → refused limits catalogue e w ≡ None → (next catalogue e w).world.cuts ≡ [] → Runs (next catalogue e w).world (events ++ e ∷ [])
    runs_more call free cuts =
        record {
          world = world_more;
          singles = all_and_one IsSingle events e h.singles single;
          calls = all_and_one IsEvent events e h.calls call;
          within =
              ap (first_over limits) moments_more
              ∙ find-append (is_over limits) (run_in catalogue events).moments (moment_in catalogue events e w ∷ [])
              ∙ ap (λ (first : Option Moment). option_or first (find (is_over limits) (moment_in catalogue events e w ∷ []))) h.within
              ∙ rw free refl;
          cuts = cuts;
        }

  pub limit_none : (events : List Event) (w : WorldState) → Runs w events → limit_reached limits (over catalogue events) ≡ None
  limit_none events w h = ap (λ (first : Option Moment). option_and_then (λ (m : Moment). exceeded limits m.after) first) h.within
