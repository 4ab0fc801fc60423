-- What each step of a run keeps holds of the whole run.
use Rattle.std.proofs.Common.{ℕ, zero, suc, ◌+◌, List, [], ◌∷◌}
use Rattle.std.specs.Prelude.{Option, Some, None}
use Rattle.vp_model.specs.Types.{Event}
use Rattle.vp_model.specs.Types.event
use Rattle.vp_model.specs.Words.{for_some}
use Rattle.vp_model.specs.Catalogue.{Catalogue}
use Rattle.vp_model.specs.World.{Run, flow, flowing, one_event, one_step, run_from}

module _ (catalogue : Catalogue) (Is : Run → Type 0) (one : (n : ℕ) (e : Event) (run : Run) → Is run → Is (one_step catalogue n e run)) where
  pub flow_keeps : (n count : ℕ) (run : Run) → Is run → Is (flow catalogue n count run)
  unfolding flow
  flow_keeps n zero run is = is
  flow_keeps n (suc count) run is = go (flowing run.world) (λ k. flow_keeps n count (one_step catalogue n (event.Deliver k) run) (one n (event.Deliver k) run is))
    where
      go : (o : Option ℕ) → ((k : ℕ) → Is (flow catalogue n count (one_step catalogue n (event.Deliver k) run))) → Is (for_some o (λ k run. flow catalogue n count (one_step catalogue n (event.Deliver k) run)) run)
      go None rest = is
      go (Some k) rest = rest k

  pub event_keeps : (n : ℕ) (e : Event) (run : Run) → Is run → Is (one_event catalogue n e run)
  unfolding one_event
  event_keeps n (event.Flow count) run is = flow_keeps n count run is
  event_keeps n e run is = one n e run is

  pub run_keeps : (n : ℕ) (events : List Event) (run : Run) → Is run → Is (run_from catalogue n events run)
  unfolding run_from
  run_keeps n [] run is = is
  run_keeps n (e ∷ events) run is = run_keeps (n + 1) events (one_event catalogue n e run) (event_keeps n e run is)
