-- Which events the moments of a schedule have.
use Rattle.std.proofs.Common.{ℕ, ◌+◌, zero, suc, List, ◌∷◌, [], ⊎_elim}
use Rattle.std.specs.List.{AllByRecursion}
use Rattle.vp_model.specs.Types.{Event}
use Rattle.vp_model.specs.Types.event
use Rattle.vp_model.specs.Catalogue.{Catalogue}
use Rattle.vp_model.specs.World.{Run, Moment, flowing, one_step, flow, one_event, run_from, run_of, moments_of}
use Rattle.vp_laws.specs.ShapeLaws.{IsEvent}
use Rattle.vp_laws.proofs.Lists.Members.{Has, has_none, has_cases, has_one_is}
use Rattle.vp_laws.proofs.Lists.Keeps.{for_some-keeps}

module _ (catalogue : Catalogue) where
  -- each moment has an event of the schedule, or a delivery of a flow
  abbrev AreEvents : Run → Type 0
  AreEvents run = (m : Moment) → Has run.moments m → IsEvent m.line.event

  one_step_so : (number : ℕ) (e : Event) (run : Run) → IsEvent e → AreEvents run → AreEvents (one_step catalogue number e run)
  unfolding one_step
  one_step_so number e run i h = λ m q. ⊎_elim (λ old. h m old) (λ new. let same = has_one_is _ m new in rw (← same) i) (has_cases run.moments _ m q)

  flow_so : (number count : ℕ) (run : Run) → AreEvents run → AreEvents (flow catalogue number count run)
  unfolding flow
  flow_so number zero run h = h
  flow_so number (suc count) run h =
      for_some-keeps AreEvents
      (λ k run. flow catalogue number count (one_step catalogue number (event.Deliver k) run))
      (λ k run h. flow_so number count (one_step catalogue number (event.Deliver k) run) (one_step_so number (event.Deliver k) run tt h))
      (flowing run.world) run h

  one_event_so : (number : ℕ) (e : Event) (run : Run) → IsEvent e → AreEvents run → AreEvents (one_event catalogue number e run)
  unfolding one_event
  one_event_so number (event.Flow count) run i h = flow_so number count run h
  one_event_so number e run i h = one_step_so number e run i h

  run_from_so : (number : ℕ) (events : List Event) (run : Run) → AllByRecursion IsEvent events → AreEvents run → AreEvents (run_from catalogue number events run)
  unfolding run_from
  run_from_so number [] run i h = h
  run_from_so number (e ∷ events) run i h = run_from_so (number + 1) events (one_event catalogue number e run) i.1 (one_event_so number e run i.0 h)

  pub events_are : (events : List Event) → AllByRecursion IsEvent events → (m : Moment) → Has (moments_of (record { catalogue = catalogue; events = events })) m → IsEvent m.line.event
  unfolding run_of
  events_are events i = run_from_so 1 events _ i (λ m h. absurd (has_none m h))
