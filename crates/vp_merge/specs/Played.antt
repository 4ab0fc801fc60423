-- A schedule as far as it is put together, and the world that it leads to.
use Rattle.std.specs.Prelude.{◌≡◌, ℕ, ◌≤◌, List, [], ◌∷◌, ◌++◌, length}
use Rattle.std.specs.List.{AllByRecursion}
use Rattle.vp_model.specs.Types.{Event}
use Rattle.vp_model.specs.Catalogue.{Catalogue, sites_of}
use Rattle.vp_model.specs.World.{WorldState, run_of, next}
use Rattle.vp_catalog.specs.Document.{IsCatalogue}
use Rattle.vp_schedule.specs.Events.{IsEvent}
use Rattle.vp_fitting.specs.Fitting.{IsSingle}
use Rattle.vp_fitting.specs.Laws.{over}
use Rattle.vp_fitting.specs.Merged.{Done}
use Rattle.vp_merge.specs.declared.played.Played.{Played}
use Rattle.vp_merge.specs.declared.played.PlayedStep.{PlayedStep}

-- an event of one site, over these sites
abbrev pub IsPut : List ℕ → Event → Type 0
IsPut sites e = IsSingle e × IsEvent sites e

-- The events lead from the start to this world, and exceed no limit.
pub record IsReached (catalogue : Catalogue) (w : WorldState) (events : List Event) : Type 0 where
  pub catalogue_is : IsCatalogue catalogue
  pub world_is : (run_of (over catalogue events)).world ≡ w
  pub events_are : AllByRecursion (IsPut (sites_of catalogue)) events
  pub counted : length events ≡ w.steps
  pub few : w.steps ≤ 100000
  pub few_sent : length w.sent ≤ 2000000

abbrev pub IsPlayed : Played → Type 0
IsPlayed p = IsReached p.world.catalogue p.world.world p.events

-- what was done so far, and these frames
abbrev pub done_at : Played → List (List ℕ) → Done
done_at p made = record { world = p.world.world; events = p.events; made = made }

-- The event was done.
pub record Goes (e : Event) (old : Played) (r : PlayedStep) : Type 0 where
  pub world : r.step.0 ≡ record { catalogue = old.world.catalogue; world = (next old.world.catalogue e old.world.world).world }
  pub shown : r.step.1 ≡ (next old.world.catalogue e old.world.world).shown
  pub events : r.events ≡ old.events ++ e ∷ []
  pub reached : IsReached r.step.0.catalogue r.step.0.world r.events
