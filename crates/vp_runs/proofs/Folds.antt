-- What a schedule leaves in a log folds to the durable part of the site.
use Rattle.std.proofs.Common.{◌≡◌, ◌∙◌, ap, ℕ, ◌+◌, List, ◌∷◌, [], refl}
use Rattle.vp_model.specs.Types.{LogRecord, Event}
use Rattle.vp_model.specs.Catalogue.{Catalogue}
use Rattle.vp_model.specs.Durable.{DurableState, apply, apply_all}
use Rattle.vp_model.specs.Step.{step, start_record}
use Rattle.vp_model.specs.World.{Place, WorldState, start_place}
use Rattle.vp_runs.specs.Keeping.{durable_in}
use Rattle.vp_runs.proofs.Checkpoints.{batch_folds, steps_fold}
use Rattle.vp_runs.specs.Kept.{with_life, kept}
use Rattle.vp_runs.specs.LogLaws.{LogsKeepPlaces}
use Rattle.vp_runs.proofs.Happened.{Happened}
use Rattle.vp_runs.proofs.Through.{through_schedule}

module _ (catalogue : Catalogue) where
  pub folds_first : (id : ℕ) → durable_in catalogue id (with_life 1 []) ≡ (start_place catalogue id).durable
  folds_first id = refl

  life_folds : (id : ℕ) (d : DurableState) (batches : List (List LogRecord)) → durable_in catalogue id batches ≡ d → durable_in catalogue id (with_life (d.life + 1) batches) ≡ apply (start_record d) d
  life_folds id d batches h = batch_folds catalogue id (start_record d ∷ []) batches ∙ ap (apply (start_record d)) h

  pub folds_on : (id : ℕ) (e : Event) (w : WorldState) (old new : Place) (before after : List (List LogRecord)) → Happened catalogue id e w old new before after → durable_in catalogue id before ≡ old.durable
      → durable_in catalogue id after ≡ new.durable
  folds_on id e w old new before after (Happened.stays p q) h = rw (p, q) h
  folds_on id e w old new before after (Happened.steps x given g up p q) h = rw q (steps_fold catalogue id new.durable (step catalogue x given).effects.records before (rw p (ap (apply_all (step catalogue x given).effects.records) h)))
  folds_on id e w old new before after (Happened.crashes p q) h = rw (p, q) h
  folds_on id e w old new before after (Happened.restarts down p q) h = rw (p, q) (life_folds id old.durable before h)

pub logs_keep_places : LogsKeepPlaces
unfolding kept
logs_keep_places s id place at =
    through_schedule s id (λ batches p. durable_in s.catalogue id batches ≡ p.durable)
    (folds_first s.catalogue id)
    (λ m has old new before after there h. folds_on s.catalogue id m.line.event m.before old new before after h)
    place at
