-- What a turn leaves of a node: its site has its form, and its log folds to the durable part of the site.
use Rattle.std.proofs.Common.{◌≡◌, ◌∙◌, inl, inr, ⊎_elim, ◌⊎◌, List, [], ◌∷◌, ◌++◌, refl, sym, subst, ap}
use Rattle.std.specs.declared.option.Option.{Option}
use Rattle.std.specs.declared.option.Option.TheVariants.{Some, None}
use Rattle.std.specs.Prelude.{IfSome}
use Rattle.vp_catalog.specs.Document.{IsCatalogue}
use Rattle.vp_records.specs.Records.{CanBeSaved}
use Rattle.vp_model.specs.Types.{LogRecord}
use Rattle.vp_model.specs.Catalogue.{Catalogue}
use Rattle.vp_model.specs.Durable.{apply_all}
use Rattle.vp_model.specs.Site.{SiteState}
use Rattle.vp_model.specs.Step.{durable_of}
use Rattle.vp_laws.specs.Shapes.{IsShaped}
use Rattle.vp_laws.proofs.Shapes.Log.{checkpoint_is}
use Rattle.vp_laws.proofs.Shapes.Steps.{step_forms, shaped_durable}
use Rattle.vp_laws.proofs.Table.Durable.{step-folds}
use Rattle.vp_outside.specs.Disk.{Halves, DiskState, Becomes}
use Rattle.vp_stable.specs.Halves.{AreSettled}
use Rattle.vp_stable.specs.Moments.{LeavesOnly}
use Rattle.vp_stable.proofs.Times.{elapses_as}
use Rattle.vp_runs.specs.declared.arrival.Arrival.{Arrival}
use Rattle.vp_runs.specs.declared.arrival.Arrival.TheVariants.{Bad, Stray, Stops, Gives}
use Rattle.vp_runs.specs.Arrivals.{IsArrival}
use Rattle.vp_runs.specs.Keeping.{durable_in, kept_with}
use Rattle.vp_runs.specs.Turns.{Turn, turn_on}
use Rattle.vp_runs.proofs.Checkpoints.{batch_folds, steps_fold}
use Rattle.vp_runs.proofs.Shaped.{turn_shaped}
use Rattle.vp_node.specs.Keeping.{KeepsAt, MayKeep, MayKeepAt}
use Rattle.vp_node.specs.Nodes.{NodeValue, Keeps, MaySave}
use Rattle.vp_node.proofs.Kept.{may_keep_none}

-- ---- the site

-- what a turn leaves of its site's number, and what its records do
record Follows (site : SiteState) (turn : Turn) : Type 0 where
  same_id : turn.site.id ≡ site.id
  brings : apply_all turn.batch (durable_of site) ≡ durable_of turn.site

follows : (catalogue : Catalogue) (site : SiteState) (what : Arrival) → IsCatalogue catalogue → IsShaped catalogue site → IsArrival what → Follows site (turn_on catalogue site what)
unfolding turn_on
follows catalogue site (Bad at) k shaped is = record { same_id = refl; brings = refl }
follows catalogue site Stray k shaped is = record { same_id = refl; brings = refl }
follows catalogue site Stops k shaped is = record { same_id = refl; brings = refl }
follows catalogue site (Gives given) k shaped is = record { same_id = (step_forms catalogue site given k shaped is).same; brings = step-folds catalogue site given }

module _ (catalogue : Catalogue) (site : SiteState) (what : Arrival) (k : IsCatalogue catalogue) (shaped : IsShaped catalogue site) (is : IsArrival what) where
  abbrev pub turn : Turn
  turn = turn_on catalogue site what

  pub same_id : turn.site.id ≡ site.id
  same_id = (follows catalogue site what k shaped is).same_id

  pub brings : apply_all turn.batch (durable_of site) ≡ durable_of turn.site
  brings = (follows catalogue site what k shaped is).brings

  pub can_be_saved : CanBeSaved (durable_of turn.site)
  can_be_saved = checkpoint_is catalogue turn.site.id (durable_of turn.site) k (shaped_durable catalogue turn.site (turn_shaped catalogue site what k shaped is).site_is)

-- ---- the log

pub settled : (catalogue : Catalogue) (node : NodeValue) (images : Halves → Type 0) (o : Option Halves) → IfSome o (λ log. Keeps catalogue node log images) → IfSome o (λ log. AreSettled node.at log images)
settled catalogue node images (Some log) keeps = record { synced = keeps.synced; batches = keeps.batches; stands = keeps.stands }
settled catalogue node images None keeps = tt

module _ (catalogue : Catalogue) (node : NodeValue) (turn : Turn) (brings : apply_all turn.batch (durable_of node.site) ≡ durable_of turn.site) where
  -- what is left of the batches folds to the durable part before the turn or after it
  left_folds : (batches after : List (List LogRecord)) → durable_in catalogue node.site.id batches ≡ durable_of node.site → MayKeep (durable_of turn.site) turn.batch batches after
      → (durable_in catalogue node.site.id after ≡ durable_of node.site) ⊎ (durable_in catalogue node.site.id after ≡ durable_of turn.site)
  left_folds batches after folds may = by turn.batch (subst (λ e. apply_all turn.batch e ≡ durable_of turn.site) (sym folds) brings) may
    where
      at_once : (others : List (List LogRecord)) → after ≡ others → durable_in catalogue node.site.id others ≡ durable_of turn.site → durable_in catalogue node.site.id after ≡ durable_of turn.site
      at_once others is h = ap (durable_in catalogue node.site.id) is ∙ h

      by : (records : List LogRecord) → apply_all records (durable_in catalogue node.site.id batches) ≡ durable_of turn.site → MayKeep (durable_of turn.site) records batches after
          → (durable_in catalogue node.site.id after ≡ durable_of node.site) ⊎ (durable_in catalogue node.site.id after ≡ durable_of turn.site)
      by [] h is = inl (ap (durable_in catalogue node.site.id) is ∙ folds)
      by (r ∷ records) h is =
          ⊎_elim (λ same. inl (ap (durable_in catalogue node.site.id) same ∙ folds))
          (λ more. inr (⊎_elim (λ gained. at_once (batches ++ (r ∷ records) ∷ []) gained (batch_folds catalogue node.site.id (r ∷ records) batches ∙ h))
          (λ kept. at_once (kept_with (durable_of turn.site) (r ∷ records) batches) kept (steps_fold catalogue node.site.id (durable_of turn.site) (r ∷ records) batches h)) more)) is

  pub may_save : (log image : Halves) (images : Halves → Type 0) → Keeps catalogue node log images → MayKeepAt (durable_of turn.site) turn.batch node.at log image → MaySave catalogue node turn log image
  may_save log image images keeps may =
      let left = may keeps.batches keeps.stands in
      record { batches = may; folds = (left.0, left.1, left_folds keeps.batches left.0 keeps.folds left.2) }

  pub saves_none : (images : Halves → Type 0) (o : Option Halves) → IfSome o (λ log. Keeps catalogue node log images) → Becomes (MaySave catalogue node turn) o o
  saves_none images (Some log) keeps = may_save log log images keeps (may_keep_none (durable_of turn.site) turn.batch node.at log)
  saves_none images None keeps = tt

  pub saves_as : (images : Halves → Type 0) (o p : Option Halves) → IfSome o (λ log. Keeps catalogue node log images) → Becomes (MayKeepAt (durable_of turn.site) turn.batch node.at) o p → Becomes (MaySave catalogue node turn) o p
  saves_as images (Some log) (Some image) keeps may = may_save log image images keeps may
  saves_as images (Some log) None keeps may = may
  saves_as images None (Some image) keeps may = may
  saves_as images None None keeps may = tt

  pub leaves_saves : (images : Halves → Type 0) (old new : DiskState) (o : Option Halves) → IfSome o (λ log. Keeps catalogue node log images)
      → IfSome o (λ log. LeavesOnly old new (MayKeepAt (durable_of turn.site) turn.batch node.at log)) → IfSome o (λ log. LeavesOnly old new (MaySave catalogue node turn log))
  leaves_saves images old new (Some log) keeps leaves = record {
    each = λ image left. may_save log image images keeps (leaves.each image left);
    time = elapses_as old.asked old new (MayKeepAt (durable_of turn.site) turn.batch node.at log) (MaySave catalogue node turn log) leaves.time (λ image may. may_save log image images keeps may);
  }
  leaves_saves images old new None keeps leaves = tt

  -- what the log keeps after the turn
  pub keeps_on : (after : NodeValue) → after.site ≡ turn.site → turn.site.id ≡ node.site.id → (images left : Halves → Type 0) (o p : Option Halves) → IfSome o (λ log. Keeps catalogue node log images)
      → Becomes (KeepsAt (durable_of turn.site) turn.batch node.at after.at) o p → IfSome p (λ log. AreSettled after.at log left) → IfSome p (λ log. Keeps catalogue after log left)
  keeps_on after is same images left (Some log) (Some new) keeps kept settled =
      let folds = steps_fold catalogue node.site.id (durable_of turn.site) turn.batch keeps.batches (subst (λ e. apply_all turn.batch e ≡ durable_of turn.site) (sym keeps.folds) brings) in
      record {
        synced = settled.synced;
        batches = kept_with (durable_of turn.site) turn.batch keeps.batches;
        stands = kept keeps.batches keeps.stands;
        folds = subst (λ (s : SiteState). durable_in catalogue s.id (kept_with (durable_of turn.site) turn.batch keeps.batches) ≡ durable_of s) (sym is)
            (subst (λ id. durable_in catalogue id (kept_with (durable_of turn.site) turn.batch keeps.batches) ≡ durable_of turn.site) (sym same) folds);
      }
  keeps_on after is same images left (Some log) None keeps kept settled = absurd kept
  keeps_on after is same images left None (Some new) keeps kept settled = absurd kept
  keeps_on after is same images left None None keeps kept settled = tt
