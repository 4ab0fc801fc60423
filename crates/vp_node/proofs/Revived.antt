-- What a start leaves of a log, and what starts.
use Rattle.std.proofs.Common.{◌≡◌, inl, inr, ⊎_elim, ◌⊎◌, ℕ, ◌-◌, ◌<◌, ◌^◌, true, List, [], ◌∷◌, refl, sym, subst, arith}
use Rattle.std.specs.List.{AllByRecursion}
use Rattle.std.specs.declared.option.Option.{Option}
use Rattle.std.specs.declared.option.Option.TheVariants.{Some, None}
use Rattle.std.specs.Prelude.{IfSome}
use Rattle.vp_catalog.specs.Document.{IsCatalogue}
use Rattle.vp_records.specs.Batches.{IsBatch}
use Rattle.vp_model.specs.Types.{LogRecord}
use Rattle.vp_model.specs.Words.{has}
use Rattle.vp_model.specs.Catalogue.{Catalogue, sites_of}
use Rattle.vp_model.specs.Site.{SiteState}
use Rattle.vp_model.specs.Step.{start, start_record, durable_of}
use Rattle.vp_laws.specs.Shapes.{IsShaped}
use Rattle.vp_outside.specs.Disk.{Halves, DiskState, Becomes, Elapses}
use Rattle.vp_stable.specs.Halves.{Standing, StandsAt, HaveBatches, AreSettled, ReadAlike, GainsAt, MayGainAt, HalvesAreOneLog, BadHalvesHaveNoBatches}
use Rattle.vp_stable.specs.Moments.{LeavesOnly}
use Rattle.vp_stable.proofs.Times.{elapses_then, leaves_only}
use Rattle.vp_runs.specs.Keeping.{durable_in}
use Rattle.vp_runs.specs.Runs.{start_node, node_run}
use Rattle.vp_runs.proofs.Runs.{runs_keep}
use Rattle.vp_runs.proofs.Shaped.{runs_are_shaped}
use Rattle.vp_node.specs.Nodes.{HasLifeLeft, Keeps, MayStart}
use Rattle.vp_node.proofs.Kept.{has as have}

module _ (catalogue : Catalogue) (id : ℕ) where
  -- ---- the log

  pub may_start_alike : (old new : Halves) → ReadAlike old new → MayStart catalogue id old new
  may_start_alike old new alike = record { batches = λ batches h. inl (alike.batches batches h); faults = alike.faults }

  module _ (one : HalvesAreOneLog) (none : BadHalvesHaveNoBatches) (at : Standing) (batches : List (List LogRecord)) (lives : HasLifeLeft catalogue id batches) where
    abbrev pub begun : List LogRecord
    begun = start_record (durable_in catalogue id batches) ∷ []

    pub may_start_then : (a b c : Halves) → ReadAlike a b → StandsAt at batches b → MayGainAt begun at b c → MayStart catalogue id a c
    may_start_then a b c alike stands may = record {
      batches = λ others h.
          subst (λ bs. HaveBatches bs c ⊎ (HasLifeLeft catalogue id bs × HaveBatches (start_node catalogue id bs).batches c)) (one batches others b (have stands) (alike.batches others h))
          (⊎_elim (λ same. inl same) (λ more. inr (lives, more)) (may batches stands));
      faults = λ half place bad. absurd (none half place batches b (alike.faults half place bad) (have stands));
    }

    pub starts_then : (o p q : Option Halves) → Becomes ReadAlike o p → IfSome p (StandsAt at batches) → Becomes (MayGainAt begun at) p q → Becomes (MayStart catalogue id) o q
    starts_then (Some a) (Some b) (Some c) alike stands may = may_start_then a b c alike stands may
    starts_then (Some a) (Some b) None alike stands may = may
    starts_then (Some a) None q alike stands may = absurd alike
    starts_then None (Some b) q alike stands may = absurd alike
    starts_then None None (Some c) alike stands may = may
    starts_then None None None alike stands may = tt

    -- a crash before the append leaves what a recovery may leave; a later one leaves the batches, with or without the start
    pub leaves_start_then : (old mid new : DiskState) → mid.asked ≡ old.asked → (before : Halves → Type 0) → (o p : Option Halves) → Becomes ReadAlike o p → IfSome p (StandsAt at batches)
        → IfSome o (λ log. LeavesOnly old mid (λ image. before image ⊎ ReadAlike log image)) → IfSome p (λ log. LeavesOnly mid new (MayGainAt begun at log))
        → IfSome o (λ log. LeavesOnly old new (λ image. before image ⊎ MayStart catalogue id log image))
    leaves_start_then old mid new name before (Some a) (Some b) alike stands first second =
        let onward : Elapses old.asked mid new (MayGainAt begun at b) = subst (λ log. Elapses log mid new (MayGainAt begun at b)) name second.time in
        let early : (image : Halves) → before image ⊎ ReadAlike a image → before image ⊎ MayStart catalogue id a image = λ image left. ⊎_elim (λ was. inl was) (λ same. inr (may_start_alike a image same)) left in
        let late : (image : Halves) → MayGainAt begun at b image → before image ⊎ MayStart catalogue id a image = λ image may. inr (may_start_then a b image alike stands may) in
        let time = elapses_then old.asked old mid new (λ image. before image ⊎ ReadAlike a image) (MayGainAt begun at b) (λ image. before image ⊎ MayStart catalogue id a image) first.time onward early late in
        leaves_only old new (λ image. before image ⊎ MayStart catalogue id a image) time (λ image left. early image (first.each image (first.time.keeps old.moment image (omega arith) left)))
    leaves_start_then old mid new name before (Some a) None alike stands first second = absurd alike
    leaves_start_then old mid new name before None (Some b) alike stands first second = tt
    leaves_start_then old mid new name before None None alike stands first second = tt

  -- the log has the start after its batches, and is otherwise as it was
  pub stands_begun : (at to : Standing) (batches : List (List LogRecord)) → (o p q : Option Halves) → Becomes ReadAlike o p → IfSome p (StandsAt at batches)
      → Becomes (GainsAt (start_record (durable_in catalogue id batches) ∷ []) at to) p q → Becomes (λ before log. StandsAt to (start_node catalogue id batches).batches log) o q
  stands_begun at to batches (Some a) (Some b) (Some c) alike stands gains = gains batches stands
  stands_begun at to batches (Some a) (Some b) None alike stands gains = gains
  stands_begun at to batches (Some a) None q alike stands gains = absurd alike
  stands_begun at to batches None (Some b) q alike stands gains = absurd alike
  stands_begun at to batches None None (Some c) alike stands gains = gains
  stands_begun at to batches None None None alike stands gains = tt

  -- ---- the node

  pub starts_shaped : (batches : List (List LogRecord)) → IsCatalogue catalogue → has (sites_of catalogue) id ≡ true → AllByRecursion IsBatch batches → (durable_in catalogue id batches).life < 2 ^ 32 - 1
      → IsShaped catalogue (start_node catalogue id batches).site
  unfolding node_run
  starts_shaped batches k listed are left = (runs_are_shaped catalogue id batches [] k listed are (omega (arith, left)) tt).0

  -- the log folds to the durable part of the site that starts
  start_folds : (batches : List (List LogRecord)) → durable_of (start_node catalogue id batches).site ≡ durable_in catalogue id (start_node catalogue id batches).batches
  unfolding node_run
  start_folds batches = runs_keep catalogue id batches []

  same_id : (batches : List (List LogRecord)) → (start_node catalogue id batches).site.id ≡ id
  unfolding start
  same_id batches = refl

  pub starts_life : (batches : List (List LogRecord)) → (durable_in catalogue id batches).life < 2 ^ 32 - 1 → (start_node catalogue id batches).site.life < 2 ^ 32
  unfolding start
  starts_life batches left = omega (arith, left)

  pub keeps_start : (at to : Standing) (batches : List (List LogRecord)) (site : SiteState) → site ≡ (start_node catalogue id batches).site → (images : Halves → Type 0) → (p q : Option Halves) → IfSome p (StandsAt at batches)
      → Becomes (GainsAt (start_record (durable_in catalogue id batches) ∷ []) at to) p q → IfSome q (λ log. AreSettled to log images) → IfSome q (λ log. Keeps catalogue (record { site = site; at = to }) log images)
  keeps_start at to batches site is images (Some b) (Some c) stands gains settled = record {
    synced = settled.synced;
    batches = (start_node catalogue id batches).batches;
    stands = gains batches stands;
    folds = subst (λ (s : SiteState). durable_in catalogue s.id (start_node catalogue id batches).batches ≡ durable_of s) (sym is)
        (subst (λ n. durable_in catalogue n (start_node catalogue id batches).batches ≡ durable_of (start_node catalogue id batches).site) (sym (same_id batches)) (sym (start_folds batches)));
  }
  keeps_start at to batches site is images (Some b) None stands gains settled = absurd gains
  keeps_start at to batches site is images None (Some c) stands gains settled = absurd gains
  keeps_start at to batches site is images None None stands gains settled = tt
