-- What a crash during serving leaves of the log.
use Rattle.std.proofs.Common.{◌≡◌, ◌⊎◌, inl, inr, ⊎_elim, ℕ, false, List, [], ◌∷◌, ◌++◌, length, sym, ap, subst, arith, ◌∙◌}
use Rattle.std.specs.Prelude.{Option, Some, None, IfSome}
use Rattle.std.proofs.Math.Seq.{take-length, take-append_seam}
use Rattle.std.proofs.lemmas.List.{take-append-le}
use Rattle.vp_model.specs.Types.{LogRecord}
use Rattle.vp_model.specs.Catalogue.{Catalogue}
use Rattle.vp_model.specs.Step.{durable_of}
use Rattle.vp_outside.specs.Disk.{Halves, DiskState, IsDisk, Becomes, Steps, Elapses, log_of}
use Rattle.vp_outside.specs.declared.datagram.Datagram.{Datagram}
use Rattle.vp_outside.proofs.Passed.{one_longer}
use Rattle.vp_stable.specs.Halves.{StandsAt, HaveBatches}
use Rattle.vp_stable.specs.Moments.{LeavesOnly, LeavesOthers}
use Rattle.vp_stable.proofs.Times.{elapses_as, elapses_then, leaves_only}
use Rattle.vp_runs.specs.Runs.{start_node, node_run}
use Rattle.vp_runs.proofs.Runs.{runs_keep}
use Rattle.vp_node.specs.Nodes.{NodeValue, MayStart, MaySave, turn_of}
use Rattle.vp_serving.specs.Serving.{LeavesFrom, AtAnyMoment, KeepsAtAnyMoment}
use Rattle.vp_serving.proofs.RunTurns.{left_folds}

-- what a crash leaves now, it would have left at some moment
pub left_now : (step : Halves → Halves → Type 0) (disk disk' : DiskState) → IsDisk disk' → AtAnyMoment step disk disk'
    → disk.honest → IfSome (log_of disk) (λ log. (image : Halves) → disk'.may_leave disk.asked image → disk.may_leave disk.asked image ⊎ step log image)
left_now step disk disk' is moments honest = by (log_of disk) (moments honest)
  where
    by : (o : Option Halves) → IfSome o (λ log. LeavesOnly disk disk' (λ image. disk.may_leave disk.asked image ⊎ step log image))
        → IfSome o (λ log. (image : Halves) → disk'.may_leave disk.asked image → disk.may_leave disk.asked image ⊎ step log image)
    by (Some log) only = λ image left. only.each image (is.counts_now disk.asked disk.moment image only.time.later left)
    by None only = tt

module _ (catalogue : Catalogue) (id : ℕ) (batches : List (List LogRecord)) where
  -- ---- the start

  may_start : (log image : Halves) → HaveBatches batches log → MayStart catalogue id log image → HaveBatches batches image ⊎ LeavesFrom catalogue id batches [] 0 image
  unfolding node_run
  may_start log image had may =
      ⊎_elim (λ same. inl same) (λ begun. inr (0, omega arith, omega arith, ((start_node catalogue id batches).batches, begun.1, sym (runs_keep catalogue id batches [])))) (may.batches batches had)

  pub start_moments : (disk disk' : DiskState) → IfSome (log_of disk) (HaveBatches batches) → AtAnyMoment (MayStart catalogue id) disk disk' → KeepsAtAnyMoment catalogue id batches [] disk disk'
  start_moments disk disk' had moments honest = by (log_of disk) had (moments honest)
    where
      by : (o : Option Halves) → IfSome o (HaveBatches batches) → IfSome o (λ log. LeavesOnly disk disk' (λ image. disk.may_leave disk.asked image ⊎ MayStart catalogue id log image))
          → IfSome o (λ _. LeavesOnly disk disk' (λ image. disk.may_leave disk.asked image ⊎ (HaveBatches batches image ⊎ LeavesFrom catalogue id batches [] 0 image)))
      by None had only = tt
      by (Some log) had only =
          let onto : (image : Halves) → disk.may_leave disk.asked image ⊎ MayStart catalogue id log image → disk.may_leave disk.asked image ⊎ (HaveBatches batches image ⊎ LeavesFrom catalogue id batches [] 0 image) =
          λ image left. ⊎_elim (λ was. inl was) (λ may. inr (may_start log image had may)) left in
          record { each = λ image left. onto image (only.each image left); time = elapses_as disk.asked disk disk' _ _ only.time onto }

  -- what a crash during a run over these datagrams may leave
  abbrev May : DiskState → List Datagram → Halves → Type 0
  May disk arrived image = disk.may_leave disk.asked image ⊎ (HaveBatches batches image ⊎ LeavesFrom catalogue id batches arrived 0 image)

  -- ---- a turn

  module _ (front : List Datagram) (d : Datagram) where
    -- what the turns before it leave
    earlier : (image : Halves) → LeavesFrom catalogue id batches front 0 image → LeavesFrom catalogue id batches (front ++ d ∷ []) 0 image
    earlier image (n, least, most, (left, has, folds)) = (
      n,
      least,
      omega (arith, most, one_longer front d),
      (left, has, folds ∙ ap (λ ds. durable_of (node_run catalogue id batches ds).node.site) (sym (take-append-le n front (d ∷ []) most))),
    )

    module _ (node : NodeValue) (site : node.site ≡ (node_run catalogue id batches front).node.site) (going : (node_run catalogue id batches front).stopped ≡ false) where
      -- The turn may be in the log, and those before it are.
      pub turn_leaves : (log image : Halves) → StandsAt node.at (node_run catalogue id batches front).node.batches log → MaySave catalogue node (turn_of catalogue node d) log image
          → LeavesFrom catalogue id batches (front ++ d ∷ []) (length front) image
      turn_leaves log image stands may =
          let left = may.batches (node_run catalogue id batches front).node.batches stands in
          ⊎_elim
          (λ e. (length front, omega arith, omega (arith, one_longer front d), (left.0, left.1, rw (take-append_seam front (d ∷ [])) e)))
          (λ e. (length (front ++ d ∷ []), omega (arith, one_longer front d), omega arith, (left.0, left.1, rw (take-length (front ++ d ∷ [])) e)))
          (left_folds catalogue id batches front d node site going left.0 left.2)

      from_any : (image : Halves) → LeavesFrom catalogue id batches (front ++ d ∷ []) (length front) image → LeavesFrom catalogue id batches (front ++ d ∷ []) 0 image
      from_any image (n, least, most, left) = (n, omega arith, most, left)

      pub turn_moments : (disk disk1 disk2 : DiskState) → Steps (λ _ log. StandsAt node.at (node_run catalogue id batches front).node.batches log) disk disk1 → LeavesOthers disk disk1
          → KeepsAtAnyMoment catalogue id batches front disk disk1
          → (disk1.honest → IfSome (log_of disk1) (λ log. LeavesOnly disk1 disk2 (MaySave catalogue node (turn_of catalogue node d) log)))
          → KeepsAtAnyMoment catalogue id batches (front ++ d ∷ []) disk disk2
      turn_moments disk disk1 disk2 stands others moments turns honest = by (log_of disk) (disk1.logs disk.asked) stands (moments honest) here
        where
          here : IfSome (disk1.logs disk.asked) (λ log. LeavesOnly disk1 disk2 (MaySave catalogue node (turn_of catalogue node d) log))
          here = subst (λ name. IfSome (disk1.logs name) (λ log. LeavesOnly disk1 disk2 (MaySave catalogue node (turn_of catalogue node d) log))) others.stays.same_name (turns (others.honest.0 honest))

          by : (a b : Option Halves) → Becomes (λ _ log. StandsAt node.at (node_run catalogue id batches front).node.batches log) a b → IfSome a (λ _. LeavesOnly disk disk1 (May disk front))
              → IfSome b (λ log. LeavesOnly disk1 disk2 (MaySave catalogue node (turn_of catalogue node d) log)) → IfSome a (λ _. LeavesOnly disk disk2 (May disk (front ++ d ∷ [])))
          by None b stands first second = tt
          by (Some a) None stands first second = absurd stands
          by (Some a) (Some log) stands first second =
              let onward : Elapses disk.asked disk1 disk2 (MaySave catalogue node (turn_of catalogue node d) log) =
              subst (λ name. Elapses name disk1 disk2 (MaySave catalogue node (turn_of catalogue node d) log)) others.stays.same_name second.time in
              let early : (image : Halves) → May disk front image → May disk (front ++ d ∷ []) image =
              λ image left. ⊎_elim (λ was. inl was) (λ now. inr (⊎_elim (λ same. inl same) (λ some. inr (earlier image some)) now)) left in
              let late : (image : Halves) → MaySave catalogue node (turn_of catalogue node d) log image → May disk (front ++ d ∷ []) image = λ image may. inr (inr (from_any image (turn_leaves log image stands may))) in
              let time = elapses_then disk.asked disk disk1 disk2 (May disk front) (MaySave catalogue node (turn_of catalogue node d) log) (May disk (front ++ d ∷ [])) first.time onward early late in
              leaves_only disk disk2 (May disk (front ++ d ∷ [])) time (λ image left. early image (first.each image (first.time.keeps disk.moment image (omega arith) left)))
