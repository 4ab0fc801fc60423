-- The calls of an append and of a checkpoint, by what is known of the disk.
use Rattle.std.proofs.Common.{◌≡◌, ℕ, List, sym, subst}
use Rattle.std.specs.Prelude.{IfSome}
use Rattle.std.specs.declared.option.Option.{Option}
use Rattle.std.specs.declared.option.Option.TheVariants.{Some, None}
use Rattle.vp_base.specs.declared.entry.LogRecord.{LogRecord}
use Rattle.vp_outside.specs.Disk.{Halves, Becomes, DiskState, log_of, IsDisk, Only, Elapses}
use Rattle.vp_stable.specs.Halves.{Standing, StandsAt, AreSettled, AreKept}
use Rattle.vp_stable.specs.Moments.{LeavesOnly}
use Rattle.vp_stable.specs.Writing.{IsSynced, Tears}
use Rattle.vp_stable.proofs.Times.{elapses_none, leaves_only}

-- ---- what a crash leaves

module _ (at : Standing) (old new : DiskState) (is : IsDisk old) (P : Halves → Halves → Type 0) (same : (log : Halves) → P log log) where
  -- a synced log has at first only images with P
  at_first : (log : Halves) → Only log (old.may_leave old.asked) → (image : Halves) → old.left_since old.asked old.moment image → P log image
  at_first log only image left = subst (λ (h : Halves). P log h) (sym (only image (is.only_now old.asked image left))) (same log)

  pub leaves_torn : old.honest → AreKept at old → Tears P old.asked old new → IfSome (log_of old) (λ log. LeavesOnly old new (P log))
  leaves_torn honest kept tears = by (log_of old) (kept honest) (tears honest)
    where
      by : (o : Option Halves) → IfSome o (λ log. AreSettled at log (old.may_leave old.asked)) → IfSome o (λ log. Only log (old.may_leave old.asked) → Elapses old.asked old new (P log))
          → IfSome o (λ log. LeavesOnly old new (P log))
      by None settled time = tt
      by (Some log) settled time = leaves_only old new (P log) (time settled.synced) (at_first log settled.synced)

-- no call was made
pub tears_none : (disk : DiskState) (P : Halves → Halves → Type 0) → Tears P disk.asked disk disk
tears_none disk P honest = by (log_of disk)
  where
    by : (o : Option Halves) → IfSome o (λ log. Only log (disk.may_leave disk.asked) → Elapses disk.asked disk disk (P log))
    by None = tt
    by (Some log) = λ only. elapses_none disk.asked disk (P log)

-- a log that is kept was changed and synced
pub kept_at : (from to : Standing) (f : List (List LogRecord) → List (List LogRecord)) (old new : DiskState) → new.asked ≡ old.asked → (old.honest → IsSynced old.asked new)
    → AreKept from old → (new.honest → old.honest)
    → Becomes (λ a b. (batches : List (List LogRecord)) → StandsAt from batches a → StandsAt to (f batches) b) (log_of old) (new.logs old.asked) → AreKept to new
kept_at from to f old new name synced kept as_honest step honest =
    subst (λ (n : Option (List ℕ)). IfSome (new.logs n) (λ log. AreSettled to log (new.may_leave n))) (sym name)
    (by (log_of old) (new.logs old.asked) (kept (as_honest honest)) step (synced (as_honest honest)))
  where
    by : (o p : Option Halves) → IfSome o (λ log. AreSettled from log (old.may_leave old.asked))
        → Becomes (λ a b. (batches : List (List LogRecord)) → StandsAt from batches a → StandsAt to (f batches) b) o p → IfSome p (λ log. Only log (new.may_leave old.asked))
        → IfSome p (λ log. AreSettled to log (new.may_leave old.asked))
    by (Some a) (Some b) settled step only = record { synced = only; batches = f settled.batches; stands = step settled.batches settled.stands }
    by (Some a) None settled step only = tt
    by None (Some b) settled step only = absurd step
    by None None settled step only = tt
