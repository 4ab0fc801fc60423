-- What calls of a log leave of it, one after the other.
use Rattle.std.proofs.Common.{◌≡◌, ◌∙◌, inl, inr, ⊎_elim, ◌⊎◌, ◌<◌, true, List, [], ◌∷◌, ◌++◌, length, refl, sym, subst, arith}
use Rattle.std.specs.declared.option.Option.{Option}
use Rattle.std.specs.declared.option.Option.TheVariants.{Some, None}
use Rattle.std.specs.Prelude.{IfSome, if◌then◌else◌}
use Rattle.vp_model.specs.Types.{LogRecord}
use Rattle.vp_model.specs.Durable.{DurableState}
use Rattle.vp_outside.specs.Disk.{Halves, DiskState, IsDisk, Becomes, Elapses}
use Rattle.vp_stable.specs.Halves.{Standing, StandsAt, HaveBatches, AreSettled, GainsAt, MayGainAt, MaySaveAt, DueIsOfTheBatches, IsShort, save_batches, due, is_due}
use Rattle.vp_stable.specs.Moments.{LeavesOnly}
use Rattle.vp_stable.proofs.Times.{elapses_none, elapses_as, elapses_then, leaves_only}
use Rattle.vp_runs.specs.Keeping.{saved_if_due, kept_with}
use Rattle.vp_node.specs.Keeping.{SavesDueAt, MaySaveDueAt, KeepsAt, KeepsShort, MayKeep, MayKeepAt}

-- no call at all: a crash leaves what is read back
pub leaves_settled : (P : Halves → Halves → Type 0) → ((log : Halves) → P log log) → (at : Standing) (disk : DiskState) → IsDisk disk → (log : Option Halves)
    → IfSome log (λ log. AreSettled at log (disk.may_leave disk.asked)) → IfSome log (λ log. LeavesOnly disk disk (P log))
leaves_settled P p at disk is (Some log) kept =
    leaves_only disk disk (P log) (elapses_none disk.asked disk (P log)) (λ image left. subst (P log) (sym (kept.synced image (is.only_now disk.asked image left))) (p log))
leaves_settled P p at disk is None kept = tt

pub has : {at : Standing} {batches : List (List LogRecord)} {log : Halves} → StandsAt at batches log → HaveBatches batches log
has {at = at} stands = (at.half, stands.current, inr (at.gate, stands.is_log))

pub may_save_none : (d : DurableState) (at : Standing) (log : Halves) → MaySaveAt d at log log
may_save_none d at log batches stands = inl (has stands)

pub may_save_due_none : (d : DurableState) (at : Standing) (log : Halves) → MaySaveDueAt d at log log
may_save_due_none d at log batches stands = inl (has stands)

pub may_keep_none : (d : DurableState) (records : List LogRecord) (at : Standing) (log : Halves) → MayKeepAt d records at log log
may_keep_none d [] at log batches stands = (batches, has stands, refl)
may_keep_none d (r ∷ records) at log batches stands = (batches, has stands, inl refl)

-- what is kept in the end may be kept
pub keeps_may : (d : DurableState) (records : List LogRecord) (from to : Standing) (old new : Halves) → KeepsAt d records from to old new → MayKeepAt d records from old new
keeps_may d [] from to old new keeps batches stands = (batches, has (keeps batches stands), refl)
keeps_may d (r ∷ records) from to old new keeps batches stands = (kept_with d (r ∷ records) batches, has (keeps batches stands), inr (inr refl))

pub keeps_short : (records : List LogRecord) → 0 < length records → (from to : Standing) → IsShort to → KeepsShort records from to
keeps_short [] none from to short = absurd (omega (arith, none))
keeps_short (r ∷ records) some from to short = short

-- what a crash leaves, said in another way
pub leaves_as : (P Q : Halves → Halves → Type 0) → ((log image : Halves) → P log image → Q log image) → (old new : DiskState) → (log : Option Halves)
    → IfSome log (λ log. LeavesOnly old new (P log)) → IfSome log (λ log. LeavesOnly old new (Q log))
leaves_as P Q as_q old new (Some log) leaves = record {
  each = λ image left. as_q log image (leaves.each image left);
  time = elapses_as old.asked old new (P log) (Q log) leaves.time (as_q log);
}
leaves_as P Q as_q old new None leaves = tt

-- if a checkpoint is due of a log, it is due of its batches
pub may_save_due : (d : DurableState) (at : Standing) → is_due at ≡ true → DueIsOfTheBatches → (old new : Halves) → MaySaveAt d at old new → MaySaveDueAt d at old new
may_save_due d at is_due_is law old new may batches stands =
    let due_is : due batches ≡ true = sym (law at batches old stands) ∙ is_due_is in
    ⊎_elim (λ same. inl same) (λ kept. inr (subst (λ b. HaveBatches (if b then save_batches d batches else batches) new) (sym due_is) kept)) (may batches stands)

-- ---- records after the batches, and a checkpoint after them if one is due

module _ (d : DurableState) (records : List LogRecord) (some : 0 < length records) (from at to : Standing) where
  pub keeps_then : (a b c : Halves) → GainsAt records from at a b → SavesDueAt d at to b c → KeepsAt d records from to a c
  keeps_then a b c gains saves batches stands = by records some (λ more. saves more) (gains batches stands)
    where
      by : (rs : List LogRecord) → 0 < length rs → ((more : List (List LogRecord)) → StandsAt at more b → StandsAt to (saved_if_due d more) c) → StandsAt at (batches ++ rs ∷ []) b → StandsAt to (kept_with d rs batches) c
      by [] none saves stands = absurd (omega (arith, none))
      by (r ∷ rs) lt saves stands = saves (batches ++ (r ∷ rs) ∷ []) stands

  may_keep : (batches after : List (List LogRecord)) → (after ≡ batches) ⊎ ((after ≡ batches ++ records ∷ []) ⊎ (after ≡ saved_if_due d (batches ++ records ∷ []))) → MayKeep d records batches after
  may_keep batches after is = by records some is
    where
      by : (rs : List LogRecord) → 0 < length rs → (after ≡ batches) ⊎ ((after ≡ batches ++ rs ∷ []) ⊎ (after ≡ saved_if_due d (batches ++ rs ∷ []))) → MayKeep d rs batches after
      by [] none is = absurd (omega (arith, none))
      by (r ∷ rs) lt is = is

  pub may_gain_keeps : (a c : Halves) → MayGainAt records from a c → MayKeepAt d records from a c
  may_gain_keeps a c may batches stands =
      ⊎_elim (λ same. (batches, same, may_keep batches batches (inl refl)))
      (λ gained. (batches ++ records ∷ [], gained, may_keep batches (batches ++ records ∷ []) (inr (inl refl)))) (may batches stands)

  pub may_save_keeps : (a b c : Halves) → GainsAt records from at a b → MaySaveDueAt d at b c → MayKeepAt d records from a c
  may_save_keeps a b c gains may batches stands =
      ⊎_elim (λ same. (batches ++ records ∷ [], same, may_keep batches (batches ++ records ∷ []) (inr (inl refl))))
      (λ kept. (saved_if_due d (batches ++ records ∷ []), kept, may_keep batches (saved_if_due d (batches ++ records ∷ [])) (inr (inr refl))))
      (may (batches ++ records ∷ []) (gains batches stands))

  pub leaves_then : (old mid new : DiskState) → mid.asked ≡ old.asked → (o p : Option Halves) → Becomes (GainsAt records from at) o p
      → IfSome o (λ log. LeavesOnly old mid (MayGainAt records from log)) → IfSome p (λ log. LeavesOnly mid new (MaySaveDueAt d at log))
      → IfSome o (λ log. LeavesOnly old new (MayKeepAt d records from log))
  leaves_then old mid new name (Some a) (Some b) gains first second =
      let onward : Elapses old.asked mid new (MaySaveDueAt d at b) = subst (λ log. Elapses log mid new (MaySaveDueAt d at b)) name second.time in
      let time = elapses_then old.asked old mid new (MayGainAt records from a) (MaySaveDueAt d at b) (MayKeepAt d records from a) first.time onward (may_gain_keeps a) (λ image. may_save_keeps a b image gains) in
      leaves_only old new (MayKeepAt d records from a) time (λ image left. may_gain_keeps a image (first.each image (first.time.keeps old.moment image (omega arith) left)))
  leaves_then old mid new name (Some a) None gains first second = absurd gains
  leaves_then old mid new name None (Some b) gains first second = tt
  leaves_then old mid new name None None gains first second = tt
