-- The position of a log after a checkpoint, and what the log holds while one is made.
use Rattle.std.proofs.Common.{◌≡◌, inl, inr, ⊎_elim, ℕ, zero, suc, ◌+◌, ◌<◌, ◌≤◌, ◌^◌, ◌-◌, Bool, true, false, if◌then◌else◌, List, [], ◌∷◌, length, refl, sym, ◌∙◌, ap, subst, arith, AllPairs}
use Rattle.std.proofs.lemmas.Bool.Decides.{nat_tests}
use Rattle.std.specs.Prelude.{IfSome}
use Rattle.vp_base.specs.declared.entry.LogRecord.{LogRecord}
use Rattle.vp_base.specs.declared.entry.Stored.{Stored}
use Rattle.vp_model.specs.Durable.{DurableState, empty_durable}
use Rattle.vp_outside.specs.Disk.{Halves, half_of, InHalf, Becomes, DiskState, log_of, IsDisk}
use Rattle.vp_stable.specs.Log.{IsLog}
use Rattle.vp_stable.specs.Halves.{generation_of, HasGeneration, IsCurrent, HaveBatches, Standing, StandsAt, AreKept, checkpoint_of, checkpoint_batches, is_last, save_batches, apply_batches, SavesAt, MaySaveAt, FoldsAlike}
use Rattle.vp_stable.specs.Moments.{LeavesOnly}
use Rattle.vp_stable.specs.Writing.{MayClear, Clears, IsPiece, Puts, MayPut, IsSynced, Tears}
use Rattle.vp_stable.proofs.Writes.{tears_as, tears_then}
use Rattle.vp_stable.proofs.Appends.{leaves_torn, tears_none}
use Rattle.vp_stable.proofs.Generations.{log_generation, short_generation, in_half_step, halves_are_one}
use Rattle.vp_stable.proofs.Currents.{IsBelow, other_half, this_stays, below_current, current_above}
use Rattle.vp_stable.proofs.Restored.{saved_folds}

module _ (d : DurableState) (from : Standing) where
  pub may_keep : (log : Halves) → MaySaveAt d from log log
  may_keep log batches stands = inl (from.half, stands.current, inr (from.gate, stands.is_log))

  -- ---- the other half is cleared

  -- the other half is below the current one in generation
  was_below : (batches : List (List LogRecord)) (log : Halves) → StandsAt from batches log → (from.half ≤ 1) × IsBelow from.half (generation_of batches) log
  was_below batches log stands = below_current from.half (generation_of batches) log stands.current (log_generation from.gate batches (half_of from.half log) stands.is_log)

  -- The current half stays the current one as long as the other one has no higher generation than before.
  stays : (batches : List (List LogRecord)) (old new : Halves) → StandsAt from batches old → half_of from.half new ≡ half_of from.half old → (other : ℕ)
      → HasGeneration other (half_of (other_half from.half) new) → other + from.half ≤ generation_of batches → HaveBatches batches new
  stays batches old new stands same other has below =
      let log : IsLog from.gate batches (half_of from.half new) = subst (λ (bytes : List ℕ). IsLog from.gate batches bytes) (sym same) stands.is_log in (
        from.half,
        current_above from.half (generation_of batches) new (was_below batches old stands).0 (log_generation from.gate batches (half_of from.half new) log)
            (record { other = other; of_other = has; below = below }),
        inr (from.gate, log),
      )

  -- a half without batches has no generation
  pub stays_none : (batches : List (List LogRecord)) (old new : Halves) → StandsAt from batches old → half_of from.half new ≡ half_of from.half old
      → HasGeneration 0 (half_of (other_half from.half) new) → HaveBatches batches new
  stays_none batches old new stands same has =
      let below = (was_below batches old stands).1 in
      stays batches old new stands same 0 has (omega (arith, below.below))

  pub may_clear : (old new : Halves) → InHalf (other_half from.half) MayClear old new → MaySaveAt d from old new
  may_clear old new step batches stands =
      let same = this_stays from.half MayClear old new step in
      let below = (was_below batches old stands).1 in
      ⊎_elim
      (λ kept. inl (stays batches old new stands same below.other (subst (λ (bytes : List ℕ). HasGeneration below.other bytes) (sym kept) below.of_other) below.below))
      (λ short. inl (stays_none batches old new stands same (short_generation (half_of (other_half from.half) new) short)))
      (in_half_step (other_half from.half) MayClear old new step)

  -- ---- the checkpoint is written there

  module _ (piece : List ℕ) (is : IsPiece (checkpoint_of (from.generation + 1) d ∷ []) piece) (more : from.generation < 2 ^ 64 - 1) where
    -- the other half of the other half
    back : (half : ℕ) (a b : Halves) → half ≤ 1 → half_of (other_half (other_half half)) a ≡ half_of half a
    back zero a b le = refl
    back (suc zero) a b le = refl
    back (suc (suc k)) a b le = absurd (omega (arith, le))

    not_last : (batches : List (List LogRecord)) → from.generation ≡ generation_of batches → save_batches d batches ≡ (checkpoint_of (from.generation + 1) d ∷ []) ∷ []
    not_last batches same =
        let no : is_last (generation_of batches) ≡ false = grind (arith, nat_tests) in
        ap (λ (last : Bool). if last then batches else checkpoint_batches d batches) no ∙ ap (λ (n : ℕ). (checkpoint_of (n + 1) d ∷ []) ∷ []) (sym same)

    -- with its batch the other half is the current one
    becomes_current : (batches : List (List LogRecord)) (old new : Halves) → StandsAt from batches old → half_of from.half new ≡ half_of from.half old
        → (place : ℕ) → IsLog place ((checkpoint_of (from.generation + 1) d ∷ []) ∷ []) (half_of (other_half from.half) new) → IsCurrent (other_half from.half) new
    becomes_current batches old new stands same place log =
        let small = (was_below batches old stands).0 in
        let generation : HasGeneration (generation_of batches) (half_of from.half new) =
        subst (λ (bytes : List ℕ). HasGeneration (generation_of batches) bytes) (sym same) (log_generation from.gate batches (half_of from.half old) stands.is_log) in
        current_above (other_half from.half) (from.generation + 1) new (other_small from.half)
        (log_generation place ((checkpoint_of (from.generation + 1) d ∷ []) ∷ []) (half_of (other_half from.half) new) log)
        (record {
          other = generation_of batches;
          of_other = subst (λ (bytes : List ℕ). HasGeneration (generation_of batches) bytes) (sym (back from.half new new small)) generation;
          below = omega (arith, stands.generation, other_small from.half);
        })
      where
        other_small : (half : ℕ) → other_half half ≤ 1
        other_small zero = omega arith
        other_small (suc n) = omega arith

    pub may_save : (a b c : Halves) → InHalf (other_half from.half) Clears a b → InHalf (other_half from.half) (MayPut piece 0) b c → MaySaveAt d from a c
    may_save a b c clears puts batches stands =
        let same = this_stays from.half (MayPut piece 0) b c puts ∙ this_stays from.half Clears a b clears in
        let empty = in_half_step (other_half from.half) Clears a b clears in
        ⊎_elim
        (λ none. inl (stays_none batches a c stands same (log_generation 0 [] (half_of (other_half from.half) c) none)))
        (λ log. inr (subst (λ (bs : List (List LogRecord)). HaveBatches bs c) (sym (not_last batches stands.generation))
        (other_half from.half, becomes_current batches a c stands same (0 + length piece) log, inr (0 + length piece, log))))
        (in_half_step (other_half from.half) (MayPut piece 0) b c puts (checkpoint_of (from.generation + 1) d ∷ []) [] is empty)

    pub saves : (a b c : Halves) → InHalf (other_half from.half) Clears a b → InHalf (other_half from.half) (Puts piece 0) b c
        → SavesAt d from (record { half = other_half from.half; generation = from.generation + 1; gate = length piece; second = length piece }) a c
    saves a b c clears puts batches stands =
        let same = this_stays from.half (Puts piece 0) b c puts ∙ this_stays from.half Clears a b clears in
        let empty = in_half_step (other_half from.half) Clears a b clears in
        let log = in_half_step (other_half from.half) (Puts piece 0) b c puts (checkpoint_of (from.generation + 1) d ∷ []) [] is empty in
        let none : 0 + length piece ≡ length piece = omega arith in
        rw (not_last batches stands.generation) (record {
          current = becomes_current batches a c stands same (0 + length piece) log;
          is_log = subst (λ (place : ℕ). IsLog place ((checkpoint_of (from.generation + 1) d ∷ []) ∷ []) (half_of (other_half from.half) c)) none log;
          generation = refl;
          second = omega (arith, log.at);
        })

  -- ---- at the last generation nothing is done

  pub saves_nothing : from.generation ≡ 2 ^ 64 - 1 → (log : Halves) → SavesAt d from from log log
  saves_nothing last log batches stands =
      let yes : is_last (generation_of batches) ≡ true = grind (arith, nat_tests) in
      subst (λ (bs : List (List LogRecord)). StandsAt from bs log) (sym (ap (λ (last : Bool). if last then batches else checkpoint_batches d batches) yes)) stands

  -- ---- both fold to the same durable part

  module _ (ascends : AllPairs (λ (a : ℕ × Stored) (b : ℕ × Stored). a.0 < b.0) d.copies) where
    folds_alike : (old new : Halves) → MaySaveAt d from old new → FoldsAlike d from old new
    folds_alike old new may batches after copies stands has folds =
        ⊎_elim
        (λ was. subst (λ (bs : List (List LogRecord)). apply_batches bs (empty_durable copies) ≡ d) (halves_are_one batches after new was has) folds)
        (λ is. subst (λ (bs : List (List LogRecord)). apply_batches bs (empty_durable copies) ≡ d) (halves_are_one (save_batches d batches) after new is has) (saved_folds d ascends batches copies folds))
        (may batches stands)

    abbrev Saves : Halves → Halves → Type 0
    Saves old new = MaySaveAt d from old new × FoldsAlike d from old new

    both : (old new : Halves) → MaySaveAt d from old new → Saves old new
    both old new may = (may, folds_alike old new may)

    module _ (old : DiskState) (is_disk : IsDisk old) (honest : old.honest) (kept : AreKept from old) where
      -- before the first call
      pub none_leaves : IfSome (log_of old) (λ log. LeavesOnly old old (Saves log))
      none_leaves = leaves_torn from old old is_disk Saves (λ log. both log log (may_keep log)) honest kept (tears_none old Saves)

      cleared : (mid : DiskState) → Tears (InHalf (other_half from.half) MayClear) old.asked old mid → Tears Saves old.asked old mid
      cleared mid = tears_as old.asked old mid (InHalf (other_half from.half) MayClear) Saves (λ a b step. both a b (may_clear a b step))

      -- while the other half is cleared
      pub clear_leaves : (mid : DiskState) → Tears (InHalf (other_half from.half) MayClear) old.asked old mid → IfSome (log_of old) (λ log. LeavesOnly old mid (Saves log))
      clear_leaves mid tears = leaves_torn from old mid is_disk Saves (λ log. both log log (may_keep log)) honest kept (cleared mid tears)

      -- while the checkpoint is written there
      pub put_leaves : (piece : List ℕ) → IsPiece (checkpoint_of (from.generation + 1) d ∷ []) piece → from.generation < 2 ^ 64 - 1 → (mid new : DiskState)
          → Tears (InHalf (other_half from.half) MayClear) old.asked old mid → Becomes (InHalf (other_half from.half) Clears) (old.logs old.asked) (mid.logs old.asked)
          → (old.honest → IsSynced old.asked mid) → (old.honest → mid.honest) → Tears (InHalf (other_half from.half) (MayPut piece 0)) old.asked mid new
          → IfSome (log_of old) (λ log. LeavesOnly old new (Saves log))
      put_leaves piece is more mid new first step synced as_honest second =
          leaves_torn from old new is_disk Saves (λ log. both log log (may_keep log)) honest kept
          (tears_then old.asked old mid new Saves (InHalf (other_half from.half) Clears) (InHalf (other_half from.half) (MayPut piece 0)) (λ a b c clears puts. both a c (may_save piece is more a b c clears puts))
          (cleared mid first) step synced as_honest second)
