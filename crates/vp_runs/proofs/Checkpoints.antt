-- A checkpoint of the durable part to which batches fold folds to it.
use Rattle.std.proofs.Common.{◌≡◌, ◌∙◌, ℕ, ◌+◌, ◌<◌, Bool, true, false, List, [], ◌∷◌, ◌++◌, refl, sym, ap, arith, if◌then◌else◌}
use Rattle.std.proofs.lemmas.List.Sums.{fold-append}
use Rattle.std.specs.List.{AllByRecursion}
use Rattle.vp_model.specs.Types.{LogRecord, Stored}
use Rattle.vp_model.specs.Words.{for_each, has, keys, replace_at}
use Rattle.vp_model.specs.Catalogue.{Catalogue, RecordEntry, copies_from, start_copies}
use Rattle.vp_model.specs.Durable.{DurableState, empty_durable, apply, apply_all}
use Rattle.vp_stable.specs.Halves.{due, save_batches, checkpoint_batches, is_last, generation_of}
use Rattle.vp_stable.proofs.Restored.{folded_keys, not_below, not_above}
use Rattle.vp_runs.specs.Keeping.{durable_in, kept_with, saved_if_due}
use Rattle.vp_runs.specs.Laws.{CheckpointsFold, StepsFold}
use Rattle.vp_laws.proofs.Lists.Numbers.{eq_self}

abbrev Pair : Type 0
Pair = ℕ × Stored

-- ---- the records of the copies

abbrev Above : ℕ → List ℕ → Type 0
Above n ms = AllByRecursion (λ m. n < m) ms

abbrev Ascends : List ℕ → Type 0
Ascends [] = Unit {0}
Ascends (n ∷ ns) = Above n ns × Ascends ns

placed_above : (n place : ℕ) (site : ℕ) (records : List RecordEntry) → n < place → Above n (keys (copies_from place records site))
placed_above n place site [] lt = tt
placed_above n place site (r ∷ records) lt = at (has (keys r.weights) site) refl (placed_above n (place + 1) site records (omega (arith, lt)))
  where
    at : (here : Bool) → has (keys r.weights) site ≡ here → Above n (keys (copies_from (place + 1) records site)) → Above n (keys (copies_from place (r ∷ records) site))
    at true e rest = rw e (lt, rest)
    at false e rest = rw e rest

copies_ascend : (place site : ℕ) (records : List RecordEntry) → Ascends (keys (copies_from place records site))
copies_ascend place site [] = tt
copies_ascend place site (r ∷ records) = at (has (keys r.weights) site) refl (copies_ascend (place + 1) site records)
  where
    at : (here : Bool) → has (keys r.weights) site ≡ here → Ascends (keys (copies_from (place + 1) records site)) → Ascends (keys (copies_from place (r ∷ records) site))
    at true e rest = rw e (placed_above place (place + 1) site records (omega arith), rest)
    at false e rest = rw e rest

-- ---- setting all of them

abbrev set_copy : Pair → List Pair → List Pair
set_copy c copies = replace_at c.0 c.1 copies

-- none of them is of that record
set_none : (c : Pair) (ys : List Pair) → Above c.0 (keys ys) → set_copy c ys ≡ ys
set_none c [] h = refl
set_none c (y ∷ ys) h = rw (not_above y.0 c.0 h.0) (ap (λ (l : List Pair). y ∷ l) (set_none c ys h.1))

-- the first one stays while records above it are set
stays : (x : Pair) (xs ys : List Pair) → Above x.0 (keys xs) → for_each xs set_copy (x ∷ ys) ≡ x ∷ for_each xs set_copy ys
stays x [] ys h = refl
stays x (c ∷ xs) ys h = rw (not_below x.0 c.0 h.0) (stays x xs (set_copy c ys) h.1)

-- copies of the same records become these copies
filled : (xs ys : List Pair) → keys ys ≡ keys xs → Ascends (keys xs) → for_each xs set_copy ys ≡ xs
filled [] [] e h = refl
filled [] (y ∷ ys) e h = absurd cc
filled (x ∷ xs) [] e h = absurd cc
filled (x ∷ xs) (y ∷ ys) e h =
    let head : y.0 ≡ x.0 = cc in
    let tail : keys ys ≡ keys xs = cc in
    let above : Above x.0 (keys ys) = rw tail h.0 in
    let first : set_copy x (y ∷ ys) ≡ x ∷ ys = rw (head, eq_self x.0, set_none x ys above) refl in
    ap (for_each xs set_copy) first ∙ stays x xs ys h.0 ∙ ap (λ (l : List Pair). x ∷ l) (filled xs ys tail h.1)

-- ---- the laws

module _ (catalogue : Catalogue) (id : ℕ) where
  checkpoint_folds : (last : Bool) (batches : List (List LogRecord)) →
      durable_in catalogue id (if last then batches else checkpoint_batches (durable_in catalogue id batches) batches) ≡ durable_in catalogue id batches
  unfolding apply
  checkpoint_folds true batches = refl
  checkpoint_folds false batches =
      let d = durable_in catalogue id batches in
      let same : keys d.copies ≡ keys (start_copies catalogue id) = folded_keys batches (empty_durable (start_copies catalogue id)) in
      let ascend : Ascends (keys d.copies) = rw same (copies_ascend 0 id catalogue.records) in
      ap (λ (c : List Pair). record { promise = d.promise; life = d.life; copies = c; doubts = d.doubts; decisions = d.decisions }) (filled d.copies (start_copies catalogue id) (sym same) ascend)

  saved_folds : (due_now : Bool) (batches : List (List LogRecord)) →
      durable_in catalogue id (if due_now then save_batches (durable_in catalogue id batches) batches else batches) ≡ durable_in catalogue id batches
  saved_folds true batches = checkpoint_folds (is_last (generation_of batches)) batches
  saved_folds false batches = refl

  pub batch_folds : (batch : List LogRecord) (batches : List (List LogRecord)) → durable_in catalogue id (batches ++ batch ∷ []) ≡ apply_all batch (durable_in catalogue id batches)
  batch_folds batch batches = fold-append (λ d batch. apply_all batch d) _ batches (batch ∷ [])

  kept_folds : (d : DurableState) (records : List LogRecord) (batches : List (List LogRecord)) → apply_all records (durable_in catalogue id batches) ≡ d → durable_in catalogue id (kept_with d records batches) ≡ d
  kept_folds d [] batches h = h
  kept_folds d (r ∷ records) batches h =
      let after = batches ++ (r ∷ records) ∷ [] in
      let same : durable_in catalogue id after ≡ d = batch_folds (r ∷ records) batches ∙ h in
      ap (λ (e : DurableState). durable_in catalogue id (saved_if_due e after)) (sym same) ∙ saved_folds (due after) after ∙ same

pub checkpoints_fold : CheckpointsFold
checkpoints_fold catalogue id batches = checkpoint_folds catalogue id (is_last (generation_of batches)) batches

pub steps_fold : StepsFold
steps_fold catalogue id d records batches h = kept_folds catalogue id d records batches h
