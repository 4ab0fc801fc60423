-- A checkpoint of the durable part to which batches fold, folds to the same durable part.
use Rattle.std.proofs.Common.{◌≡◌, ◌∙◌, ℕ, suc, ◌<◌, Bool, true, false, List, [], ◌∷◌, length, refl, sym, ap, arith, AllPairs, slice_index_or, if◌then◌else◌, ◌==◌}
use Rattle.std.proofs.lemmas.Bool.Decides.{nat_tests}
use Rattle.vp_base.specs.declared.entry.LogRecord.{LogRecord}
use Rattle.vp_base.specs.declared.entry.Stored.{Stored}
use Rattle.vp_model.specs.Words.{for_each, keys, replace_at}
use Rattle.vp_model.specs.Durable.{DurableState, empty_durable, apply, apply_all}
use Rattle.vp_records.proofs.Held.{applied_keys}
use Rattle.vp_stable.specs.Halves.{apply_batches, save_batches, checkpoint_batches, is_last, generation_of}

abbrev Pair : Type 0
Pair = ℕ × Stored

-- each record is above this one
abbrev Above : ℕ → List Pair → Type 0
Above n [] = Unit {0}
Above n (y ∷ ys) = (n < y.0) × Above n ys

abbrev Ascends : List Pair → Type 0
Ascends [] = Unit {0}
Ascends (x ∷ xs) = Above x.0 xs × Ascends xs

above_of : (n : ℕ) (xs : List Pair) (d : Pair) → ((j : ℕ) → j < length xs → n < (slice_index_or xs j d).0) → Above n xs
above_of n [] d h = tt
above_of n (y ∷ ys) d h = (h 0 (omega arith), above_of n ys d (λ j lt. h (suc j) (omega arith)))

ascends_of : (xs : List Pair) → AllPairs (λ (a : Pair) (b : Pair). a.0 < b.0) xs → Ascends xs
ascends_of [] h = tt
ascends_of (x ∷ xs) h = (above_of x.0 xs x (λ j lt. h 0 (suc j) x (omega arith) (omega arith)), ascends_of xs (λ i j d lt within. h (suc i) (suc j) d (omega arith) (omega arith)))

above_same : (n : ℕ) (xs ys : List Pair) → keys ys ≡ keys xs → Above n xs → Above n ys
above_same n xs [] e h = tt
above_same n [] (y ∷ ys) e h = absurd cc
above_same n (x ∷ xs) (y ∷ ys) e h =
    let head : y.0 ≡ x.0 = cc in
    let tail : keys ys ≡ keys xs = cc in
    (rw head h.0, above_same n xs ys tail h.1)

-- a number is neither one above it nor one below it
pub not_below : (m n : ℕ) → m < n → (m == n) ≡ false
not_below m n lt = grind (arith, nat_tests)

pub not_above : (m n : ℕ) → n < m → (m == n) ≡ false
not_above m n lt = grind (arith, nat_tests)

same_number : (n : ℕ) → (n == n) ≡ true
same_number n = grind (arith, nat_tests)

abbrev set_copy : Pair → List Pair → List Pair
set_copy c copies = replace_at c.0 c.1 copies

-- none of them is that record's
set_none : (c : Pair) (ys : List Pair) → Above c.0 ys → set_copy c ys ≡ ys
set_none c [] h = refl
set_none c (y ∷ ys) h = rw (not_above y.0 c.0 h.0) (ap (λ (l : List Pair). y ∷ l) (set_none c ys h.1))

-- the first one stays while records above it are set
stays : (x : Pair) (xs ys : List Pair) → Above x.0 xs → for_each xs set_copy (x ∷ ys) ≡ x ∷ for_each xs set_copy ys
stays x [] ys h = refl
stays x (c ∷ xs) ys h = rw (not_below x.0 c.0 h.0) (stays x xs (set_copy c ys) h.1)

-- copies of the same records become these
filled : (xs ys : List Pair) → keys ys ≡ keys xs → Ascends xs → for_each xs set_copy ys ≡ xs
filled [] [] e h = refl
filled [] (y ∷ ys) e h = absurd cc
filled (x ∷ xs) [] e h = absurd cc
filled (x ∷ xs) (y ∷ ys) e h =
    let head : y.0 ≡ x.0 = cc in
    let tail : keys ys ≡ keys xs = cc in
    let first : set_copy x (y ∷ ys) ≡ x ∷ ys = rw (head, same_number x.0, set_none x ys (above_same x.0 xs ys tail h.0)) refl in
    ap (for_each xs set_copy) first ∙ stays x xs ys h.0 ∙ ap (λ (l : List Pair). x ∷ l) (filled xs ys tail h.1)

-- batches change nothing about which records have copies
all_keys : (records : List LogRecord) (d : DurableState) → keys (apply_all records d).copies ≡ keys d.copies
all_keys [] d = refl
all_keys (r ∷ records) d = all_keys records (apply r d) ∙ applied_keys r d

pub folded_keys : (batches : List (List LogRecord)) (d : DurableState) → keys (apply_batches batches d).copies ≡ keys d.copies
folded_keys [] d = refl
folded_keys (batch ∷ batches) d = folded_keys batches (apply_all batch d) ∙ all_keys batch d

module _ (d : DurableState) (ascends : AllPairs (λ (a : Pair) (b : Pair). a.0 < b.0) d.copies) (batches : List (List LogRecord)) (copies : List (ℕ × Stored)) (folds : apply_batches batches (empty_durable copies) ≡ d) where
  checkpoint_folds : apply_batches (checkpoint_batches d batches) (empty_durable copies) ≡ d
  unfolding apply
  checkpoint_folds =
      let same : keys copies ≡ keys d.copies = sym (folded_keys batches (empty_durable copies)) ∙ ap (λ (e : DurableState). keys e.copies) folds in
      ap (λ (c : List Pair). record { promise = d.promise; life = d.life; copies = c; doubts = d.doubts; decisions = d.decisions }) (filled d.copies copies same (ascends_of d.copies ascends))

  either : (last : Bool) → apply_batches (if last then batches else checkpoint_batches d batches) (empty_durable copies) ≡ d
  either true = folds
  either false = checkpoint_folds

  pub saved_folds : apply_batches (save_batches d batches) (empty_durable copies) ≡ d
  saved_folds = either (is_last (generation_of batches))
