-- The first item that passes a test, by its place.
use Rattle.std.proofs.Common.{◌≡◌, ℕ, ◌+◌, ◌<◌, ◌≤◌, suc, zero, cond, not, ap, Bool, true, false, List, [], ◌∷◌, length, get_or, set, is_some, Some, None, refl, arith}
use Rattle.std.specs.List.{list_any, find, remove, position, position_or_len}
use Rattle.std.proofs.lemmas.Bool.Decides.{nat_tests}
use Rattle.std.proofs.lemmas.List.Quantifiers.{position-Some}
use Rattle.vp_model.specs.Words.{without_first, change_first}

pub any_is_found : {A : Type 0} (test : A → Bool) (xs : List A) → list_any test xs ≡ is_some (find test xs)
any_is_found test [] = refl
any_is_found test (x ∷ xs) = let rest = any_is_found test xs in grind (arith, nat_tests, rest)

module _ {A : Type 0} (test : A → Bool) where
  -- what is known of the first item that passes, by its place
  pub record IsFirst (xs : List A) (i : ℕ) (d : A) : Type 0 where
    pub found : find test xs ≡ Some (get_or xs i d)
    pub others : without_first test xs ≡ remove xs i
    pub changed : (f : A → A) → change_first test f xs ≡ set xs i (f (get_or xs i d))

  first_at : (xs : List A) (i : ℕ) (d : A) → i < length xs → test (get_or xs i d) ≡ true → ((k : ℕ) → k < i → test (get_or xs k d) ≡ false) → IsFirst xs i d
  first_at [] i d l h before = absurd (omega arith)
  first_at (x ∷ xs) zero d l h before = record { found = rw h refl; others = rw h refl; changed = λ f. rw h refl }
  first_at (x ∷ xs) (suc i) d l h before =
      let here : test x ≡ false = before 0 (omega arith) in
      let rest = first_at xs i d (omega arith) h (λ k b. before (suc k) (omega arith)) in
      record {
        found = rw here rest.found;
        others = rw here (ap (λ ys. x ∷ ys) rest.others);
        changed = λ f. rw here (ap (λ ys. x ∷ ys) (rest.changed f));
      }

  pub first_some : (xs : List A) (i : ℕ) (d : A) → position test xs ≡ Some i → IsFirst xs i d
  first_some xs i d h = let p = position-Some test xs i d h in first_at xs i d p.0 p.1 p.2

  -- nothing passes
  none_at : (xs : List A) → length xs ≤ position_or_len test xs → (find test xs ≡ None) × (without_first test xs ≡ xs)
  none_at [] l = (refl, refl)
  none_at (x ∷ xs) l =
      let n = position_or_len test xs in
      let P : Bool → Type 0 = λ b. suc (length xs) ≤ cond (not b) (1 + n) 0 → (cond b (Some x) (find test xs) ≡ None) × (cond b xs (x ∷ without_first test xs) ≡ x ∷ xs) in
      let rest = none_at xs in
      elim (test x) as P
      [ true ↦ (λ h. absurd (omega arith)) | false ↦ (λ h. let r = rest (omega arith) in (r.0, ap (λ ys. x ∷ ys) r.1)) ] l

  past : (xs : List A) → position test xs ≡ None → length xs ≤ position_or_len test xs
  past xs h = grind (arith, nat_tests, h)

  pub find_none : (xs : List A) → position test xs ≡ None → find test xs ≡ None
  find_none xs h = (none_at xs (past xs h)).0

  pub others_none : (xs : List A) → position test xs ≡ None → without_first test xs ≡ xs
  others_none xs h = (none_at xs (past xs h)).1

  pub find_some : (xs : List A) (i : ℕ) (d : A) → position test xs ≡ Some i → find test xs ≡ Some (get_or xs i d)
  find_some xs i d h = (first_some xs i d h).found

  pub others_some : (xs : List A) (i : ℕ) (d : A) → position test xs ≡ Some i → without_first test xs ≡ remove xs i
  others_some xs i d h = (first_some xs i d h).others

  pub changed_some : (f : A → A) (xs : List A) (i : ℕ) (d : A) → position test xs ≡ Some i → change_first test f xs ≡ set xs i (f (get_or xs i d))
  changed_some f xs i d h = (first_some xs i d h).changed f

  unchanged_at : (f : A → A) (xs : List A) → length xs ≤ position_or_len test xs → change_first test f xs ≡ xs
  unchanged_at f [] l = refl
  unchanged_at f (x ∷ xs) l =
      let n = position_or_len test xs in
      let P : Bool → Type 0 = λ b. suc (length xs) ≤ cond (not b) (1 + n) 0 → cond b (f x ∷ xs) (x ∷ change_first test f xs) ≡ x ∷ xs in
      let rest = unchanged_at f xs in
      elim (test x) as P [ true ↦ (λ h. absurd (omega arith)) | false ↦ (λ h. ap (λ ys. x ∷ ys) (rest (omega arith))) ] l

  pub changed_none : (f : A → A) (xs : List A) → position test xs ≡ None → change_first test f xs ≡ xs
  changed_none f xs h = unchanged_at f xs (past xs h)

pub ruleset first_changes = (changed_some, changed_none)

pub ruleset first_places = (find_none, others_none, find_some, others_some)
