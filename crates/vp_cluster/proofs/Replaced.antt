-- A list with another item at one index.
use Rattle.std.proofs.Common.{◌≡◌, ℕ, ◌<◌, suc, zero, cond, ap, Bool, true, false, List, [], ◌∷◌, length, get_or, set, Some, refl, arith, map}
use Rattle.std.specs.List.{AllByRecursion, find, position}
use Rattle.std.proofs.lemmas.List.Quantifiers.{position-Some}

module _ {A : Type 0} (d : A) where
  -- it is found where the item before it was
  found_same : (test : A → Bool) (y : A) (xs : List A) (i : ℕ) → i < length xs → test (get_or xs i d) ≡ true → test y ≡ true → ((k : ℕ) → k < i → test (get_or xs k d) ≡ false) → find test (set xs i y) ≡ Some y
  found_same test y [] i l h t before = absurd (omega arith)
  found_same test y (x ∷ xs) zero l h t before = rw t refl
  found_same test y (x ∷ xs) (suc i) l h t before =
      let here : test x ≡ false = before 0 (omega arith) in
      rw here (found_same test y xs i (omega arith) h t (λ k b. before (suc k) (omega arith)))

  pub finds_new : (test : A → Bool) (y : A) (xs : List A) (i : ℕ) → position test xs ≡ Some i → test y ≡ true → find test (set xs i y) ≡ Some y
  finds_new test y xs i h t = let p = position-Some test xs i d h in found_same test y xs i p.0 p.1 t p.2

  -- what passes another test is found as before
  pub finds_others : (test : A → Bool) (y : A) (xs : List A) (i : ℕ) → i < length xs → test (get_or xs i d) ≡ false → test y ≡ false → find test (set xs i y) ≡ find test xs
  finds_others test y [] i l h t = refl
  finds_others test y (x ∷ xs) zero l h t = rw (h, t) refl
  finds_others test y (x ∷ xs) (suc i) l h t = ap (λ rest. cond (test x) (Some x) rest) (finds_others test y xs i (omega arith) h t)

  pub maps_same : {B : Type 0} (f : A → B) (y : A) (xs : List A) (i : ℕ) → i < length xs → f y ≡ f (get_or xs i d) → map f (set xs i y) ≡ map f xs
  maps_same f y [] i l e = refl
  maps_same f y (x ∷ xs) zero l e = ap (λ z. z ∷ map f xs) e
  maps_same f y (x ∷ xs) (suc i) l e = ap (λ rest. f x ∷ rest) (maps_same f y xs i (omega arith) e)

  pub all_set : (P : A → Type 0) (y : A) (xs : List A) (i : ℕ) → P y → AllByRecursion P xs → AllByRecursion P (set xs i y)
  all_set P y [] i p h = tt
  all_set P y (x ∷ xs) zero p h = (p, h.1)
  all_set P y (x ∷ xs) (suc i) p h = (h.0, all_set P y xs i p h.1)
