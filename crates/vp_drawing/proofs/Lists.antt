-- What is in a list that is made of others.
use Rattle.std.proofs.Common.{◌≡◌, ◌∙◌, ℕ, zero, suc, List, [], ◌∷◌, ◌++◌, map, refl, sym, ap, subst, ⊎_elim, inl, inr, arith}
use Rattle.std.specs.Prelude.{◌⊎◌, ◌+◌, ◌==◌, ◌||◌, Bool, true, false, length, slice_get, Option, Some, None, option_to_list}
use Rattle.std.specs.List.{Contains, cons_option, filter_map, flat_map}
use Rattle.std.proofs.lemmas.Bool.Decides.{nat_tests}
use Rattle.std.proofs.lemmas.List.Elements.{Contains-append_left, Contains-append_right, Contains-append_cases, Contains-push_cases}
use Rattle.vp_model.specs.Words.{has}

module _ {A : Type 0} where
  pub in_none : (a : A) → Contains [] a → ⊥
  in_none a h = let lt = h.1 in omega (arith, lt)

  pub in_first : (a : A) (xs : List A) → Contains (a ∷ xs) a
  in_first a xs = (0, omega arith, refl)

  pub in_rest : (x a : A) (xs : List A) → Contains xs a → Contains (x ∷ xs) a
  in_rest x a xs h = Contains-append_right (x ∷ []) xs a h

  pub in_cases : (x a : A) (xs : List A) → Contains (x ∷ xs) a → (x ≡ a) ⊎ Contains xs a
  in_cases x a xs h =
      ⊎_elim (λ here. inl (⊎_elim (λ none. absurd (in_none a none)) (λ e. e) (Contains-push_cases [] x a here))) (λ later. inr later)
      (Contains-append_cases (x ∷ []) xs a h)

  pub in_one : (x a : A) → Contains (x ∷ []) a → x ≡ a
  in_one x a h = ⊎_elim (λ e. e) (λ none. absurd (in_none a none)) (in_cases x a [] h)

  pub in_option : (o : Option A) (a : A) → Contains (option_to_list o) a → o ≡ Some a
  in_option None a h = absurd (in_none a h)
  in_option (Some x) a h = ap (λ (a : A). Some a) (in_one x a h)

  pub at_in : (xs : List A) (i : ℕ) (a : A) → slice_get xs i ≡ Some a → Contains xs a
  at_in [] i a e = cc
  at_in (x ∷ xs) zero a e = let same : x ≡ a = cc in rw same (in_first a xs)
  at_in (x ∷ xs) (suc i) a e = in_rest x a xs (at_in xs i a e)

module _ {A B : Type 0} where
  pub in_map : (f : A → B) (xs : List A) (b : B) → Contains (map f xs) b → (a : A) × Contains xs a × (f a ≡ b)
  in_map f [] b h = absurd (in_none b h)
  in_map f (x ∷ xs) b h =
      ⊎_elim (λ e. (x, in_first x xs, e)) (λ later. let it = in_map f xs b later in (it.0, in_rest x it.0 xs it.1, it.2)) (in_cases (f x) b (map f xs) h)

  pub to_map : (f : A → B) (xs : List A) (i : ℕ) (a : A) → slice_get xs i ≡ Some a → slice_get (map f xs) i ≡ Some (f a)
  to_map f [] i a e = cc
  to_map f (x ∷ xs) zero a e = let same : x ≡ a = cc in rw same refl
  to_map f (x ∷ xs) (suc i) a e = to_map f xs i a e

  pub map_in : (f : A → B) (xs : List A) (a : A) → Contains xs a → Contains (map f xs) (f a)
  map_in f [] a h = absurd (in_none a h)
  map_in f (x ∷ xs) a h = ⊎_elim (λ e. subst (Contains (f x ∷ map f xs)) (ap f e) (in_first (f x) (map f xs))) (λ later. in_rest (f x) (f a) (map f xs) (map_in f xs a later)) (in_cases x a xs h)

  pub in_flat : (f : A → List B) (xs : List A) (b : B) → Contains (flat_map f xs) b → (a : A) × Contains xs a × Contains (f a) b
  in_flat f [] b h = absurd (in_none b h)
  in_flat f (x ∷ xs) b h =
      ⊎_elim (λ here. (x, in_first x xs, here)) (λ later. let it = in_flat f xs b later in (it.0, in_rest x it.0 xs it.1, it.2))
      (Contains-append_cases (f x) (flat_map f xs) b h)

  pub flat_in : (f : A → List B) (xs : List A) (a : A) (b : B) → Contains xs a → Contains (f a) b → Contains (flat_map f xs) b
  flat_in f [] a b h k = absurd (in_none a h)
  flat_in f (x ∷ xs) a b h k =
      ⊎_elim (λ e. Contains-append_left (f x) (flat_map f xs) b (subst (λ a. Contains (f a) b) (sym e) k)) (λ later. Contains-append_right (f x) (flat_map f xs) b (flat_in f xs a b later k)) (in_cases x a xs h)

  -- what is kept of a list is the flat map of what is kept of each
  pub kept_flat : (f : A → Option B) (xs : List A) → filter_map f xs ≡ flat_map (λ x. option_to_list (f x)) xs
  kept_flat f [] = refl
  kept_flat f (x ∷ xs) = go (f x) ∙ ap (λ (l : List B). option_to_list (f x) ++ l) (kept_flat f xs)
    where
      go : (o : Option B) → cons_option o (filter_map f xs) ≡ option_to_list o ++ filter_map f xs
      go None = refl
      go (Some b) = refl

-- ---- places

pub get_left : {A : Type 0} (xs ys : List A) (i : ℕ) (a : A) → slice_get xs i ≡ Some a → slice_get (xs ++ ys) i ≡ Some a
get_left [] ys i a e = cc
get_left (x ∷ xs) ys zero a e = e
get_left (x ∷ xs) ys (suc i) a e = get_left xs ys i a e

pub get_right : {A : Type 0} (xs ys : List A) (i j : ℕ) → j ≡ length xs + i → slice_get (xs ++ ys) j ≡ slice_get ys i
get_right [] ys i j e = ap (slice_get ys) (omega (arith, e))
get_right (x ∷ xs) ys i zero e = absurd (omega (arith, e))
get_right (x ∷ xs) ys i (suc j) e = get_right xs ys i j (omega (arith, e))

-- of two places in a list the first one begins with what is before the second one, or it comes after that
pub places : {A : Type 0} (a b : List A) (x y : A) (c d : List A) → a ++ x ∷ c ≡ b ++ y ∷ d → ((rest : List A) × (b ≡ a ++ rest)) ⊎ Contains d x
places [] b x y c d e = inl (b, refl)
places (m ∷ a) [] x y c d e = let same : a ++ x ∷ c ≡ d = cc in inr (subst (λ l. Contains l x) same (Contains-append_right a (x ∷ c) x (in_first x c)))
places (m ∷ a) (n ∷ b) x y c d e =
    let first : m ≡ n = cc in
    let same : a ++ x ∷ c ≡ b ++ y ∷ d = cc in
    ⊎_elim (λ it. inl (it.0, ap (λ l. n ∷ l) it.1 ∙ ap (λ k. k ∷ (a ++ it.0)) (sym first))) (λ later. inr later) (places a b x y c d same)

-- where an element is
pub place_in : {A : Type 0} (xs : List A) (a : A) → Contains xs a → (before : List A) × (after : List A) × (xs ≡ before ++ a ∷ after)
place_in [] a h = absurd (in_none a h)
place_in (x ∷ xs) a h =
    ⊎_elim (λ e. ([], xs, ap (λ b. b ∷ xs) e)) (λ later. let it = place_in xs a later in (x ∷ it.0, it.1, ap (λ l. x ∷ l) it.2)) (in_cases x a xs h)

same_number : (n : ℕ) → (n == n) ≡ true
same_number n = grind (arith, nat_tests)

pub has_in : (xs : List ℕ) (k : ℕ) → Contains xs k → has xs k ≡ true
has_in [] k h = absurd (in_none k h)
has_in (x ∷ xs) k h = ⊎_elim (λ e. subst (λ n. has (x ∷ xs) n ≡ true) e (ap (λ b. b || has xs x) (same_number x))) (λ later. ap (λ b. (x == k) || b) (has_in xs k later) ∙ or_true (x == k)) (in_cases x k xs h)
  where
    or_true : (b : Bool) → (b || true) ≡ true
    or_true true = refl
    or_true false = refl

pub in_has : (xs : List ℕ) (k : ℕ) → has xs k ≡ true → Contains xs k
in_has [] k h = cc
in_has (x ∷ xs) k h = go (x == k) refl h (in_has xs k)
  where
    go : (b : Bool) → (x == k) ≡ b → (b || has xs k) ≡ true → (has xs k ≡ true → Contains xs k) → Contains (x ∷ xs) k
    go true e h rest = let same : x ≡ k = grind (arith, nat_tests, e) in subst (Contains (x ∷ xs)) same (in_first x xs)
    go false e h rest = in_rest x k xs (rest h)
