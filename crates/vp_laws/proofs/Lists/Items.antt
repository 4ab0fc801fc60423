-- What holds of each item of a list, and in which order the items are, after a change.
use Rattle.std.proofs.Common.{◌≡◌, refl, ⊎_elim, ℕ, Bool, true, false, cond, List, [], ◌∷◌, ◌++◌, map, length}
use Rattle.std.specs.Prelude.{filter, drop, nat_lt, Option, Some, None, is_some}
use Rattle.std.specs.List.{AllByRecursion}
use Rattle.vp_model.specs.Words.{put, change_first, without_first, at_most}
use Rattle.vp_laws.specs.Shapes.{Ascends}
use Rattle.vp_laws.proofs.Lists.Members.{Has, has_none, has_cons}
use Rattle.vp_laws.proofs.Lists.Keeps.{by_test}
use Rattle.vp_text.proofs.Items.{all_each}

-- what holds no item is empty
pub none_of : {X : Type 0} (o : Option X) → is_some o ≡ false → o ≡ None
none_of None e = refl
none_of (Some x) e = absurd cc

module _ {X : Type 0} (P : X → Type 0) where
  pub all_at : (xs : List X) → AllByRecursion P xs → (x : X) → Has xs x → P x
  all_at [] h x e = absurd (has_none x e)
  all_at (y ∷ ys) h x e = ⊎_elim (λ (same : y ≡ x). rw (← same) h.0) (λ more. all_at ys h.1 x more) (has_cons y ys x e)

  pub all_append : (xs ys : List X) → AllByRecursion P xs → AllByRecursion P ys → AllByRecursion P (xs ++ ys)
  all_append [] ys h k = k
  all_append (x ∷ xs) ys h k = (h.0, all_append xs ys h.1 k)

  pub all_and_one : (xs : List X) (x : X) → AllByRecursion P xs → P x → AllByRecursion P (xs ++ x ∷ [])
  all_and_one xs x h k = all_append xs (x ∷ []) h (k, tt)

  pub all_filter : (test : X → Bool) (xs : List X) → AllByRecursion P xs → AllByRecursion P (filter test xs)
  all_filter test [] h = tt
  all_filter test (x ∷ xs) h = by_test (AllByRecursion P) (test x) (x ∷ filter test xs) (filter test xs) (λ e. (h.0, all_filter test xs h.1)) (λ e. all_filter test xs h.1)

  pub all_put : (same before : X → X → Bool) (x : X) (ys : List X) → P x → AllByRecursion P ys → AllByRecursion P (put same before x ys)
  all_put same before x [] p h = (p, tt)
  all_put same before x (y ∷ ys) p h =
      by_test (AllByRecursion P) (same x y) (x ∷ ys) (cond (before x y) (x ∷ y ∷ ys) (y ∷ put same before x ys)) (λ e. (p, h.1))
      (λ e. by_test (AllByRecursion P) (before x y) (x ∷ y ∷ ys) (y ∷ put same before x ys) (λ f. (p, h)) (λ f. (h.0, all_put same before x ys p h.1)))

  pub all_change : (test : X → Bool) (x : X) (ys : List X) → P x → AllByRecursion P ys → AllByRecursion P (change_first test (λ u. x) ys)
  all_change test x [] p h = tt
  all_change test x (y ∷ ys) p h = by_test (AllByRecursion P) (test y) (x ∷ ys) (y ∷ change_first test (λ u. x) ys) (λ e. (p, h.1)) (λ e. (h.0, all_change test x ys p h.1))

  pub all_without : (test : X → Bool) (ys : List X) → AllByRecursion P ys → AllByRecursion P (without_first test ys)
  all_without test [] h = tt
  all_without test (y ∷ ys) h = by_test (AllByRecursion P) (test y) ys (y ∷ without_first test ys) (λ e. h.1) (λ e. (h.0, all_without test ys h.1))

  all_drop : (ys : List X) → AllByRecursion P ys → AllByRecursion P (drop 1 ys)
  all_drop [] h = tt
  all_drop (y ∷ ys) h = h.1

  pub all_most : (n : ℕ) (ys : List X) → AllByRecursion P ys → AllByRecursion P (at_most n ys)
  all_most n ys h = by_test (AllByRecursion P) (nat_lt n (length ys)) (drop 1 ys) ys (λ e. all_drop ys h) (λ e. h)

pub all_map : {X Y : Type 0} (P : X → Type 0) (Q : Y → Type 0) (f : X → Y) → ((x : X) → P x → Q (f x)) → (xs : List X) → AllByRecursion P xs → AllByRecursion Q (map f xs)
all_map P Q f each [] h = tt
all_map P Q f each (x ∷ xs) h = (each x h.0, all_map P Q f each xs h.1)

module _ {X : Type 0} (same before : X → X → Bool)
    (alike : (x y z : X) → same x y ≡ true → before y z ≡ true → before x z ≡ true)
    (onward : (x y z : X) → before x y ≡ true → before y z ≡ true → before x z ≡ true)
    (total : (x y : X) → same x y ≡ false → before x y ≡ false → before y x ≡ true) where
  pub ascends_put : (x : X) (ys : List X) → Ascends before ys → Ascends before (put same before x ys)
  ascends_put x [] h = (tt, tt)
  ascends_put x (y ∷ ys) h =
      by_test (Ascends before) (same x y) (x ∷ ys) (cond (before x y) (x ∷ y ∷ ys) (y ∷ put same before x ys))
      (λ e. (all_each (λ z. before y z ≡ true) (λ z. before x z ≡ true) (λ z b. alike x y z e b) ys h.0, h.1))
      (λ e. by_test (Ascends before) (before x y) (x ∷ y ∷ ys) (y ∷ put same before x ys)
      (λ f. ((f, all_each (λ z. before y z ≡ true) (λ z. before x z ≡ true) (λ z b. onward x y z f b) ys h.0), h))
      (λ f. (all_put (λ z. before y z ≡ true) same before x ys (total x y e f) h.0, ascends_put x ys h.1)))

pub ascends_filter : {X : Type 0} (before : X → X → Bool) (test : X → Bool) (xs : List X) → Ascends before xs → Ascends before (filter test xs)
ascends_filter before test [] h = tt
ascends_filter before test (x ∷ xs) h = by_test (Ascends before) (test x) (x ∷ filter test xs) (filter test xs) (λ e. (all_filter (λ y. before x y ≡ true) test xs h.0, ascends_filter before test xs h.1)) (λ e. ascends_filter before test xs h.1)

-- a change that leaves the keys leaves the order
pub ascends_map : {X : Type 0} (before : X → X → Bool) (f : X → X) → ((x y : X) → before x y ≡ true → before (f x) (f y) ≡ true) → (xs : List X) → Ascends before xs → Ascends before (map f xs)
ascends_map before f each [] h = tt
ascends_map before f each (x ∷ xs) h = (all_map (λ y. before x y ≡ true) (λ y. before (f x) y ≡ true) f (λ y b. each x y b) xs h.0, ascends_map before f each xs h.1)
