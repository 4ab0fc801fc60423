-- What may be in a list after a change: an ordered one, one of pairs, one that keeps its last items; and an empty one has nothing.
use Rattle.std.proofs.Common.{◌≡◌, ◌⊎◌, ap, sym, ℕ, Bool, true, false, cond, List, [], ◌∷◌, map, length, refl, inl, inr, ⊎_elim, ◌+◌, ◌++◌, length-append}
use Rattle.std.specs.Prelude.{Option, Some, None, ◌==◌, ◌&&◌, find, option_map, nat_lt, drop}
use Rattle.std.specs.List.{list_all}
use Rattle.vp_model.specs.Types.{Change, ViewId, Stored}
use Rattle.vp_model.specs.Words.{without_first, change_first, put, change_at, replace_at, value_at, view_before, at_most, is_empty}
use Rattle.vp_model.specs.Durable.{changed, with_writes}
use Rattle.vp_model.specs.Refresh.{newer, newest}
use Rattle.vp_laws.proofs.Lists.Members.{Has, has_none, has_one_is, has_first, has_more, has_cons, find_has, map_has}
use Rattle.vp_laws.proofs.Lists.Views.{AtMost}

pub put_has : {A : Type 0} (same before : A → A → Bool) (x : A) (ys : List A) (a : A) → Has (put same before x ys) a → (a ≡ x) ⊎ Has ys a
put_has same before x [] a h = inl (sym (has_one_is x a h))
put_has same before x (y ∷ ys) a h = go (same x y) (before x y) h (λ q. put_has same before x ys a q)
  where
    go : (s b : Bool) → Has (cond s (x ∷ ys) (cond b (x ∷ y ∷ ys) (y ∷ put same before x ys))) a → (Has (put same before x ys) a → (a ≡ x) ⊎ Has ys a) → (a ≡ x) ⊎ Has (y ∷ ys) a
    go true b q rest = ⊎_elim (λ one. inl (sym one)) (λ more. inr (has_more y ys a more)) (has_cons x ys a q)
    go false true q rest = ⊎_elim (λ one. inl (sym one)) (λ more. inr more) (has_cons x (y ∷ ys) a q)
    go false false q rest = ⊎_elim (λ (one : y ≡ a). inr (rw one (has_first a ys))) (λ more. ⊎_elim (λ new. inl new) (λ old. inr (has_more y ys a old)) (rest more)) (has_cons y (put same before x ys) a q)

replaced : {K : Type 0} (b : Bool) (n : ℕ) (v : K) (p a : ℕ × K) (pairs : List (ℕ × K)) → Has pairs p → cond b (n, v) p ≡ a → (a.1 ≡ v) ⊎ Has pairs a
replaced {K} true n v p a pairs h e = inl (ap (λ (z : ℕ × K). z.1) (sym e))
replaced {K} false n v p a pairs h e = inr (rw (← e) h)

pub replace_has : {K : Type 0} (n : ℕ) (v : K) (pairs : List (ℕ × K)) (a : ℕ × K) → Has (replace_at n v pairs) a → (a.1 ≡ v) ⊎ Has pairs a
replace_has {K} n v pairs a h = let r = map_has (λ (p : ℕ × K). cond (p.0 == n) (n, v) p) pairs a h in replaced (r.0.0 == n) n v r.0 a pairs r.1 r.2

-- what stands after a change of the value at a number is changed, or was there
pub change_has : {K : Type 0} (n : ℕ) (f : K → K) (pairs : List (ℕ × K)) (a : ℕ × K) → Has (change_at n f pairs) a → ((v : K) × (a.1 ≡ f v)) ⊎ Has pairs a
change_has {K} n f pairs a h = let r = map_has (λ (p : ℕ × K). cond (p.0 == n) (n, f p.1) p) pairs a h in go (r.0.0 == n) r.0 r.1 r.2
  where
    go : (b : Bool) (p : ℕ × K) → Has pairs p → cond b (n, f p.1) p ≡ a → ((v : K) × (a.1 ≡ f v)) ⊎ Has pairs a
    go true p q e = inl (p.1, ap (λ (z : ℕ × K). z.1) (sym e))
    go false p q e = inr (rw (← e) q)

pub writes_has : (date : ViewId) (writes : List (ℕ × Change)) (copies : List (ℕ × Stored)) (a : ℕ × Stored) → Has (with_writes date writes copies) a → (a.1.date ≡ date) ⊎ Has copies a
writes_has date [] copies a h = inr h
writes_has date (w ∷ writes) copies a h =
    ⊎_elim (λ q. inl q) (λ old. ⊎_elim (λ (q : (v : Stored) × (a.1 ≡ changed date w.1 v)). inl (ap (λ (s : Stored). s.date) q.1)) (λ q. inr q) (change_has w.0 (changed date w.1) copies a old))
    (writes_has date writes (change_at w.0 (changed date w.1) copies) a h)

pub value_has : {K : Type 0} (n : ℕ) (pairs : List (ℕ × K)) (v : K) → value_at n pairs ≡ Some v → (p : ℕ × K) × Has pairs p × (p.1 ≡ v)
value_has {K} n pairs v e = go (find (λ (p : ℕ × K). p.0 == n) pairs) refl e
  where
    go : (o : Option (ℕ × K)) → find (λ (p : ℕ × K). p.0 == n) pairs ≡ o → option_map (λ (p : ℕ × K). p.1) o ≡ Some v → (p : ℕ × K) × Has pairs p × (p.1 ≡ v)
    go None f q = cc
    go (Some p) f q = (p, find_has (λ (p : ℕ × K). p.0 == n) pairs p f, cc)

pub newest_at_most : (top : ViewId) (own : Stored) (answers : List (ℕ × Stored)) → AtMost own.date top → ((a : ℕ × Stored) → Has answers a → AtMost a.1.date top) → AtMost (newest own answers).date top
newest_at_most top own [] h all = h
newest_at_most top own (a ∷ answers) h all = newest_at_most top (newer own a.1) answers (go (view_before own.date a.1.date)) (λ b q. all b (has_more a answers b q))
  where
    go : (b : Bool) → AtMost (cond b a.1 own).date top
    go true = all a (has_first a answers)
    go false = h

pub without_first_has : {X : Type 0} (test : X → Bool) (xs : List X) (a : X) → Has (without_first test xs) a → Has xs a
without_first_has test [] a h = h
without_first_has test (x ∷ xs) a h = go (test x) h (λ q. without_first_has test xs a q)
  where
    go : (b : Bool) → Has (cond b xs (x ∷ without_first test xs)) a → (Has (without_first test xs) a → Has xs a) → Has (x ∷ xs) a
    go true q rest = has_more x xs a q
    go false q rest = ⊎_elim (λ (one : x ≡ a). rw one (has_first a xs)) (λ more. has_more x xs a (rest more)) (has_cons x (without_first test xs) a q)

pub change_first_has : {X : Type 0} (test : X → Bool) (y : X) (xs : List X) (a : X) → Has (change_first test (λ x. y) xs) a → (a ≡ y) ⊎ Has xs a
change_first_has test y [] a h = inr h
change_first_has test y (x ∷ xs) a h = go (test x) h (λ q. change_first_has test y xs a q)
  where
    go : (b : Bool) → Has (cond b (y ∷ xs) (x ∷ change_first test (λ x. y) xs)) a → (Has (change_first test (λ x. y) xs) a → (a ≡ y) ⊎ Has xs a) → (a ≡ y) ⊎ Has (x ∷ xs) a
    go true q rest = ⊎_elim (λ one. inl (sym one)) (λ more. inr (has_more x xs a more)) (has_cons y xs a q)
    go false q rest = ⊎_elim (λ (one : x ≡ a). inr (rw one (has_first a xs))) (λ more. ⊎_elim (λ new. inl new) (λ old. inr (has_more x xs a old)) (rest more)) (has_cons x (change_first test (λ x. y) xs) a q)

-- what is put in is there, and so is each old item of another key
pub put_new : {A : Type 0} (same before : A → A → Bool) (x : A) (ys : List A) → Has (put same before x ys) x
put_new same before x [] = has_first x []
put_new same before x (y ∷ ys) = go (same x y) (before x y) (put_new same before x ys)
  where
    go : (s b : Bool) → Has (put same before x ys) x → Has (cond s (x ∷ ys) (cond b (x ∷ y ∷ ys) (y ∷ put same before x ys))) x
    go true b rest = has_first x ys
    go false true rest = has_first x (y ∷ ys)
    go false false rest = has_more y (put same before x ys) x rest

pub put_old : {A : Type 0} (same before : A → A → Bool) (x : A) (ys : List A) (a : A) → Has ys a → same x a ≡ false → Has (put same before x ys) a
put_old same before x [] a h e = absurd (has_none a h)
put_old same before x (y ∷ ys) a h e = go (same x y) refl (before x y) (λ q. put_old same before x ys a q e)
  where
    go : (s : Bool) → same x y ≡ s → (b : Bool) → (Has ys a → Has (put same before x ys) a) → Has (cond s (x ∷ ys) (cond b (x ∷ y ∷ ys) (y ∷ put same before x ys))) a
    go true q b rest = ⊎_elim (λ (one : y ≡ a). absurd (let z : same x a ≡ true = rw (← one) q in cc)) (λ more. has_more x ys a more) (has_cons y ys a h)
    go false q true rest = has_more x (y ∷ ys) a h
    go false q false rest = ⊎_elim (λ (one : y ≡ a). rw one (has_first a _)) (λ more. has_more y (put same before x ys) a (rest more)) (has_cons y ys a h)

-- what a map holds
pub mapped_has : {X Y : Type 0} (f : X → Y) (xs : List X) (x : X) → Has xs x → Has (map f xs) (f x)
mapped_has f [] x h = absurd (has_none x h)
mapped_has f (y ∷ xs) x h = ⊎_elim (λ (one : y ≡ x). rw (ap f (sym one)) (has_first (f y) (map f xs))) (λ more. has_more (f y) (map f xs) (f x) (mapped_has f xs x more)) (has_cons y xs x h)

pub all_from : {X : Type 0} (test : X → Bool) (xs : List X) → ((x : X) → Has xs x → test x ≡ true) → list_all test xs ≡ true
all_from test [] h = refl
all_from test (x ∷ xs) h = go (test x) (list_all test xs) (h x (has_first x xs)) (all_from test xs (λ y q. h y (has_more x xs y q)))
  where
    go : (a b : Bool) → a ≡ true → b ≡ true → (a && b) ≡ true
    go a b p q = rw (p, q) refl

-- a list that keeps its last items, and an empty one
pub at_most_has : {X : Type 0} (n : ℕ) (xs : List X) (a : X) → Has (at_most n xs) a → Has xs a
at_most_has n xs a h = go (nat_lt n (length xs)) h
  where
    dropped : {X : Type 0} (xs : List X) (a : X) → Has (drop 1 xs) a → Has xs a
    dropped [] a h = h
    dropped (x ∷ xs) a h = has_more x xs a h

    go : (b : Bool) → Has (cond b (drop 1 xs) xs) a → Has xs a
    go true q = dropped xs a q
    go false q = q

pub is_none : {X : Type 0} (xs : List X) → is_empty xs ≡ true → xs ≡ []
is_none [] e = refl
is_none (x ∷ xs) e = cc

pub empty_not : (xs : List ℕ) (q : ℕ) → is_empty xs ≡ true → Has xs q → ⊥
empty_not [] q e h = has_none q h
empty_not (x ∷ xs) q e h = cc

pub longer : {X : Type 0} (xs : List X) (x : X) → length (xs ++ x ∷ []) ≡ length xs + 1
longer xs x = length-append xs (x ∷ [])

pub some_first : {X : Type 0} (xs : List X) → is_empty xs ≡ false → (x : X) × Has xs x
some_first [] e = cc
some_first (x ∷ xs) e = (x, has_first x xs)

pub some_not_empty : {X : Type 0} (xs : List X) (x : X) → Has xs x → is_empty xs ≡ false
some_not_empty [] x h = absurd (has_none x h)
some_not_empty (y ∷ xs) x h = refl
