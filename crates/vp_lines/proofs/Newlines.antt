-- The place of the first newline in some bytes.
use Rattle.std.proofs.Common.{◌≡◌, ◌≢◌, ℕ, zero, suc, ◌+◌, ◌≤◌, ◌<◌, ◌==◌, Bool, true, false, not, cond, ltb, List, [], ◌∷◌, length, take, drop, position, refl, ap, subst, arith, inl, inr}
use Rattle.std.specs.Prelude.{Some, None}
use Rattle.std.specs.List.{prefix_len}
use Rattle.std.proofs.lemmas.Bool.{cases_eq, eq-eqb, ne_eqb, ltb-true, ltb-false}
use Rattle.std.proofs.lemmas.List.{take_all}
use Rattle.vp_text.specs.Documents.{HasNoNewline}

abbrev before : List ℕ → ℕ
before xs = prefix_len (λ x. not (x == 10)) xs

at_once : (c : ℕ) (cs : List ℕ) → c ≡ 10 → before (c ∷ cs) ≡ 0
at_once c cs same = rw (eq-eqb c 10 same) refl

later : (c : ℕ) (cs : List ℕ) → c ≢ 10 → before (c ∷ cs) ≡ 1 + before cs
later c cs other = rw (ne_eqb c 10 other) refl

front_plain : (xs : List ℕ) (k : ℕ) → before xs ≡ k → HasNoNewline (take k xs)
front_plain xs zero e = tt
front_plain [] (suc k) e = tt
front_plain (c ∷ cs) (suc k) e = elim (cases_eq c 10) [
  | inl same ↦ absurd (omega (arith, e, at_once c cs same))
  | inr other ↦ (other, front_plain cs k (omega (arith, e, later c cs other)))
]

stands_at : (xs : List ℕ) (k : ℕ) → before xs ≡ k → k < length xs → drop k xs ≡ 10 ∷ drop (suc k) xs
stands_at [] k e lt = absurd (omega (arith, lt))
stands_at (c ∷ cs) zero e lt = elim (cases_eq c 10) [
  | inl same ↦ ap (λ x. x ∷ cs) same
  | inr other ↦ absurd (omega (arith, e, later c cs other))
]
stands_at (c ∷ cs) (suc k) e lt = elim (cases_eq c 10) [
  | inl same ↦ absurd (omega (arith, e, at_once c cs same))
  | inr other ↦ stands_at cs k (omega (arith, e, later c cs other)) (omega (arith, lt))
]

some_of : (b : Bool) (m k : ℕ) → cond b (Some m) None ≡ Some k → (b ≡ true) × (m ≡ k)
some_of true m k e = (refl, let same : m ≡ k = cc in same)
some_of false m k e = absurd (let no : None ≡ Some k = e in cc)

none_of : (b : Bool) (m : ℕ) → cond b (Some m) None ≡ None → b ≡ false
none_of true m e = absurd (let no : Some m ≡ None = e in cc)
none_of false m e = refl

pub newline_at : (xs : List ℕ) (k : ℕ) → position (λ b. b == 10) xs ≡ Some k → (k < length xs) × HasNoNewline (take k xs) × (drop k xs ≡ 10 ∷ drop (suc k) xs)
newline_at xs k e =
    let it = some_of (ltb (before xs) (length xs)) (before xs) k e in
    let lt : k < length xs = subst (λ n. n < length xs) it.1 (ltb-true (before xs) (length xs) it.0) in
    (lt, front_plain xs k it.1, stands_at xs k it.1 lt)

pub newline_none : (xs : List ℕ) → position (λ b. b == 10) xs ≡ None → HasNoNewline xs
newline_none xs e =
    let le : length xs ≤ before xs = ltb-false (before xs) (length xs) (none_of (ltb (before xs) (length xs)) (before xs) e) in
    subst HasNoNewline (take_all (before xs) xs le) (front_plain xs (before xs) refl)
