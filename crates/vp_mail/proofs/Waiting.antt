-- The messages of a pair that wait, after one more is sent or delivered.
use Rattle.std.proofs.Common.{◌≡◌, ◌≤◌, ◌<◌, ◌+◌, ◌==◌, ◌&&◌, ◌||◌, ℕ, zero, suc, Bool, true, false, not, if◌then◌else◌, List, [], ◌∷◌, ◌++◌, length, slice_get, Option, Some, None, IfSome, refl, ap, arith}
use Rattle.std.proofs.lemmas.Bool.Decides.{nat_tests}
use Rattle.vp_model.specs.Types.{Sent}
use Rattle.vp_model.specs.Words.{has, first}
use Rattle.vp_mail.specs.Queues.{pair_of, waiting, without, AreBelow}

has_push : (D : List ℕ) (k j : ℕ) → has (D ++ k ∷ []) j ≡ (has D j || (k == j))
has_push [] k j = grind (arith, nat_tests)
has_push (d ∷ D) k j = let rest = has_push D k j in grind (arith, nat_tests, rest)

pub has_other : (D : List ℕ) (k j : ℕ) → (k == j) ≡ false → has (D ++ k ∷ []) j ≡ has D j
has_other D k j e = let p = has_push D k j in grind (arith, nat_tests, p, e)

module _ (pair : ℕ) where
  -- one more message
  pub sent_push : (D : List ℕ) (n : ℕ) (xs : List Sent) (s : Sent) → waiting pair D n (xs ++ s ∷ []) ≡ waiting pair D n xs ++ waiting pair D (n + length xs) (s ∷ [])
  sent_push D n [] s = let e : n + 0 ≡ n = omega arith in rw e refl
  sent_push D n (x ∷ xs) s =
      let e : (n + 1) + length xs ≡ n + suc (length xs) = omega arith in
      let rest : waiting pair D (n + 1) (xs ++ s ∷ []) ≡ waiting pair D (n + 1) xs ++ waiting pair D (n + suc (length xs)) (s ∷ []) = rw (← e) (sent_push D (n + 1) xs s) in
      push_cases ((pair_of x.from x.to == pair) && not (has D n)) n _ _ _ rest
    where
      push_cases : (b : Bool) (k : ℕ) (all some more : List ℕ) → all ≡ some ++ more → (if b then k ∷ all else all) ≡ (if b then k ∷ some else some) ++ more
      push_cases true k all some more e = ap (λ l. k ∷ l) e
      push_cases false k all some more e = e

  -- a message before those that wait is delivered
  fresh : (D : List ℕ) (k m : ℕ) (xs : List Sent) → k < m → waiting pair (D ++ k ∷ []) m xs ≡ waiting pair D m xs
  fresh D k m [] h = refl
  fresh D k m (s ∷ xs) h =
      let other : (k == m) ≡ false = grind (arith, nat_tests, h) in
      rw (has_other D k m other, fresh D k (m + 1) xs (omega arith)) refl

  -- a message of the pair is delivered
  pub delivered_without : (D : List ℕ) (k n : ℕ) (xs : List Sent) → waiting pair (D ++ k ∷ []) n xs ≡ without k (waiting pair D n xs)
  delivered_without D k n [] = refl
  delivered_without D k n (s ∷ xs) =
      rw (has_push D k n, delivered_without D k (n + 1) xs) (cases (pair_of s.from s.to == pair) (has D n) (k == n) (waiting pair D (n + 1) xs) (same_test k n))
    where
      same_test : (k n : ℕ) → (k == n) ≡ (n == k)
      same_test k n = grind (arith, nat_tests)

      cases : (b d e : Bool) (w : List ℕ) → e ≡ (n == k) → (if b && not (d || e) then n ∷ without k w else without k w) ≡ without k (if b && not d then n ∷ w else w)
      cases false d e w same = refl
      cases true true e w same = refl
      cases true false true w same = rw (← same) refl
      cases true false false w same = rw (← same) refl

  -- a message of another pair is delivered
  pub delivered_other : (D : List ℕ) (k n i : ℕ) (xs : List Sent) (s : Sent) → slice_get xs i ≡ Some s → k ≡ n + i → (pair_of s.from s.to == pair) ≡ false → waiting pair (D ++ k ∷ []) n xs ≡ waiting pair D n xs
  delivered_other D k n i [] s at is other = cc
  delivered_other D k n zero (x ∷ xs) s at is other =
      let here : x ≡ s = cc in
      let off : (pair_of x.from x.to == pair) ≡ false = rw here other in
      rw (off, fresh D k (n + 1) xs (omega arith)) refl
  delivered_other D k n (suc i) (x ∷ xs) s at is other =
      let apart : (k == n) ≡ false = grind (arith, nat_tests, is) in
      rw (has_other D k n apart, delivered_other D k (n + 1) i xs s at (omega arith) other) refl

  -- a weaker bound
  weaker : (n : ℕ) (o : Option ℕ) → IfSome o (λ j. n + 1 ≤ j) → IfSome o (λ j. n ≤ j)
  weaker n None h = tt
  weaker n (Some j) h = omega arith

  first_cases : (n : ℕ) (w : List ℕ) (b : Bool) → IfSome (first w) (λ j. n + 1 ≤ j) → IfSome (first (if b then n ∷ w else w)) (λ j. n ≤ j)
  first_cases n w true h = omega arith
  first_cases n w false h = weaker n (first w) h

  pub first_from : (D : List ℕ) (n : ℕ) (xs : List Sent) → IfSome (first (waiting pair D n xs)) (λ j. n ≤ j)
  first_from D n [] = tt
  first_from D n (s ∷ xs) =
      first_cases n (waiting pair D (n + 1) xs) ((pair_of s.from s.to == pair) && not (has D n)) (first_from D (n + 1) xs)

below_more : (m n : ℕ) (xs : List ℕ) → m ≤ n → AreBelow m xs → AreBelow n xs
below_more m n [] le h = tt
below_more m n (x ∷ xs) le h = (omega (arith, le, h.0), below_more m n xs le h.1)

-- the messages of a pair are among those that were sent
pub waiting_below : (pair : ℕ) (D : List ℕ) (n : ℕ) (xs : List Sent) → AreBelow (n + length xs) (waiting pair D n xs)
waiting_below pair D n [] = tt
waiting_below pair D n (s ∷ xs) = cases ((pair_of s.from s.to == pair) && not (has D n)) (below_more (n + 1 + length xs) (n + length (s ∷ xs)) (waiting pair D (n + 1) xs) (omega arith) (waiting_below pair D (n + 1) xs))
  where
    cases : (b : Bool) → AreBelow (n + length (s ∷ xs)) (waiting pair D (n + 1) xs) → AreBelow (n + length (s ∷ xs)) (if b then n ∷ waiting pair D (n + 1) xs else waiting pair D (n + 1) xs)
    cases true h = (omega arith, h)
    cases false h = h
