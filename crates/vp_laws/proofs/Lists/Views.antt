-- The order of views, as two facts, and what follows from its tests.
use Rattle.std.proofs.Common.{◌≡◌, ◌≢◌, ◌⊎◌, ℕ, ◌≤◌, ◌<◌, true, false, List, [], ◌∷◌, arith, inl, inr, refl, ⊎_elim, cond, Bool}
use Rattle.std.specs.Prelude.{Option, Some, None, nat_eq, nat_lt}
use Rattle.std.proofs.lemmas.Bool.Decides.{nat_tests}
use Rattle.vp_model.specs.Types.{ViewId}
use Rattle.vp_model.specs.Words.{same_view, view_before, is_view, put_number, opening}
use Rattle.vp_laws.proofs.Lists.Members.{Has, has_none, has_first, has_more, has_cons, has_one_is}

pub record AtMost (a b : ViewId) : Type 0 where
  pub number : a.number ≤ b.number
  pub site : b.number ≤ a.number → a.site ≤ b.site

pub record Precedes (a b : ViewId) : Type 0 where
  pub number : a.number ≤ b.number
  pub site : b.number ≤ a.number → a.site < b.site

pub AtMost-refl : (a : ViewId) → AtMost a a
AtMost-refl a = omega arith

pub AtMost-trans : (a b c : ViewId) → AtMost a b → AtMost b c → AtMost a c
AtMost-trans a b c p q = omega arith

pub AtMost-same : (a b : ViewId) → a ≡ b → AtMost a b
AtMost-same a b e = rw e (AtMost-refl b)

pub AtMost-along : {a b c d : ViewId} → AtMost a b → c ≡ a → d ≡ b → AtMost c d
AtMost-along h p q = rw (p, q) h

pub Precedes-at_most : (a b : ViewId) → Precedes a b → AtMost a b
Precedes-at_most a b p = omega arith

pub not_both : (a b : ViewId) → Precedes a b → AtMost b a → ⊥
not_both a b p q = grind arith

pub from_before : (a b : ViewId) → view_before a b ≡ true → Precedes a b
from_before a b e = grind (arith, nat_tests)

pub not_before : (a b : ViewId) → AtMost b a → view_before a b ≡ false
not_before a b p = grind (arith, nat_tests, p)

pub above_from : (a b : ViewId) → same_view a b ≡ false → view_before a b ≡ false → Precedes b a
above_from a b e f = grind (arith, nat_tests, e, f)

pub same_is : (a b : ViewId) → same_view a b ≡ true → a ≡ b
same_is a b e = grind (arith, nat_tests)

pub same_from : (a b : ViewId) → a ≡ b → same_view a b ≡ true
same_from a b e = grind (arith, nat_tests)

pub is_view_is : (o : Option ViewId) (i : ViewId) → is_view o i ≡ true → o ≡ Some i
is_view_is None i e = cc
is_view_is (Some j) i e = let h = same_is j i e in cc

pub not_itself : (a : ViewId) → Precedes a a → ⊥
not_itself a p = grind arith

pub opening_least : (a : ViewId) → AtMost opening a
opening_least a = omega arith

pub same_site : (a s : ℕ) → (a ≡ s) ⊎ (a ≢ s)
same_site a s = grind arith

pub put_keeps : (n : ℕ) (ns : List ℕ) (a : ℕ) → Has ns a → Has (put_number n ns) a
put_keeps n [] a h = absurd (has_none a h)
put_keeps n (m ∷ ns) a h = go (nat_eq n m) refl (nat_lt n m) (λ q. put_keeps n ns a q)
  where
    go : (same : Bool) → nat_eq n m ≡ same → (less : Bool) → (Has ns a → Has (put_number n ns) a) → Has (cond same (n ∷ ns) (cond less (n ∷ m ∷ ns) (m ∷ put_number n ns))) a
    go true e less rest = let q : n ≡ m = grind (arith, nat_tests, e) in rw q h
    go false e true rest = has_more n (m ∷ ns) a h
    go false e false rest = ⊎_elim (λ (one : m ≡ a). rw one (has_first a _)) (λ more. has_more m _ a (rest more)) (has_cons m ns a h)

pub put_only : (n : ℕ) (ns : List ℕ) (a : ℕ) → Has (put_number n ns) a → Has ns a ⊎ (n ≡ a)
put_only n [] a h = inr (has_one_is n a h)
put_only n (m ∷ ns) a h = go (nat_eq n m) (nat_lt n m) h (λ q. put_only n ns a q)
  where
    go : (same less : Bool) → Has (cond same (n ∷ ns) (cond less (n ∷ m ∷ ns) (m ∷ put_number n ns))) a → (Has (put_number n ns) a → Has ns a ⊎ (n ≡ a)) → Has (m ∷ ns) a ⊎ (n ≡ a)
    go true less q rest = ⊎_elim (λ one. inr one) (λ more. inl (has_more m ns a more)) (has_cons n ns a q)
    go false true q rest = ⊎_elim (λ one. inr one) (λ more. inl more) (has_cons n (m ∷ ns) a q)
    go false false q rest =
        ⊎_elim (λ (one : m ≡ a). inl (rw one (has_first a ns))) (λ more. ⊎_elim (λ old. inl (has_more m ns a old)) (λ new. inr new) (rest more)) (has_cons m (put_number n ns) a q)

pub three_ways : (a b : ViewId) → Precedes a b ⊎ ((a ≡ b) ⊎ Precedes b a)
three_ways a b = go (same_view a b) (view_before a b) refl refl
  where
    go : (c e : Bool) → same_view a b ≡ c → view_before a b ≡ e → Precedes a b ⊎ ((a ≡ b) ⊎ Precedes b a)
    go true e p q = inr (inl (same_is a b p))
    go false true p q = inl (from_before a b q)
    go false false p q = inr (inr (above_from a b p q))
