-- Pairs whose numbers ascend, after a change at one number.
use Rattle.std.proofs.Common.{◌≡◌, ℕ, List, [], ◌∷◌, get_or, set, Some, None, refl, sym, arith}
use Rattle.std.specs.Prelude.{◌==◌}
use Rattle.std.specs.List.{position}
use Rattle.std.specs.List.Sorted.{IsStrictlyIncreasing}
use Rattle.std.proofs.lemmas.Bool.{eqb-true}
use Rattle.std.proofs.lemmas.Bool.Decides.{nat_tests}
use Rattle.std.proofs.lemmas.List.Quantifiers.{position-Some}
use Rattle.vp_model.specs.Words.{keys, change_at}
use Rattle.vp_lists.proofs.Halving.{none_passes, one_changed, others_differ}

keys_kept : {V : Type 0} (n : ℕ) (f : V → V) (pairs : List (ℕ × V)) → keys (change_at n f pairs) ≡ keys pairs
keys_kept n f [] = refl
keys_kept n f (p ∷ pairs) = let rest = keys_kept n f pairs in grind (arith, nat_tests, rest)

module _ {V : Type 0} (pairs : List (ℕ × V)) (ascend : IsStrictlyIncreasing (keys pairs)) (n : ℕ) (f : V → V) where
  pub changed : (at : ℕ) (d : ℕ × V) → position (λ p. p.0 == n) pairs ≡ Some at → set pairs at ((get_or pairs at d).0, f (get_or pairs at d).1) ≡ change_at n f pairs
  changed at d there =
      let place = position-Some (λ p. p.0 == n) pairs at d there in
      let here : (get_or pairs at d).0 ≡ n = eqb-true _ _ place.1 in
      rw here (sym (one_changed (λ p. p.0 == n) (λ p. (n, f p.1)) pairs at d place.0 place.1 (others_differ (λ (p : ℕ × V). p.0) pairs ascend n at d place.0 here)))

  pub changed-nowhere : position (λ p. p.0 == n) pairs ≡ None → pairs ≡ change_at n f pairs
  changed-nowhere there = sym (none_passes (λ p. p.0 == n) (λ p. (n, f p.1)) pairs there)

  pub still_ascend : (at : ℕ) (d : ℕ × V) → position (λ p. p.0 == n) pairs ≡ Some at → IsStrictlyIncreasing (keys (set pairs at ((get_or pairs at d).0, f (get_or pairs at d).1)))
  still_ascend at d there = rw (changed at d there, keys_kept n f pairs) ascend
