-- The transactions in doubt after one was removed.
use Rattle.std.proofs.Common.{◌≡◌, Bool, not, if◌then◌else◌, List, [], ◌∷◌, filter, Option, Some, None, is_some, refl, arith}
use Rattle.std.proofs.lemmas.Bool.Decides.{nat_tests}
use Rattle.vp_model.specs.Words.{without_first}

others_left : {A : Type 0} (test : A → Bool) (xs : List A) → filter (λ x. not (test x)) (without_first test xs) ≡ filter (λ x. not (test x)) xs
others_left test [] = refl
others_left test (x ∷ xs) = let rest = others_left test xs in grind (arith, nat_tests, rest)

pub none_left : {A : Type 0} (test : A → Bool) (xs ys : List A) (r : Option A) → ys ≡ (if is_some r then without_first test xs else xs) → filter (λ x. not (test x)) ys ≡ filter (λ x. not (test x)) xs
none_left test xs ys None e = rw e refl
none_left test xs ys (Some x) e = rw e (others_left test xs)
