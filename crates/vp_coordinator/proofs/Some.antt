-- Where an item passes a test, the filtered list isn't empty.
use Rattle.std.proofs.Common.{◌≡◌, Bool, not, filter, List, [], ◌∷◌, refl, arith}
use Rattle.std.proofs.lemmas.Bool.Decides.{nat_tests}
use Rattle.std.specs.List.{list_any}
use Rattle.vp_model.specs.Words.{is_empty}

pub some_is_left : {A : Type 0} (test : A → Bool) (xs : List A) → not (is_empty (filter test xs)) ≡ list_any test xs
some_is_left test [] = refl
some_is_left test (x ∷ xs) = let rest = some_is_left test xs in grind (arith, nat_tests, rest)
