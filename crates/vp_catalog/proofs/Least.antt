-- The first item that is kept.
use Rattle.std.proofs.Common.{◌≡◌, Bool, true, false, List, [], ◌∷◌, filter, refl}
use Rattle.std.specs.Prelude.{find}
use Rattle.vp_model.specs.Words.{first}

module _ {X : Type 0} (test : X → Bool) where
  pub first_kept : (xs : List X) → first (filter test xs) ≡ find test xs
  first_kept [] = refl
  first_kept (x ∷ xs) = go (test x) refl (first_kept xs)
    where
      go : (b : Bool) → test x ≡ b → first (filter test xs) ≡ find test xs → first (filter test (x ∷ xs)) ≡ find test (x ∷ xs)
      go true q rest = rw q refl
      go false q rest = rw q rest

-- Where there are no members, none is kept.
pub none_kept : {X : Type 0} (xs : List X) → filter (λ _. false) xs ≡ []
none_kept [] = refl
none_kept (x ∷ xs) = none_kept xs
