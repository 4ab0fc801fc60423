-- The lines of values end with the names or the values.
use Rattle.std.proofs.Common.{◌≡◌, ◌⊎◌, inl, inr, ℕ, Option, List, [], ◌∷◌, length, refl, arith}
use Rattle.vp_replay.specs.Checked.{values_text}

pub values_end : (names : List (List ℕ)) (values : List (Option (List ℕ))) → (length names ≡ 0) ⊎ (length values ≡ 0) → values_text names values ≡ []
values_end [] values e = refl
values_end (n ∷ names) [] e = refl
values_end (n ∷ names) (v ∷ values) (inl e) = absurd (omega arith)
values_end (n ∷ names) (v ∷ values) (inr e) = absurd (omega arith)
