-- The start lines: they end with the names or the values, and come one after the other.
use Rattle.std.proofs.Common.{◌≡◌, ◌⊎◌, inl, inr, ℕ, List, [], ◌∷◌, length, refl, arith}
use Rattle.vp_model.specs.Texts.History.{starts_text}

pub starts_end : (names values : List (List ℕ)) → (length names ≡ 0) ⊎ (length values ≡ 0) → starts_text names values ≡ []
starts_end [] values e = refl
starts_end (n ∷ names) [] e = refl
starts_end (n ∷ names) (v ∷ values) (inl e) = absurd (omega arith)
starts_end (n ∷ names) (v ∷ values) (inr e) = absurd (omega arith)
