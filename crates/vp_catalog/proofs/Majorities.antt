-- Any two majorities of one table of weights share a holder.
use Rattle.std.proofs.Common.{◌≡◌, ◌≤◌, ℕ, suc, ◌+◌, ◌*◌, Bool, true, false, cond, ◌&&◌, ◌||◌, List, [], ◌∷◌, refl, arith, inl, inr}
use Rattle.std.specs.Prelude.{filter, sum_by}
use Rattle.std.specs.List.{list_any}
use Rattle.std.proofs.lemmas.List.Sums.{sum_by-cons}
use Rattle.std.proofs.lemmas.Bool.{false≢true, or_cases, and_parts, ltb-true}
use Rattle.std.proofs.lemmas.Bool.Decides.{nat_tests}
use Rattle.vp_model.specs.Words.{has}
use Rattle.vp_model.specs.Catalogue.{Catalogue, weight_inside, weights_of, total, inside, accessible}
use Rattle.vp_catalog.specs.Majorities.{IsMajority, SharesHolder}

abbrev all_weight : List (ℕ × ℕ) → ℕ
all_weight weights = sum_by (λ (w : ℕ × ℕ). w.1) weights

-- some holder is in both
abbrev shares : List ℕ → List ℕ → List (ℕ × ℕ) → Bool
shares members others weights = list_any (λ (w : ℕ × ℕ). has members w.0 && has others w.0) weights

all_weight-cons : (w : ℕ × ℕ) (weights : List (ℕ × ℕ)) → all_weight (w ∷ weights) ≡ w.1 + all_weight weights
all_weight-cons w weights = sum_by-cons (λ (w : ℕ × ℕ). w.1) w weights

weight-cond : (b : Bool) (w : ℕ × ℕ) (rest : List (ℕ × ℕ)) → all_weight (cond b (w ∷ rest) rest) ≡ cond b (w.1 + all_weight rest) (all_weight rest)
weight-cond true w rest = all_weight-cons w rest
weight-cond false w rest = refl

inside-cons : (members : List ℕ) (w : ℕ × ℕ) (weights : List (ℕ × ℕ)) → weight_inside members (w ∷ weights) ≡ cond (has members w.0) (w.1 + weight_inside members weights) (weight_inside members weights)
inside-cons members w weights = weight-cond (has members w.0) w (filter (λ (w : ℕ × ℕ). has members w.0) weights)

apart : (members others : List ℕ) (weights : List (ℕ × ℕ)) → shares members others weights ≡ false → weight_inside members weights + weight_inside others weights ≤ all_weight weights
apart members others [] h = omega arith
apart members others (w ∷ weights) h =
    let rest = apart members others weights in
    rw (inside-cons members w weights, inside-cons others w weights, all_weight-cons w weights) (go (has members w.0) (has others w.0) (shares members others weights) h rest)
  where
    go : (a b c : Bool) → (a && b) || c ≡ false → (c ≡ false → weight_inside members weights + weight_inside others weights ≤ all_weight weights)
        → cond a (w.1 + weight_inside members weights) (weight_inside members weights) + cond b (w.1 + weight_inside others weights) (weight_inside others weights) ≤ w.1 + all_weight weights
    go a b c h rest = grind (arith, nat_tests, h, rest)

found : (members others : List ℕ) (weights : List (ℕ × ℕ)) → shares members others weights ≡ true → SharesHolder weights members others
found members others [] h = absurd (false≢true h)
found members others (w ∷ weights) h = elim (or_cases (has members w.0 && has others w.0) (shares members others weights) h) [
  | inl here ↦ let b = and_parts (has members w.0) (has others w.0) here in record { holder = w; listed = (0, omega arith, refl); inside = b.0; among_others = b.1 }
  | inr more ↦ let r = found members others weights more in record { holder = r.holder; listed = (suc r.listed.0, omega (arith, r.listed.1), r.listed.2); inside = r.inside; among_others = r.among_others }
]

pub majorities_share : (weights : List (ℕ × ℕ)) (members others : List ℕ) → IsMajority members weights → IsMajority others weights → SharesHolder weights members others
majorities_share weights members others a b = go (shares members others weights) refl
  where
    go : (x : Bool) → shares members others weights ≡ x → SharesHolder weights members others
    go true e = found members others weights e
    go false e = absurd (omega (arith, a, b, apart members others weights e))

pub accessible_share : (c : Catalogue) (rec : ℕ) (members others : List ℕ) → accessible c rec members ≡ true → accessible c rec others ≡ true → SharesHolder (weights_of c rec) members others
accessible_share c rec members others a b =
    majorities_share (weights_of c rec) members others (ltb-true (total c rec) (2 * inside c rec members) a) (ltb-true (total c rec) (2 * inside c rec others) b)
