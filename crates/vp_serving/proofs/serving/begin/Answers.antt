use Rattle.std.proofs.Common.{◌≡◌, ◌∙◌, ℕ, Bool, true, false, List, [], ◌∷◌, ◌==◌, refl, sym, Some, None}
use Rattle.vp_model.specs.Words.{has, keys, value_at}
use Rattle.vp_serving.proofs.serving.begin.Goals as goal

-- a number among the keys has a value
has_value : (n : ℕ) (pairs : List (ℕ × ℕ)) → has (keys pairs) n ≡ true → value_at n pairs ≡ None → ⊥
has_value n [] h none = absurd cc
has_value n (p ∷ pairs) h none = go (p.0 == n) refl (has_value n pairs)
  where
    go : (same : Bool) → (p.0 == n) ≡ same → (has (keys pairs) n ≡ true → value_at n pairs ≡ None → ⊥) → ⊥
    go true e more = let no : Some p.1 ≡ None = rw e at none in absurd cc
    go false e more = more (rw e at h) (rw e at none)

pub unreachable-requires : goal.unreachable-requires
unreachable-requires g c = has_value c.args.id c.args.catalog.now.sites c.requires.id (sym c.port.ensures ∙ c.in_default.is)
