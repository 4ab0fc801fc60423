-- At which end an object's count of failures rises.
use Rattle.std.specs.Prelude.{◌≡◌, ℕ, ◌≤◌}
use Rattle.vp_outside.specs.Causes.{Rose}

-- The count rose at this end, and at any other it is as it was.
pub record RisesAt {E : Type 0} (at end : E) (before now : ℕ) : Type 0 where
  pub later : before ≤ now
  pub rose : end ≡ at → Rose before now
  pub same : (end ≡ at → ⊥) → now ≡ before
