-- What two majorities of one table of weights have in common.
use Rattle.std.specs.Prelude.{◌≡◌, ℕ, ◌*◌, ◌<◌, List, true, sum_by}
use Rattle.std.specs.List.{Contains}
use Rattle.vp_model.specs.Words.{has}
use Rattle.vp_model.specs.Catalogue.{weight_inside}

-- More than half of the weight of all copies is at the members. The table has pairs of a holder and the weight of its copy.
abbrev pub IsMajority : List ℕ → List (ℕ × ℕ) → Type 0
IsMajority members weights = sum_by (λ w. w.1) weights < 2 * weight_inside members weights

-- A holder in the table is one of the members, and also one of the others.
pub record SharesHolder (weights : List (ℕ × ℕ)) (members others : List ℕ) : Type 0 where
  pub holder : ℕ × ℕ
  pub listed : Contains weights holder
  pub inside : has members holder.0 ≡ true
  pub among_others : has others holder.0 ≡ true
