-- Which of several copies is the newest.
use Rattle.std.specs.Prelude.{ℕ, ◌≡◌, ◌<◌, ◌≤◌, true, false, List, Some}
use Rattle.std.specs.List.{All, AllPairs, Contains}
use Rattle.vp_model.specs.Types.{Stored, Refreshing}
use Rattle.vp_model.specs.Words.{same_view, view_before}
use Rattle.vp_model.specs.Refresh.{refreshing_of}

-- the answers ascend by site
abbrev pub Ascends : List (ℕ × Stored) → Type 0
Ascends answers = AllPairs (λ (a b : ℕ × Stored). a.0 < b.0) answers

-- the copy is the answer of the lowest site among those with its date
pub record IsLeastAnswer (answers : List (ℕ × Stored)) (copy : Stored) : Type 0 where
  pub site : ℕ
  pub answered : Contains answers (site, copy)
  pub least : All (λ (a : ℕ × Stored). same_view a.1.date copy.date ≡ true → site ≤ a.0) answers

-- no copy is newer; the own one is taken where it is as new, and else the answer of the lowest site
pub record IsNewest (own : Stored) (answers : List (ℕ × Stored)) (copy : Stored) : Type 0 where
  pub own_is_older : view_before copy.date own.date ≡ false
  pub none_is_newer : All (λ (a : ℕ × Stored). view_before copy.date a.1.date ≡ false) answers
  pub own_on_a_tie : same_view own.date copy.date ≡ true → copy ≡ own
  pub else_an_answer : same_view own.date copy.date ≡ false → IsLeastAnswer answers copy

-- the copy is the newest of the own one and the answers for the record
pub record IsNewestIn (rec : ℕ) (own : Stored) (refresh : List Refreshing) (copy : Stored) : Type 0 where
  pub refreshing : Refreshing
  pub found : refreshing_of rec refresh ≡ Some refreshing
  pub newest : IsNewest own refreshing.answers copy
