-- Tables of weights.
use Rattle.std.specs.Prelude.{⊤, ℕ, Bool, ◌==◌, ◌<◌, ◌≤◌, List, [], ◌∷◌, Option, option_map, filter, find, length, sum_by}
use Rattle.std.specs.List.{list_any}

-- the weight of the copy at a site above the given one
pub record IsShare (above : ℕ) (share : ℕ × ℕ) : Type 0 where
  pub higher : above < share.0
  pub site_fits : share.0 ≤ 16
  pub some : 1 ≤ share.1
  pub fits : share.1 ≤ 65535

abbrev pub AreShares : ℕ → List (ℕ × ℕ) → Type 0
AreShares above [] = ⊤
AreShares above (share ∷ shares) = IsShare above share × AreShares share.0 shares

-- A table has 1 to 16 sites, ascending, each with a weight of 1 to 65535.
pub record IsTable (table : List (ℕ × ℕ)) : Type 0 where
  pub held : 1 ≤ length table
  pub few : length table ≤ 16
  pub shares_are : AreShares 0 table

-- the weight of all copies
abbrev pub weight_total : List (ℕ × ℕ) → ℕ
weight_total table = sum_by (λ share. share.1) table

-- the number is in the list
abbrev pub has : List ℕ → ℕ → Bool
has numbers n = list_any (λ m. m == n) numbers

-- the weight of the copies at the members
abbrev pub weight_inside : List ℕ → List (ℕ × ℕ) → ℕ
weight_inside members table = sum_by (λ share. share.1) (filter (λ share. has members share.0) table)

-- the value at a number, in pairs of a number and a value
abbrev pub value_at : {V : Type 0} → ℕ → List (ℕ × V) → Option V
value_at {V} n pairs = option_map (λ (p : ℕ × V). p.1) (find (λ (p : ℕ × V). p.0 == n) pairs)
