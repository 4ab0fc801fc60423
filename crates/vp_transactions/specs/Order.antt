-- The order of the live transactions: their numbers ascend.
use Rattle.std.specs.Prelude.{◌≡◌, ℕ, ◌<◌, ◌≤◌, true, List, [], ◌∷◌, length, map, slice_index_or}
use Rattle.std.specs.List.{AllByRecursion}
use Rattle.vp_model.specs.Types.{Live}
use Rattle.vp_transactions.specs.Waiting.{all_wait}

abbrev pub numbers : List Live → List ℕ
numbers live = map (λ (t : Live). t.txn.seq) live

-- each number is above those before it
abbrev pub AreRising : List ℕ → Type 0
AreRising [] = Unit {0}
AreRising (n ∷ ns) = AllByRecursion (λ m. n < m) ns × AreRising ns

-- the transactions have numbers below this one
abbrev pub AreBelow : ℕ → List Live → Type 0
AreBelow number live = AllByRecursion (λ m. m < number) (numbers live)

-- what holds of the live transactions
pub record AreLive (live : List Live) : Type 0 where
  pub waiting : all_wait live ≡ true
  pub rising : AreRising (numbers live)

-- exactly those before the place are below the number
pub record IsPlace (number : ℕ) (ns : List ℕ) (place : ℕ) : Type 0 where
  pub within : place ≤ length ns
  pub below : (k : ℕ) → k < place → slice_index_or ns k 0 < number
  pub above : (k : ℕ) → place ≤ k → k < length ns → number ≤ slice_index_or ns k 0
