-- Places in a list that ascends by numbers.
use Rattle.std.specs.Prelude.{◌≡◌, ℕ, ◌<◌, ◌≤◌, List, length, MatchResult, Result, slice_index_or}

-- the item at i has the number n
pub record HasNumberAt {A : Type 0} (number : A → ℕ) (n : ℕ) (xs : List A) (i : ℕ) : Type 0 where
  pub within : i < length xs
  pub is : (d : A) → number (slice_index_or xs i d) ≡ n

-- the numbers before i are below n, and those from i on above
pub record BelongsAt {A : Type 0} (number : A → ℕ) (n : ℕ) (xs : List A) (i : ℕ) : Type 0 where
  pub within : i ≤ length xs
  pub below : (k : ℕ) (d : A) → k < i → number (slice_index_or xs k d) < n
  pub above : (k : ℕ) (d : A) → i ≤ k → k < length xs → n < number (slice_index_or xs k d)

-- where the number n is, or where it belongs
abbrev pub IsPlace : {A : Type 0} → (A → ℕ) → ℕ → List A → Result ℕ ℕ → Type 0
IsPlace number n xs r = MatchResult r (HasNumberAt number n xs) (BelongsAt number n xs)
