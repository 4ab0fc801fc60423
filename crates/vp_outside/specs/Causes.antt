-- What an object's count of failures says of the cause of an answer.
use Rattle.std.specs.Prelude.{ℕ, ◌+◌, ◌-◌, ◌^◌, ◌≤◌, ◌≡◌, max, min, Result, OnOk, OnErr}

-- a count after n more, which stops at the highest number of its type
abbrev pub count_after : ℕ → ℕ → ℕ
count_after before n = max before (min (before + n) (2 ^ 64 - 1))

-- the count is greater than before, or is the highest number of its type
abbrev pub Rose : ℕ → ℕ → Type 0
Rose before now = min (before + 1) (2 ^ 64 - 1) ≤ now

-- The count rises by each call that fails, and by no other.
pub record HasCause {T E : Type 0} (before now : ℕ) (result : Result T E) : Type 0 where
  pub later : before ≤ now
  pub failed : OnErr result (Rose before now)
  pub ok : OnOk result (now ≡ before)
