-- Log records that are applied one after another.
use Rattle.std.specs.Prelude.{◌≡◌, ◌≤◌, ℕ, List, length, take}
use Rattle.vp_base.specs.declared.entry.LogRecord.{LogRecord}
use Rattle.vp_model.specs.Durable.{DurableState, apply_all}

-- As many of the first ones were applied, and no other.
abbrev pub AppliesSome : List LogRecord → DurableState → DurableState → Type 0
AppliesSome records old new = (n : ℕ) × (n ≤ length records) × (new ≡ apply_all (take n records) old)
