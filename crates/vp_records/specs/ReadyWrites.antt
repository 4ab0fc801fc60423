-- Writes that are ready to be done.
use Rattle.std.specs.Prelude.{ℕ, List, ⊤}
use Rattle.std.specs.List.Sorted.{IsStrictlyIncreasing}
use Rattle.vp_model.specs.Types.{Stored, ViewId}
use Rattle.vp_model.specs.Words.{keys}
use Rattle.vp_model.specs.Durable.{with_writes}
use Rattle.vp_records.specs.declared.site_copies.ReadyWrites.{ReadyWrites}
use Rattle.vp_records.specs.declared.site_copies.ReadyWrites.TheVariants.{Changes, Copies}

-- the copies after the writes
abbrev pub settled : ViewId → ReadyWrites → List (ℕ × Stored) → List (ℕ × Stored)
settled date (Changes changes) copies = with_writes date changes.items copies
settled date (Copies written) copies = written.items

-- changes are done where the records of the copies ascend
abbrev pub CanSettle : List (ℕ × Stored) → ReadyWrites → Type 0
CanSettle copies (Changes changes) = IsStrictlyIncreasing (keys copies)
CanSettle copies (Copies written) = ⊤
