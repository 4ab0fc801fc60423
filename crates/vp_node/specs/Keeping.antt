-- What a log keeps of a step's records: they are appended, and a checkpoint follows if one is due.
use Rattle.std.specs.Prelude.{◌≡◌, ◌⊎◌, List, [], ◌∷◌, ◌++◌}
use Rattle.vp_model.specs.Types.{LogRecord}
use Rattle.vp_model.specs.Durable.{DurableState}
use Rattle.vp_outside.specs.Disk.{Halves}
use Rattle.vp_stable.specs.Halves.{Standing, StandsAt, HaveBatches, IsShort}
use Rattle.vp_runs.specs.Keeping.{saved_if_due, kept_with}

-- ---- a checkpoint, if one is due

abbrev pub SavesDueAt : DurableState → Standing → Standing → Halves → Halves → Type 0
SavesDueAt d from to old new = (batches : List (List LogRecord)) → StandsAt from batches old → StandsAt to (saved_if_due d batches) new

abbrev pub MaySaveDueAt : DurableState → Standing → Halves → Halves → Type 0
MaySaveDueAt d from old new = (batches : List (List LogRecord)) → StandsAt from batches old → HaveBatches batches new ⊎ HaveBatches (saved_if_due d batches) new

-- ---- a step's records, and after them a checkpoint, if one is due

-- The log that was in the first place has the records after its batches, or a checkpoint of this durable part instead, and is in the
-- second place now.
abbrev pub KeepsAt : DurableState → List LogRecord → Standing → Standing → Halves → Halves → Type 0
KeepsAt d records from to old new = (batches : List (List LogRecord)) → StandsAt from batches old → StandsAt to (kept_with d records batches) new

-- After records the log is as short as checkpoints make it; without any it is where it was.
abbrev pub KeepsShort : List LogRecord → Standing → Standing → Type 0
KeepsShort [] from to = to ≡ from
KeepsShort (r ∷ records) from to = IsShort to

-- these batches are left as they were, with the records after them, or as the checkpoint of both
abbrev pub MayKeep : DurableState → List LogRecord → List (List LogRecord) → List (List LogRecord) → Type 0
MayKeep d [] batches after = after ≡ batches
MayKeep d (r ∷ records) batches after = (after ≡ batches) ⊎ ((after ≡ batches ++ (r ∷ records) ∷ []) ⊎ (after ≡ kept_with d (r ∷ records) batches))

abbrev pub MayKeepAt : DurableState → List LogRecord → Standing → Halves → Halves → Type 0
MayKeepAt d records from old new = (batches : List (List LogRecord)) → StandsAt from batches old → (after : List (List LogRecord)) × HaveBatches after new × MayKeep d records batches after
