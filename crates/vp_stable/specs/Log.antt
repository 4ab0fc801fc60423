-- What the bytes of a half hold: batches of log records, each after an open gate.
use Rattle.std.specs.Prelude.{◌≡◌, ◌⊎◌, ℕ, ◌<◌, ◌≤◌, ◌^◌, List, [], ◌∷◌, ◌++◌, length, flat_map}
use Rattle.std.specs.List.{AllByRecursion}
use Rattle.byteorder.specs.Endian.{big_bytes}
use Rattle.vp_base.specs.declared.entry.LogRecord.{LogRecord}
use Rattle.vp_records.specs.Batches.{batch_bytes, IsBatch}

-- A batch that can be in a log: its log records have an encoding, and its length is less than 2^64.
pub record CanStand (batch : List LogRecord) : Type 0 where
  pub records : IsBatch batch
  pub fits : length (batch_bytes batch) < 2 ^ 64

-- the length of a batch, and then the batch
unfoldable pub sized_batch : List LogRecord → List ℕ
sized_batch batch = big_bytes 8 (length (batch_bytes batch)) ++ batch_bytes batch

-- batches, each after an open gate
abbrev pub open_batches : List (List LogRecord) → List ℕ
open_batches batches = flat_map (λ batch. 1 ∷ sized_batch batch) batches

-- The bytes begin with the length of a batch and the batch, and a gate follows at that place.
pub record StandsFirst (batch : List LogRecord) (place : ℕ) (bytes : List ℕ) : Type 0 where
  pub gate : ℕ
  pub rest : List ℕ
  pub is : bytes ≡ sized_batch batch ++ gate ∷ rest
  pub at : place ≡ length (sized_batch batch)
  pub can : CanStand batch

-- The bytes are these batches, each after an open gate, and then a closed gate at that place. What follows it is not part of the
-- log.
pub record IsLog (place : ℕ) (batches : List (List LogRecord)) (bytes : List ℕ) : Type 0 where
  pub gate : ℕ
  pub rest : List ℕ
  pub is : bytes ≡ open_batches batches ++ gate ∷ rest
  pub closed : gate ≡ 1 → ⊥
  pub at : place ≡ length (open_batches batches)
  pub can : AllByRecursion CanStand batches

-- The bytes are a log with these batches; or they are at most 1 byte, which is always a log without batches.
abbrev pub HasBatches : List (List LogRecord) → List ℕ → Type 0
HasBatches batches bytes = ((length bytes ≤ 1) × (batches ≡ [])) ⊎ ((place : ℕ) × IsLog place batches bytes)

-- After some batches there is an open gate at that place, but no batch with a gate after it.
pub record IsBadLog (place : ℕ) (bytes : List ℕ) : Type 0 where
  pub batches : List (List LogRecord)
  pub rest : List ℕ
  pub some : 2 ≤ length bytes
  pub is : bytes ≡ open_batches batches ++ 1 ∷ rest
  pub at : place ≡ length (open_batches batches)
  pub can : AllByRecursion CanStand batches
  pub none : (batch : List LogRecord) (next : ℕ) → StandsFirst batch next rest → ⊥
