-- Bytes hold only one list of batches, or are not a log in only one way.
use Rattle.std.specs.Prelude.{◌≡◌, ℕ, List}
use Rattle.vp_base.specs.declared.entry.LogRecord.{LogRecord}
use Rattle.vp_stable.specs.Log.{IsLog, HasBatches, IsBadLog}

abbrev pub BatchesAreOne : Type 0
BatchesAreOne = (a b : List (List LogRecord)) (bytes : List ℕ) → HasBatches a bytes → HasBatches b bytes → a ≡ b

abbrev pub PlacesAreOne : Type 0
PlacesAreOne = (m n : ℕ) (a b : List (List LogRecord)) (bytes : List ℕ) → IsLog m a bytes → IsLog n b bytes → m ≡ n

abbrev pub BadLogsHaveNoBatches : Type 0
BadLogsHaveNoBatches = (place : ℕ) (batches : List (List LogRecord)) (bytes : List ℕ) → IsBadLog place bytes → HasBatches batches bytes → ⊥

abbrev pub BadPlacesAreOne : Type 0
BadPlacesAreOne = (m n : ℕ) (bytes : List ℕ) → IsBadLog m bytes → IsBadLog n bytes → m ≡ n
