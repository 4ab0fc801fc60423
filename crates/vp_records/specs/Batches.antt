-- Batches, which are lists of log records: their bytes are those of the records, one after the other.
use Rattle.std.specs.Prelude.{ℕ, List, flat_map}
use Rattle.std.specs.List.{AllByRecursion}
use Rattle.vp_base.specs.declared.entry.LogRecord.{LogRecord}
use Rattle.vp_bytes.specs.Fields.{Spelled}
use Rattle.vp_records.specs.Records.{record_bytes, IsLogRecord}

abbrev pub batch_bytes : List LogRecord → List ℕ
batch_bytes batch = flat_map record_bytes batch

abbrev pub IsBatch : List LogRecord → Type 0
IsBatch batch = AllByRecursion IsLogRecord batch

-- The bytes are the encoding of the batch.
abbrev pub IsBatchBytes : List LogRecord → List ℕ → Type 0
IsBatchBytes = Spelled batch_bytes IsBatch
