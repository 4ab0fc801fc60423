-- What a result of decoding says of a batch.
use Rattle.std.specs.Prelude.{◌≡◌, ℕ, List, Option, Some, None, Result, Ok, Err}
use Rattle.vp_base.specs.declared.entry.LogRecord.{LogRecord}
use Rattle.vp_records.specs.declared.fault.BatchFault.{BatchFault}
use Rattle.vp_records.specs.declared.fault.BatchFault.TheVariants as faults

-- how many bytes begin a batch, unless the fault is want of memory
abbrev pub batch_place : BatchFault → Option ℕ
batch_place (faults.BadRecord at) = Some at
batch_place faults.NoMemory = None

-- The result is the batch, unless memory ran out.
abbrev pub IsDecoded : List LogRecord → Result (List LogRecord) BatchFault → Type 0
IsDecoded batch (Ok decoded) = decoded ≡ batch
IsDecoded batch (Err fault) = batch_place fault ≡ None
