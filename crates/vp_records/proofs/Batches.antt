-- Batches are read exactly, and each has only one encoding.
use Rattle.std.proofs.Common.{◌≡◌, ℕ, ◌<◌, ◌-◌, ◌≤◌, List, [], ◌∷◌, ◌++◌, length, Result, Ok, Err, refl, sym, ◌∙◌, arith}
use Rattle.vp_text.specs.Meaning.{IsRefused, Answers}
use Rattle.vp_base.specs.declared.entry.LogRecord.{LogRecord}
use Rattle.vp_records.specs.declared.fault.BatchFault.{BatchFault}
use Rattle.vp_records.specs.declared.fault.BatchFault.TheVariants as faults
use Rattle.vp_records.specs.Records.{record_bytes, IsLogRecord}
use Rattle.vp_records.specs.Batches.{batch_bytes, IsBatch, IsBatchBytes}
use Rattle.vp_records.specs.Reading.{record_at, batch_at}
use Rattle.vp_records.specs.Laws.{batch_place, IsDecoded}
use Rattle.vp_records.proofs.Records.{record_exact, record_free}
use Rattle.vp_records.proofs.Each.{Items, Judged, Turn, each_judged, shorter, stops_refused, one_list, turn_next, turn_last, turn_fails}

pub records : Items record_bytes IsLogRecord record_at
records = record { exact = record_exact; free = record_free; some = λ r. omega arith }

judged : (bytes : List ℕ) → Judged record_bytes IsLogRecord record_at bytes (batch_at bytes)
judged bytes = each_judged record_bytes IsLogRecord record_at records (length bytes) bytes (omega arith)

pub batch_ok : (bytes : List ℕ) (batch : List LogRecord) (rest : List ℕ) → batch_at bytes ≡ Ok (batch, rest) → IsBatchBytes batch bytes
batch_ok bytes batch rest h = (judged bytes).ok batch rest h

pub batch_err : (bytes : List ℕ) (left : ℕ) → batch_at bytes ≡ Err left → (left ≤ length bytes) × IsRefused IsBatchBytes bytes (length bytes - left)
batch_err bytes left h = stops_refused record_bytes IsLogRecord record_at bytes left ((judged bytes).err left h)

pub one_batch : (a b : List LogRecord) (bytes : List ℕ) → IsBatchBytes a bytes → IsBatchBytes b bytes → a ≡ b
one_batch a b bytes h k = one_list record_bytes IsLogRecord record_at records a b h.allowed k.allowed (sym h.is ∙ k.is)

pub decoded_same : (batch : List LogRecord) (answer : Result (List LogRecord) BatchFault) → IsBatch batch → Answers IsBatchBytes (λ b. b) batch_place (batch_bytes batch) answer → IsDecoded batch answer
decoded_same batch (Ok b) a h = one_batch b batch (batch_bytes batch) h (record { is = refl; allowed = a })
decoded_same batch (Err (faults.BadRecord at)) a h = absurd (h.none batch (record { is = refl; allowed = a }))
decoded_same batch (Err faults.NoMemory) a h = refl

-- ---- the loop over log records

abbrev pub BatchTurn : List LogRecord → List ℕ → Result (List LogRecord × List ℕ) ℕ → Type 0
BatchTurn = Turn record_bytes IsLogRecord record_at

pub batch_next : (front : List LogRecord) (bytes : List ℕ) (total : Result (List LogRecord × List ℕ) ℕ) (r : LogRecord) (rest : List ℕ) → 0 < length bytes → record_at bytes ≡ Ok (r, rest) → BatchTurn front bytes total → BatchTurn (front ++ r ∷ []) rest total
batch_next front bytes total r rest some h t = turn_next record_bytes IsLogRecord record_at records front bytes total r rest some h t

pub batch_shorter : (bytes : List ℕ) (r : LogRecord) (rest : List ℕ) → record_at bytes ≡ Ok (r, rest) → length rest < length bytes
batch_shorter bytes r rest h = shorter record_bytes IsLogRecord record_at records bytes r rest h

pub batch_last : (front : List LogRecord) (bytes : List ℕ) (total : Result (List LogRecord × List ℕ) ℕ) → length bytes ≡ 0 → BatchTurn front bytes total → total ≡ Ok (front, bytes)
batch_last front bytes total none t = turn_last record_bytes IsLogRecord record_at front bytes total none t

pub batch_fails : (front : List LogRecord) (bytes : List ℕ) (total : Result (List LogRecord × List ℕ) ℕ) (left : ℕ) → 0 < length bytes → record_at bytes ≡ Err left → BatchTurn front bytes total → total ≡ Err left
batch_fails front bytes total left some h t = turn_fails record_bytes IsLogRecord record_at front bytes total left some h t
