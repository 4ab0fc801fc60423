-- Log records: the bytes of each one. Four kinds are kept in two versions, of which the second is written.
use Rattle.std.specs.Prelude.{ℕ, ◌<◌, ◌^◌, List, [], ◌∷◌, ◌++◌, length}
use Rattle.vp_base.specs.Identifiers.{IsView, IsTxn}
use Rattle.vp_base.specs.declared.entry.LogRecord.{LogRecord}
use Rattle.vp_base.specs.declared.entry.LogRecord.TheVariants as log_record
use Rattle.vp_base.specs.declared.entry.Decision.{Decision}
use Rattle.vp_base.specs.declared.entry.Doubt.{Doubt}
use Rattle.vp_base.specs.declared.entry.Change.{Change}
use Rattle.vp_base.specs.declared.entry.Stored.{Stored}
use Rattle.vp_base.specs.declared.ids.TxnId.{TxnId}
use Rattle.vp_base.specs.declared.ids.ViewId.{ViewId}
use Rattle.vp_bytes.specs.Fields.{number_bytes, view_bytes, txn_bytes, counted_bytes, outcome_byte, IsSite, IsSites, Spelled}
use Rattle.vp_contents.specs.Changes.{writes_bytes, IsWrites}
use Rattle.vp_contents.specs.Copies.{copy_bytes, copies_bytes, IsCopy, IsCopies}
use Rattle.vp_contents.specs.Doubts.{doubts_bytes, IsDoubts}
use Rattle.vp_contents.specs.declared.version.Version.{Version}
use Rattle.vp_contents.specs.declared.version.Version.TheVariants as versions
use Rattle.vp_bytes.specs.Decisions.{decisions_bytes, IsDecisions}
use Rattle.vp_model.specs.Durable.{DurableState}

-- the first byte: four kinds have a code in each version
abbrev pub record_code : LogRecord → ℕ
record_code (log_record.Start life) = 1
record_code (log_record.Promise view) = 2
record_code (log_record.Yes txn view writes) = 9
record_code (log_record.Outcome txn commit) = 4
record_code (log_record.Commit txn view writes waiting) = 10
record_code (log_record.Copy rec stored) = 11
record_code (log_record.Acked txn site) = 7
record_code (log_record.Checkpoint generation life promise copies doubts decisions) = 12
record_code (log_record.YesOfValues txn view writes) = 3
record_code (log_record.CommitOfValues txn view writes waiting) = 5
record_code (log_record.CopyOfValue rec stored) = 6
record_code (log_record.CheckpointOfValues generation life promise copies doubts decisions) = 8

-- ---- the fields of these four, by version

abbrev pub yes_bytes : Version → TxnId → ViewId → List (ℕ × Change) → List ℕ
yes_bytes version txn view writes = txn_bytes txn ++ (view_bytes view ++ writes_bytes version writes)

abbrev pub commit_bytes : Version → TxnId → ViewId → List (ℕ × Change) → List ℕ → List ℕ
commit_bytes version txn view writes waiting = txn_bytes txn ++ (view_bytes view ++ (writes_bytes version writes ++ counted_bytes waiting))

abbrev pub saved_bytes : Version → List (ℕ × Stored) → List Doubt → List Decision → List ℕ
saved_bytes version copies doubts decisions = copies_bytes version copies ++ (doubts_bytes version doubts ++ decisions_bytes decisions)

abbrev pub checkpoint_bytes : Version → ℕ → ℕ → ViewId → List (ℕ × Stored) → List Doubt → List Decision → List ℕ
checkpoint_bytes version generation life promise copies doubts decisions =
    number_bytes 8 generation ++ (number_bytes 4 life ++ (view_bytes promise ++ saved_bytes version copies doubts decisions))

abbrev pub IsYes : Version → TxnId → ViewId → List (ℕ × Change) → Type 0
IsYes version txn view writes = IsTxn txn × IsView view × IsWrites version writes

abbrev pub IsCommit : Version → TxnId → ViewId → List (ℕ × Change) → List ℕ → Type 0
IsCommit version txn view writes waiting = IsTxn txn × IsView view × IsWrites version writes × IsSites 0 waiting

abbrev pub IsCheckpoint : Version → ℕ → ℕ → ViewId → List (ℕ × Stored) → List Doubt → List Decision → Type 0
IsCheckpoint version generation life promise copies doubts decisions =
    (generation < 2 ^ 64) × (life < 2 ^ 32) × IsView promise × IsCopies version copies × IsDoubts version doubts × IsDecisions decisions

-- ---- log records

-- the bytes after the first
abbrev pub record_fields : LogRecord → List ℕ
record_fields (log_record.Start life) = number_bytes 4 life
record_fields (log_record.Promise view) = view_bytes view
record_fields (log_record.Yes txn view writes) = yes_bytes versions.Second txn view writes
record_fields (log_record.Outcome txn commit) = txn_bytes txn ++ outcome_byte commit ∷ []
record_fields (log_record.Commit txn view writes waiting) = commit_bytes versions.Second txn view writes waiting
record_fields (log_record.Copy rec stored) = copy_bytes versions.Second (rec, stored)
record_fields (log_record.Acked txn site) = txn_bytes txn ++ site ∷ []
record_fields (log_record.Checkpoint generation life promise copies doubts decisions) = checkpoint_bytes versions.Second generation life promise copies doubts decisions
record_fields (log_record.YesOfValues txn view writes) = yes_bytes versions.First txn view writes
record_fields (log_record.CommitOfValues txn view writes waiting) = commit_bytes versions.First txn view writes waiting
record_fields (log_record.CopyOfValue rec stored) = copy_bytes versions.First (rec, stored)
record_fields (log_record.CheckpointOfValues generation life promise copies doubts decisions) = checkpoint_bytes versions.First generation life promise copies doubts decisions

abbrev pub record_bytes : LogRecord → List ℕ
record_bytes r = record_code r ∷ record_fields r

-- which values log records have: those that can be said in their code
abbrev pub IsLogRecord : LogRecord → Type 0
IsLogRecord (log_record.Start life) = life < 2 ^ 32
IsLogRecord (log_record.Promise view) = IsView view
IsLogRecord (log_record.Yes txn view writes) = IsYes versions.Second txn view writes
IsLogRecord (log_record.Outcome txn commit) = IsTxn txn
IsLogRecord (log_record.Commit txn view writes waiting) = IsCommit versions.Second txn view writes waiting
IsLogRecord (log_record.Copy rec stored) = IsCopy versions.Second (rec, stored)
IsLogRecord (log_record.Acked txn site) = IsTxn txn × IsSite site
IsLogRecord (log_record.Checkpoint generation life promise copies doubts decisions) = IsCheckpoint versions.Second generation life promise copies doubts decisions
IsLogRecord (log_record.YesOfValues txn view writes) = IsYes versions.First txn view writes
IsLogRecord (log_record.CommitOfValues txn view writes waiting) = IsCommit versions.First txn view writes waiting
IsLogRecord (log_record.CopyOfValue rec stored) = IsCopy versions.First (rec, stored)
IsLogRecord (log_record.CheckpointOfValues generation life promise copies doubts decisions) = IsCheckpoint versions.First generation life promise copies doubts decisions

-- A checkpoint of this durable part has an encoding: its lists are short enough to be counted.
pub record CanBeSaved (d : DurableState) : Type 0 where
  pub life : d.life < 2 ^ 32
  pub promise : IsView d.promise
  pub copies : IsCopies versions.Second d.copies
  pub doubts : length d.doubts < 2 ^ 64 → IsDoubts versions.Second d.doubts
  pub decisions : length d.decisions < 2 ^ 64 → IsDecisions d.decisions

-- The bytes are the encoding of the log record.
abbrev pub IsRecordBytes : LogRecord → List ℕ → Type 0
IsRecordBytes = Spelled record_bytes IsLogRecord
