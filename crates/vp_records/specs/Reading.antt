-- Reading log records from left to right, and batches up to the end of the bytes.
use Rattle.std.specs.Prelude.{ℕ, zero, suc, List, [], ◌∷◌, length, Result, Ok, Err}
use Rattle.vp_text.specs.Reading.{◌>>=◌}
use Rattle.vp_base.specs.declared.entry.LogRecord.{LogRecord}
use Rattle.vp_base.specs.declared.entry.LogRecord.TheVariants as log_record
use Rattle.vp_bytes.specs.Reading.{byte_at, within, u32_at, u64_at, view_at, txn_at, sites_at, outcome_at}
use Rattle.vp_bytes.specs.Codes.{code_at}
use Rattle.vp_contents.specs.Changes.{writes_at}
use Rattle.vp_contents.specs.Copies.{stored_at, copies_at}
use Rattle.vp_contents.specs.Doubts.{doubts_at}
use Rattle.vp_contents.specs.declared.version.Version.TheVariants as versions
use Rattle.vp_bytes.specs.Decisions.{decisions_at}
use Rattle.vp_records.specs.Kinds.{record_kind}
use Rattle.vp_records.specs.declared.kind.RecordKind.{RecordKind}
use Rattle.vp_records.specs.declared.kind.RecordKind.TheVariants as kinds

-- the fields of a log record of the kind
unfoldable pub fields_at : RecordKind → List ℕ → Result (LogRecord × List ℕ) ℕ
fields_at kinds.Start bytes = do
  life ← u32_at bytes
  Ok (log_record.Start life.0, life.1)
fields_at kinds.Promise bytes = do
  view ← view_at bytes
  Ok (log_record.Promise view.0, view.1)
fields_at kinds.Yes bytes = do
  txn ← txn_at bytes
  view ← view_at txn.1
  writes ← writes_at versions.Second view.1
  Ok (log_record.Yes txn.0 view.0 writes.0, writes.1)
fields_at kinds.Outcome bytes = do
  txn ← txn_at bytes
  commit ← outcome_at txn.1
  Ok (log_record.Outcome txn.0 commit.0, commit.1)
fields_at kinds.Commit bytes = do
  txn ← txn_at bytes
  view ← view_at txn.1
  writes ← writes_at versions.Second view.1
  waiting ← sites_at 0 writes.1
  Ok (log_record.Commit txn.0 view.0 writes.0 waiting.0, waiting.1)
fields_at kinds.Copy bytes = do
  rec ← byte_at (within 0 255) bytes
  stored ← stored_at versions.Second rec.1
  Ok (log_record.Copy rec.0 stored.0, stored.1)
fields_at kinds.Acked bytes = do
  txn ← txn_at bytes
  site ← byte_at (within 1 16) txn.1
  Ok (log_record.Acked txn.0 site.0, site.1)
fields_at kinds.Checkpoint bytes = do
  generation ← u64_at bytes
  life ← u32_at generation.1
  promise ← view_at life.1
  copies ← copies_at versions.Second promise.1
  doubts ← doubts_at versions.Second copies.1
  decisions ← decisions_at doubts.1
  Ok (log_record.Checkpoint generation.0 life.0 promise.0 copies.0 doubts.0 decisions.0, decisions.1)
fields_at kinds.YesOfValues bytes = do
  txn ← txn_at bytes
  view ← view_at txn.1
  writes ← writes_at versions.First view.1
  Ok (log_record.YesOfValues txn.0 view.0 writes.0, writes.1)
fields_at kinds.CommitOfValues bytes = do
  txn ← txn_at bytes
  view ← view_at txn.1
  writes ← writes_at versions.First view.1
  waiting ← sites_at 0 writes.1
  Ok (log_record.CommitOfValues txn.0 view.0 writes.0 waiting.0, waiting.1)
fields_at kinds.CopyOfValue bytes = do
  rec ← byte_at (within 0 255) bytes
  stored ← stored_at versions.First rec.1
  Ok (log_record.CopyOfValue rec.0 stored.0, stored.1)
fields_at kinds.CheckpointOfValues bytes = do
  generation ← u64_at bytes
  life ← u32_at generation.1
  promise ← view_at life.1
  copies ← copies_at versions.First promise.1
  doubts ← doubts_at versions.First copies.1
  decisions ← decisions_at doubts.1
  Ok (log_record.CheckpointOfValues generation.0 life.0 promise.0 copies.0 doubts.0 decisions.0, decisions.1)

-- a log record: its code, and the fields of that kind
unfoldable pub record_at : List ℕ → Result (LogRecord × List ℕ) ℕ
record_at bytes = do
  kind ← code_at record_kind bytes
  fields_at kind.0 kind.1

-- items up to the end of the bytes, each of at least one byte
unfoldable pub each_at : {X : Type 0} → (List ℕ → Result (X × List ℕ) ℕ) → ℕ → List ℕ → Result (List X × List ℕ) ℕ
each_at item fuel [] = Ok ([], [])
each_at item zero (c ∷ cs) = Err (length (c ∷ cs))
each_at item (suc fuel) (c ∷ cs) = item (c ∷ cs) >>= λ x. each_at item fuel x.1 >>= λ xs. Ok (x.0 ∷ xs.0, xs.1)

abbrev pub batch_at : List ℕ → Result (List LogRecord × List ℕ) ℕ
batch_at bytes = each_at record_at (length bytes) bytes
