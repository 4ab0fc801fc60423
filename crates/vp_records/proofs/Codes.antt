-- The codes of log records: the kind that is found by each one.
use Rattle.std.proofs.Common.{◌≡◌, ℕ, Some, refl}
use Rattle.vp_bytes.proofs.Codes.{Codes, found_only}
use Rattle.vp_records.specs.Kinds.{record_kinds, record_kind}
use Rattle.vp_records.specs.declared.kind.RecordKind.{RecordKind}
use Rattle.vp_records.specs.declared.kind.RecordKind.TheVariants as kinds

abbrev pub kind_code : RecordKind → ℕ
kind_code kinds.Start = 1
kind_code kinds.Promise = 2
kind_code kinds.Yes = 9
kind_code kinds.Outcome = 4
kind_code kinds.Commit = 10
kind_code kinds.Copy = 11
kind_code kinds.Acked = 7
kind_code kinds.Checkpoint = 12
kind_code kinds.YesOfValues = 3
kind_code kinds.CommitOfValues = 5
kind_code kinds.CopyOfValue = 6
kind_code kinds.CheckpointOfValues = 8

pub kind_found : (kind : RecordKind) → record_kind (kind_code kind) ≡ Some kind
kind_found kinds.Start = refl
kind_found kinds.Promise = refl
kind_found kinds.Yes = refl
kind_found kinds.Outcome = refl
kind_found kinds.Commit = refl
kind_found kinds.Copy = refl
kind_found kinds.Acked = refl
kind_found kinds.Checkpoint = refl
kind_found kinds.YesOfValues = refl
kind_found kinds.CommitOfValues = refl
kind_found kinds.CopyOfValue = refl
kind_found kinds.CheckpointOfValues = refl

pub kind_codes : Codes kind_code record_kind
kind_codes = record { only = found_only kind_code record_kinds (refl, (refl, (refl, (refl, (refl, (refl, (refl, (refl, (refl, (refl, (refl, (refl, tt)))))))))))); some = kinds.Start; there = refl }
