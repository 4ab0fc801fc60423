-- The kinds of log records, by their codes.
use Rattle.std.specs.Prelude.{ℕ, List, [], ◌∷◌, Option}
use Rattle.vp_bytes.specs.Codes.{find_code}
use Rattle.vp_records.specs.declared.kind.RecordKind.{RecordKind}
use Rattle.vp_records.specs.declared.kind.RecordKind.TheVariants as kinds

abbrev pub record_kinds : List (ℕ × RecordKind)
record_kinds = (1, kinds.Start) ∷ (2, kinds.Promise) ∷ (3, kinds.YesOfValues) ∷ (4, kinds.Outcome) ∷ (5, kinds.CommitOfValues) ∷ (6, kinds.CopyOfValue) ∷ (7, kinds.Acked) ∷ (8, kinds.CheckpointOfValues) ∷ (9, kinds.Yes) ∷ (10, kinds.Commit) ∷ (11, kinds.Copy) ∷ (12, kinds.Checkpoint) ∷ []

abbrev pub record_kind : ℕ → Option RecordKind
record_kind c = find_code record_kinds c
