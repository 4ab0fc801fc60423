-- Log records are read exactly.
use Rattle.std.proofs.Common.{ℕ, List, [], ◌∷◌, ◌++◌, sym, ap, ◌∙◌}
use Rattle.vp_text.proofs.Exact.{Exact, Then, exact_as}
use Rattle.vp_base.specs.declared.entry.LogRecord.{LogRecord}
use Rattle.vp_bytes.proofs.Free.{IsFree, free_then, then_free, free_as}
use Rattle.vp_bytes.proofs.Codes.{IsCode, code_exact, code_free, code_one}
use Rattle.vp_records.specs.Kinds.{record_kind}
use Rattle.vp_records.specs.Records.{record_code, record_fields, IsRecordBytes}
use Rattle.vp_records.specs.Reading.{record_at}
use Rattle.vp_records.proofs.Codes.{kind_code, kind_codes, kind_found}
use Rattle.vp_records.proofs.EachRecord.{RecordOf, form, code_kept, fields_exact, fields_free, fields_to, fields_from}

abbrev RecordParts : LogRecord → List ℕ → Type 0
RecordParts = Then (IsCode kind_code record_kind) RecordOf

record_to : (r : LogRecord) (t : List ℕ) → RecordParts r t → IsRecordBytes r t
record_to r t h =
    let k = fields_to h.first r h.back h.after in
    record { is = h.parts ∙ ap (λ (x : List ℕ). x ++ h.back) h.before.is ∙ ap (λ (c : ℕ). c ∷ h.back) (sym k.0) ∙ ap (λ (x : List ℕ). record_code r ∷ x) k.1; allowed = k.2 }

record_from : (r : LogRecord) (t : List ℕ) → IsRecordBytes r t → RecordParts r t
record_from r t h = record {
  first = form r;
  front = record_code r ∷ [];
  back = record_fields r;
  before = record { is = ap (λ (c : ℕ). c ∷ []) (sym (code_kept r h.allowed)); found = kind_found (form r) };
  after = fields_from r h.allowed;
  parts = h.is;
}

pub record_exact : Exact IsRecordBytes record_at
unfolding record_at
record_exact = exact_as record_to record_from (free_then (code_free kind_code record_kind) (code_exact kind_code record_kind kind_codes) fields_exact)

-- no log record's encoding goes on to a longer one
pub record_free : IsFree IsRecordBytes
record_free = free_as record_from (then_free {M = RecordOf} (code_one kind_code record_kind) (code_free kind_code record_kind) fields_free)
