use Rattle.std.proofs.Common.{◌≡◌, true, List, [], subst, arith}
use Rattle.std.proofs.lemmas.Grind.{common_steps}
use Rattle.vp_text.specs.Printing.{is_begun}
use Rattle.vp_text.proofs.Printing.{all_of, begun_err}
use Rattle.vp_base.specs.declared.entry.LogRecord.{LogRecord}
use Rattle.vp_bytes.proofs.Writing.{begun_item}
use Rattle.vp_records.specs.Batches.{batch_bytes}
use Rattle.vp_records.specs.Records.{record_bytes}
use Rattle.vp_records.proofs.encoding.encode_batch.Goals as goal

pub returns-in_err-put_record : goal.returns-in_err-put_record
returns-in_err-put_record c =
    let old = c.args.out.now.items in
    let entries = c.as_slice-entry-items in
    let begun = rw c.loop-entry.invariant at c.put_record.ensures.begun in
    let all = begun_item record_bytes old [] entries.result.now c.loop-entry.entry-index c.entry-item.result _ c.loop-entry-test.true c.entry-item.is begun in
    begun_err _ _ _ _ c.from_residual.ensures.0 (subst (λ (es : List LogRecord). is_begun old (batch_bytes es) c.put_record.new.out.items ≡ true) entries.ensures all)

pub returns : goal.returns
returns c = all_of _ _ _ (grind (arith, common_steps))
