use Rattle.std.specs.Prelude.{codes}
use Rattle.vp_text.proofs.Printing.{begun_err}
use Rattle.vp_model.specs.Texts.Messages.{read_text}
use Rattle.vp_catalog.proofs.Printed.{all_items, following, item_begun, item_after, joined, none_of}
use Rattle.vp_trace.proofs.messages.print_reads.Goals as goal

pub loop-rec-preserved : goal.loop-rec-preserved
loop-rec-preserved c = item_after (read_text c.args.catalog.now) c.args.reads.now c.loop-rec.rec-index c.rec-item.result _ _ _ c.loop-rec-test.true c.rec-item.is c.loop-rec.invariant (joined _ (codes " r ") _ _ _ c.in_ok-print_word.ensures.ok c.in_ok-print_record.ensures.whole)

pub returns-in_err-print_word : goal.returns-in_err-print_word
returns-in_err-print_word c = item_begun (read_text c.args.catalog.now) c.args.reads.now c.loop-rec.rec-index _ c.rec-item.result _ _ _ c.loop-rec-test.true c.rec-item.is c.loop-rec.invariant c.from_residual.ensures.0 (none_of _ _ _ _ c.from_residual.ensures.0 c.in_err-print_word.ensures.err)

pub returns-in_err-print_record : goal.returns-in_err-print_record
returns-in_err-print_record c = item_begun (read_text c.args.catalog.now) c.args.reads.now c.loop-rec.rec-index _ c.rec-item.result _ _ _ c.loop-rec-test.true c.rec-item.is c.loop-rec.invariant c.from_residual-in_err-print_record.ensures.0 (following _ _ (codes " r ") _ _ _ c.in_ok-print_word.ensures.ok (begun_err _ _ _ _ c.from_residual-in_err-print_record.ensures.0 c.print_record.ensures.begun))

pub returns : goal.returns
returns c = all_items (read_text c.args.catalog.now) c.args.reads.now c.loop-rec.rec-index _ _ c.loop-rec-test.false c.loop-rec.invariant
