use Rattle.vp_model.specs.Texts.Messages.{write_text}
use Rattle.vp_text.proofs.Printing.{begun_err}
use Rattle.vp_catalog.proofs.Printed.{all_items, item_begun, item_after}
use Rattle.vp_trace.proofs.messages.print_writes.Goals as goal

pub loop-write-preserved : goal.loop-write-preserved
loop-write-preserved c = item_after (write_text c.args.catalog.now) c.args.writes.now c.loop-write.write-index c.write-item.result _ _ _ c.loop-write-test.true c.write-item.is c.loop-write.invariant c.in_ok-print_put.ensures.whole

pub returns-in_err-print_put : goal.returns-in_err-print_put
returns-in_err-print_put c = item_begun (write_text c.args.catalog.now) c.args.writes.now c.loop-write.write-index _ c.write-item.result _ _ _ c.loop-write-test.true c.write-item.is c.loop-write.invariant c.from_residual.ensures.0 (begun_err _ _ _ _ c.from_residual.ensures.0 c.print_put.ensures.begun)

pub returns : goal.returns
returns c = all_items (write_text c.args.catalog.now) c.args.writes.now c.loop-write.write-index _ _ c.loop-write-test.false c.loop-write.invariant
