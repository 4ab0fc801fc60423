use Rattle.std.proofs.Common.{ℕ}
use Rattle.vp_model.specs.Types.{Change}
use Rattle.vp_model.specs.Texts.Messages.{given_text}
use Rattle.vp_text.proofs.Printing.{begun_err}
use Rattle.vp_catalog.proofs.Printed.{all_items, item_begun, item_after}
use Rattle.vp_trace.proofs.messages.print_tables.Goals as goal

pub loop-write-preserved : goal.loop-write-preserved
loop-write-preserved c = item_after (λ (w : ℕ × Change). given_text c.args.catalog.now w.0 w.1.table) c.args.writes.now c.loop-write.write-index c.write-item.result _ _ _ c.loop-write-test.true c.write-item.is c.loop-write.invariant c.in_ok-print_given.ensures.whole

pub returns-in_err-print_given : goal.returns-in_err-print_given
returns-in_err-print_given c = item_begun (λ (w : ℕ × Change). given_text c.args.catalog.now w.0 w.1.table) c.args.writes.now c.loop-write.write-index _ c.write-item.result _ _ _ c.loop-write-test.true c.write-item.is c.loop-write.invariant c.from_residual.ensures.0 (begun_err _ _ _ _ c.from_residual.ensures.0 c.print_given.ensures.begun)

pub returns : goal.returns
returns c = all_items (λ (w : ℕ × Change). given_text c.args.catalog.now w.0 w.1.table) c.args.writes.now c.loop-write.write-index _ _ c.loop-write-test.false c.loop-write.invariant
