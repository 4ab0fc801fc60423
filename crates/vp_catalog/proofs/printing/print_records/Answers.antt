use Rattle.vp_text.proofs.Printing.{begun_err}
use Rattle.vp_model.specs.Texts.Schedule.{record_line}
use Rattle.vp_catalog.proofs.Printed.{all_items, item_begun, item_after}
use Rattle.vp_catalog.proofs.printing.print_records.Goals as goal

pub loop-placed-preserved : goal.loop-placed-preserved
loop-placed-preserved c = item_after record_line c.args.records.now c.loop-placed.placed-index c.placed-item.result _ _ _ c.loop-placed-test.true c.placed-item.is c.loop-placed.invariant c.in_ok-print_record.ensures.whole

pub returns-in_err-print_record : goal.returns-in_err-print_record
returns-in_err-print_record c = item_begun record_line c.args.records.now c.loop-placed.placed-index _ c.placed-item.result _ _ _ c.loop-placed-test.true c.placed-item.is c.loop-placed.invariant c.from_residual.ensures.0 (begun_err _ _ _ _ c.from_residual.ensures.0 c.print_record.ensures.begun)

pub returns : goal.returns
returns c = all_items record_line c.args.records.now c.loop-placed.placed-index _ _ c.loop-placed-test.false c.loop-placed.invariant
