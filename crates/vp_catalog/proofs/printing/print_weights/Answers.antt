use Rattle.vp_text.proofs.Printing.{begun_err}
use Rattle.vp_model.specs.Texts.Fields.{weight_text}
use Rattle.vp_catalog.proofs.Printed.{all_items, item_begun, item_after}
use Rattle.vp_catalog.proofs.printing.print_weights.Goals as goal

pub loop-weight-preserved : goal.loop-weight-preserved
loop-weight-preserved c = item_after weight_text c.args.weights.now c.loop-weight.weight-index c.weight-item.result _ _ _ c.loop-weight-test.true c.weight-item.is c.loop-weight.invariant c.in_ok-print_pair.ensures.whole

pub returns-in_err-print_pair : goal.returns-in_err-print_pair
returns-in_err-print_pair c = item_begun weight_text c.args.weights.now c.loop-weight.weight-index _ c.weight-item.result _ _ _ c.loop-weight-test.true c.weight-item.is c.loop-weight.invariant c.from_residual.ensures.0 (begun_err _ _ _ _ c.from_residual.ensures.0 c.print_pair.ensures.begun)

pub returns : goal.returns
returns c = all_items weight_text c.args.weights.now c.loop-weight.weight-index _ _ c.loop-weight-test.false c.loop-weight.invariant
