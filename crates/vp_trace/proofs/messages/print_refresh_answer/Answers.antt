use Rattle.vp_catalog.proofs.Printed.{following, within}
use Rattle.vp_trace.specs.Copies.{begun_copy}
use Rattle.vp_trace.proofs.Printed.{of_parts}
use Rattle.vp_trace.proofs.messages.print_refresh_answer.Goals as goal

pub returns-in_err-print_content : goal.returns-in_err-print_content
returns-in_err-print_content c =
    of_parts c.args.catalog.now c.args.view.now c.args.rec c.args.stored.now _ _ _
    (within _ _ (begun_copy c.args.catalog.now c.args.view.now c.args.rec c.args.stored.now.value) _ _ c.from_residual.ensures.0 c.print_content.ensures.begun)

pub returns : goal.returns
returns c =
    of_parts c.args.catalog.now c.args.view.now c.args.rec c.args.stored.now _ _ _
    (following _ _ (begun_copy c.args.catalog.now c.args.view.now c.args.rec c.args.stored.now.value) _ _ _ c.in_ok-print_content.ensures.whole c.print_dated.ensures)
