use Rattle.std.proofs.Common.{◌++◌}
use Rattle.std.specs.Prelude.{codes}
use Rattle.std.specs.Fmt.{decimal}
use Rattle.vp_catalog.proofs.Printed.{following, within}
use Rattle.vp_trace.proofs.messages.print_barred.Goals as goal

pub returns-in_err-print_counted : goal.returns-in_err-print_counted
returns-in_err-print_counted c = within _ _ (codes "barred " ++ decimal c.args.inside) _ _ c.from_residual.ensures.0 c.print_counted.ensures.begun

pub returns : goal.returns
returns c = following _ _ (codes "barred " ++ decimal c.args.inside) _ _ _ c.in_ok-print_counted.ensures.whole c.print_counted-2.ensures
