use Rattle.std.proofs.Common.{◌++◌}
use Rattle.std.specs.Prelude.{codes}
use Rattle.vp_model.specs.Texts.Fields.{call_name_text}
use Rattle.vp_catalog.proofs.Printed.{following, within}
use Rattle.vp_trace.proofs.messages.print_read_value.Goals as goal

pub returns-in_err-print_numbered : goal.returns-in_err-print_numbered
returns-in_err-print_numbered c = within _ _ (codes "read-answer " ++ call_name_text c.args.txn.now c.args.number) _ _ c.from_residual.ensures.0 c.print_numbered.ensures.begun

pub returns : goal.returns
returns c = following _ _ (codes "read-answer " ++ call_name_text c.args.txn.now c.args.number) _ _ _ c.in_ok-print_numbered.ensures.whole c.print_value.ensures
