use Rattle.std.proofs.Common.{◌++◌}
use Rattle.std.specs.Prelude.{codes}
use Rattle.vp_model.specs.Texts.Fields.{txn_text}
use Rattle.vp_catalog.proofs.Printed.{following, within}
use Rattle.vp_trace.proofs.answers.print_begun.Goals as goal

pub returns-in_err-print_txn : goal.returns-in_err-print_txn
returns-in_err-print_txn c = within _ _ (codes "begun " ++ txn_text c.args.txn.now) _ _ c.from_residual.ensures.0 c.print_txn.ensures.begun

pub returns : goal.returns
returns c = following _ _ (codes "begun " ++ txn_text c.args.txn.now) _ _ _ c.in_ok-print_txn.ensures.whole c.print_view.ensures
