use Rattle.std.proofs.Common.{◌++◌, ◌∷◌}
use Rattle.std.specs.Prelude.{codes}
use Rattle.vp_text.proofs.Printing.{all_of}
use Rattle.vp_model.specs.Texts.Fields.{txn_text, view_text}
use Rattle.vp_catalog.proofs.Printed.{following, none_of, within}
use Rattle.vp_trace.proofs.trace.print_commit.Goals as goal

pub returns-in_err-print_txn : goal.returns-in_err-print_txn
returns-in_err-print_txn c = within _ _ (codes " commit " ++ txn_text c.args.commit.now.txn) _ _ c.from_residual.ensures.0 c.print_txn.ensures.begun

pub returns-in_err-print_view : goal.returns-in_err-print_view
returns-in_err-print_view c = following _ _ (codes " commit " ++ txn_text c.args.commit.now.txn) _ _ _ c.in_ok-print_txn.ensures.whole (within _ _ (32 ∷ view_text c.args.commit.now.view) _ _ c.from_residual-in_err-print_view.ensures.0 c.print_view.ensures.begun)

pub returns-in_err-push : goal.returns-in_err-push
returns-in_err-push c = following _ _ (codes " commit " ++ txn_text c.args.commit.now.txn) _ _ _ c.in_ok-print_txn.ensures.whole (following _ _ (32 ∷ view_text c.args.commit.now.view) _ _ _ c.in_ok-print_view.ensures.whole (none_of _ _ _ _ c.from_residual-in_err-push.ensures.0 c.in_err-push.ensures.items))

pub returns : goal.returns
returns c = following _ _ (codes " commit " ++ txn_text c.args.commit.now.txn) _ _ _ c.in_ok-print_txn.ensures.whole (following _ _ (32 ∷ view_text c.args.commit.now.view) _ _ _ c.in_ok-print_view.ensures.whole (all_of _ _ _ c.in_ok-push.ensures.items))
