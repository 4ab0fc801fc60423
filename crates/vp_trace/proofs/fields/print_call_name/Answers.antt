use Rattle.std.proofs.Common.{[], ◌∷◌}
use Rattle.std.specs.Fmt.{decimal}
use Rattle.vp_text.proofs.Printing.{all_or_none}
use Rattle.vp_model.specs.Texts.Fields.{txn_text}
use Rattle.vp_catalog.proofs.Printed.{following, none_of, within}
use Rattle.vp_trace.proofs.fields.print_call_name.Goals as goal

pub returns-in_err-print : goal.returns-in_err-print
returns-in_err-print c = within _ _ (txn_text c.args.txn.now) _ _ c.from_residual.ensures.0 c.print.ensures.begun

pub returns-in_err-push : goal.returns-in_err-push
returns-in_err-push c = following _ _ (txn_text c.args.txn.now) _ _ _ c.in_ok-print.ensures.whole (none_of _ _ _ _ c.from_residual-in_err-push.ensures.0 c.in_err-push.ensures.items)

pub returns : goal.returns
returns c = following _ _ (txn_text c.args.txn.now) _ _ _ c.in_ok-print.ensures.whole (following _ _ (32 ∷ []) _ _ _ c.in_ok-push.ensures.items (all_or_none _ _ (decimal c.args.number) _ (rw c.get.ensures.value at c.print_count.ensures.ok) c.print_count.ensures.err))
