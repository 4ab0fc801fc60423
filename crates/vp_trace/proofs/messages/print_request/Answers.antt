use Rattle.std.proofs.Common.{[], ◌∷◌}
use Rattle.std.specs.Fmt.{decimal}
use Rattle.vp_text.proofs.Printing.{all_or_none}
use Rattle.vp_model.specs.Texts.Fields.{txn_text, view_text}
use Rattle.vp_catalog.proofs.Printed.{following, none_of, within}
use Rattle.vp_trace.proofs.messages.print_request.Goals as goal

pub returns-in_err-print_word : goal.returns-in_err-print_word
returns-in_err-print_word c = none_of _ _ _ _ c.from_residual.ensures.0 c.in_err-print_word.ensures.err

pub returns-in_err-print : goal.returns-in_err-print
returns-in_err-print c = following _ _ c.args.word.now _ _ _ c.in_ok-print_word.ensures.ok (within _ _ (txn_text c.args.txn.now) _ _ c.from_residual-in_err-print.ensures.0 c.print.ensures.begun)

pub returns-in_err-push : goal.returns-in_err-push
returns-in_err-push c = following _ _ c.args.word.now _ _ _ c.in_ok-print_word.ensures.ok (following _ _ (txn_text c.args.txn.now) _ _ _ c.in_ok-print.ensures.whole (none_of _ _ _ _ c.from_residual-in_err-push.ensures.0 c.in_err-push.ensures.items))

pub returns-in_err-print-2 : goal.returns-in_err-print-2
returns-in_err-print-2 c = following _ _ c.args.word.now _ _ _ c.in_ok-print_word.ensures.ok (following _ _ (txn_text c.args.txn.now) _ _ _ c.in_ok-print.ensures.whole (following _ _ (32 ∷ []) _ _ _ c.in_ok-push.ensures.items (within _ _ (view_text c.args.view.now) _ _ c.from_residual-in_err-print-2.ensures.0 c.print-2.ensures.begun)))

pub returns-in_err-push-2 : goal.returns-in_err-push-2
returns-in_err-push-2 c = following _ _ c.args.word.now _ _ _ c.in_ok-print_word.ensures.ok (following _ _ (txn_text c.args.txn.now) _ _ _ c.in_ok-print.ensures.whole (following _ _ (32 ∷ []) _ _ _ c.in_ok-push.ensures.items (following _ _ (view_text c.args.view.now) _ _ _ c.in_ok-print-2.ensures.whole (none_of _ _ _ _ c.from_residual-in_err-push-2.ensures.0 c.in_err-push-2.ensures.items))))

pub returns : goal.returns
returns c = following _ _ c.args.word.now _ _ _ c.in_ok-print_word.ensures.ok (following _ _ (txn_text c.args.txn.now) _ _ _ c.in_ok-print.ensures.whole (following _ _ (32 ∷ []) _ _ _ c.in_ok-push.ensures.items (following _ _ (view_text c.args.view.now) _ _ _ c.in_ok-print-2.ensures.whole (following _ _ (32 ∷ []) _ _ _ c.in_ok-push-2.ensures.items (all_or_none _ _ (decimal c.args.number) _ (rw c.get.ensures.value at c.print_count.ensures.ok) c.print_count.ensures.err)))))
