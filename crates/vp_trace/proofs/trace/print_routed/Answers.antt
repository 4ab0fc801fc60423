use Rattle.std.proofs.Common.{[], ◌∷◌}
use Rattle.std.specs.Fmt.{decimal}
use Rattle.vp_text.proofs.Printing.{all_of}
use Rattle.vp_model.specs.Texts.Messages.{message_text}
use Rattle.vp_catalog.proofs.Printed.{following, none_of, within}
use Rattle.vp_trace.proofs.trace.print_routed.Goals as goal

pub returns-in_err-print : goal.returns-in_err-print
returns-in_err-print c = none_of _ _ _ _ c.from_residual.ensures.0 c.in_err-print.ensures.err

pub returns-in_err-push : goal.returns-in_err-push
returns-in_err-push c = following _ _ (decimal c.args.sent.now.from) _ _ _ c.in_ok-print.ensures.ok (none_of _ _ _ _ c.from_residual-in_err-push.ensures.0 c.in_err-push.ensures.items)

pub returns-in_err-print-2 : goal.returns-in_err-print-2
returns-in_err-print-2 c = following _ _ (decimal c.args.sent.now.from) _ _ _ c.in_ok-print.ensures.ok (following _ _ (62 ∷ []) _ _ _ c.in_ok-push.ensures.items (none_of _ _ _ _ c.from_residual-in_err-print-2.ensures.0 c.in_err-print-2.ensures.err))

pub returns-in_err-push-2 : goal.returns-in_err-push-2
returns-in_err-push-2 c = following _ _ (decimal c.args.sent.now.from) _ _ _ c.in_ok-print.ensures.ok (following _ _ (62 ∷ []) _ _ _ c.in_ok-push.ensures.items (following _ _ (decimal c.args.sent.now.to) _ _ _ c.in_ok-print-2.ensures.ok (none_of _ _ _ _ c.from_residual-in_err-push-2.ensures.0 c.in_err-push-2.ensures.items)))

pub returns-in_err-print_message : goal.returns-in_err-print_message
returns-in_err-print_message c = following _ _ (decimal c.args.sent.now.from) _ _ _ c.in_ok-print.ensures.ok (following _ _ (62 ∷ []) _ _ _ c.in_ok-push.ensures.items (following _ _ (decimal c.args.sent.now.to) _ _ _ c.in_ok-print-2.ensures.ok (following _ _ (32 ∷ []) _ _ _ c.in_ok-push-2.ensures.items (within _ _ (message_text c.args.catalog.now c.args.sent.now.message) _ _ c.from_residual-in_err-print_message.ensures.0 c.print_message.ensures.begun))))

pub returns-in_err-push-3 : goal.returns-in_err-push-3
returns-in_err-push-3 c = following _ _ (decimal c.args.sent.now.from) _ _ _ c.in_ok-print.ensures.ok (following _ _ (62 ∷ []) _ _ _ c.in_ok-push.ensures.items (following _ _ (decimal c.args.sent.now.to) _ _ _ c.in_ok-print-2.ensures.ok (following _ _ (32 ∷ []) _ _ _ c.in_ok-push-2.ensures.items (following _ _ (message_text c.args.catalog.now c.args.sent.now.message) _ _ _ c.in_ok-print_message.ensures.whole (none_of _ _ _ _ c.from_residual-in_err-push-3.ensures.0 c.in_err-push-3.ensures.items)))))

pub returns : goal.returns
returns c = following _ _ (decimal c.args.sent.now.from) _ _ _ c.in_ok-print.ensures.ok (following _ _ (62 ∷ []) _ _ _ c.in_ok-push.ensures.items (following _ _ (decimal c.args.sent.now.to) _ _ _ c.in_ok-print-2.ensures.ok (following _ _ (32 ∷ []) _ _ _ c.in_ok-push-2.ensures.items (following _ _ (message_text c.args.catalog.now c.args.sent.now.message) _ _ _ c.in_ok-print_message.ensures.whole (all_of _ _ _ c.in_ok-push-3.ensures.items)))))
