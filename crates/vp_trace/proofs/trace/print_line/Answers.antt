use Rattle.std.proofs.Common.{[], ◌∷◌}
use Rattle.std.specs.Fmt.{decimal}
use Rattle.vp_model.specs.Texts.Calls.{event_text}
use Rattle.vp_catalog.proofs.Printed.{following, none_of, within}
use Rattle.vp_trace.proofs.trace.print_line.Goals as goal

pub returns-in_err-print_count : goal.returns-in_err-print_count
returns-in_err-print_count c = none_of _ _ _ _ c.from_residual.ensures.0 c.in_err-print_count.ensures.err

pub returns-in_err-push : goal.returns-in_err-push
returns-in_err-push c = following _ _ (decimal c.args.number) _ _ _ c.in_ok-print_count.ensures.ok (none_of _ _ _ _ c.from_residual-in_err-push.ensures.0 c.in_err-push.ensures.items)

pub returns-in_err-print_event : goal.returns-in_err-print_event
returns-in_err-print_event c = following _ _ (decimal c.args.number) _ _ _ c.in_ok-print_count.ensures.ok (following _ _ (32 ∷ []) _ _ _ c.in_ok-push.ensures.items (within _ _ (event_text c.args.line.now.event.now) _ _ c.from_residual-in_err-print_event.ensures.0 c.print_event.ensures.begun))

pub returns-in_err-push-2 : goal.returns-in_err-push-2
returns-in_err-push-2 c = following _ _ (decimal c.args.number) _ _ _ c.in_ok-print_count.ensures.ok (following _ _ (32 ∷ []) _ _ _ c.in_ok-push.ensures.items (following _ _ (event_text c.args.line.now.event.now) _ _ _ c.in_ok-print_event.ensures.whole (none_of _ _ _ _ c.from_residual-in_err-push-2.ensures.0 c.in_err-push-2.ensures.items)))

pub returns : goal.returns
returns c = following _ _ (decimal c.args.number) _ _ _ c.in_ok-print_count.ensures.ok (following _ _ (32 ∷ []) _ _ _ c.in_ok-push.ensures.items (following _ _ (event_text c.args.line.now.event.now) _ _ _ c.in_ok-print_event.ensures.whole (following _ _ (10 ∷ []) _ _ _ c.in_ok-push-2.ensures.items c.print_shown.ensures)))
