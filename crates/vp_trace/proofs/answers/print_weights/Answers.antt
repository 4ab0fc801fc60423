use Rattle.std.proofs.Common.{[], ◌∷◌}
use Rattle.std.specs.Fmt.{decimal}
use Rattle.vp_catalog.proofs.Printed.{following, none_of, within}
use Rattle.vp_trace.proofs.answers.print_weights.Goals as goal

pub returns-in_err-push : goal.returns-in_err-push
returns-in_err-push c = none_of _ _ _ _ c.from_residual.ensures.0 c.in_err-push.ensures.items

pub returns-in_err-print : goal.returns-in_err-print
returns-in_err-print c = following _ _ (32 ∷ []) _ _ _ c.in_ok-push.ensures.items (none_of _ _ _ _ c.from_residual-in_err-print.ensures.0 c.in_err-print.ensures.err)

pub returns-in_err-print_counted : goal.returns-in_err-print_counted
returns-in_err-print_counted c = following _ _ (32 ∷ []) _ _ _ c.in_ok-push.ensures.items (following _ _ c.args.name.now _ _ _ c.in_ok-print.ensures.ok (within _ _ (32 ∷ decimal c.args.inside) _ _ c.from_residual-in_err-print_counted.ensures.0 c.print_counted.ensures.begun))

pub returns : goal.returns
returns c = following _ _ (32 ∷ []) _ _ _ c.in_ok-push.ensures.items (following _ _ c.args.name.now _ _ _ c.in_ok-print.ensures.ok (following _ _ (32 ∷ decimal c.args.inside) _ _ _ c.in_ok-print_counted.ensures.whole c.print_counted-2.ensures))
