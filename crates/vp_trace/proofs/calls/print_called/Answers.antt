use Rattle.std.proofs.Common.{[], ◌++◌, ◌∷◌}
use Rattle.std.specs.Fmt.{decimal}
use Rattle.std.specs.Prelude.{codes}
use Rattle.vp_catalog.proofs.Printed.{following, none_of, within}
use Rattle.vp_trace.proofs.calls.print_called.Goals as goal

pub returns-in_err-print_site : goal.returns-in_err-print_site
returns-in_err-print_site c = within _ _ (codes "call " ++ decimal c.args.site) _ _ c.from_residual.ensures.0 c.print_site.ensures.begun

pub returns-in_err-push : goal.returns-in_err-push
returns-in_err-push c = following _ _ (codes "call " ++ decimal c.args.site) _ _ _ c.in_ok-print_site.ensures.whole (none_of _ _ _ _ c.from_residual-in_err-push.ensures.0 c.in_err-push.ensures.items)

pub returns : goal.returns
returns c = following _ _ (codes "call " ++ decimal c.args.site) _ _ _ c.in_ok-print_site.ensures.whole (following _ _ (32 ∷ []) _ _ _ c.in_ok-push.ensures.items c.print_call.ensures)
