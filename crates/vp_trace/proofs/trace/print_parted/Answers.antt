use Rattle.std.proofs.Common.{◌++◌, ◌∷◌}
use Rattle.std.specs.Fmt.{decimal}
use Rattle.std.specs.Prelude.{codes}
use Rattle.vp_text.proofs.Printing.{all_of}
use Rattle.vp_catalog.proofs.Printed.{following, none_of, within}
use Rattle.vp_trace.proofs.trace.print_parted.Goals as goal

pub returns-in_err-print_site : goal.returns-in_err-print_site
returns-in_err-print_site c = within _ _ (codes " cut " ++ decimal c.args.from) _ _ c.from_residual.ensures.0 c.print_site.ensures.begun

pub returns-in_err-print_site-2 : goal.returns-in_err-print_site-2
returns-in_err-print_site-2 c = following _ _ (codes " cut " ++ decimal c.args.from) _ _ _ c.in_ok-print_site.ensures.whole (within _ _ (32 ∷ decimal c.args.to) _ _ c.from_residual-in_err-print_site-2.ensures.0 c.print_site-2.ensures.begun)

pub returns-in_err-push : goal.returns-in_err-push
returns-in_err-push c = following _ _ (codes " cut " ++ decimal c.args.from) _ _ _ c.in_ok-print_site.ensures.whole (following _ _ (32 ∷ decimal c.args.to) _ _ _ c.in_ok-print_site-2.ensures.whole (none_of _ _ _ _ c.from_residual-in_err-push.ensures.0 c.in_err-push.ensures.items))

pub returns : goal.returns
returns c = following _ _ (codes " cut " ++ decimal c.args.from) _ _ _ c.in_ok-print_site.ensures.whole (following _ _ (32 ∷ decimal c.args.to) _ _ _ c.in_ok-print_site-2.ensures.whole (all_of _ _ _ c.in_ok-push.ensures.items))
