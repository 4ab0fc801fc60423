use Rattle.std.proofs.Common.{◌++◌}
use Rattle.std.specs.Fmt.{decimal}
use Rattle.std.specs.Prelude.{codes}
use Rattle.vp_model.specs.Texts.Fields.{view_text}
use Rattle.vp_catalog.proofs.Printed.{following, none_of, within}
use Rattle.vp_trace.proofs.answers.print_change.Goals as goal

pub returns-in_err-print_site : goal.returns-in_err-print_site
returns-in_err-print_site c = within _ _ (codes " at " ++ decimal c.args.at) _ _ c.from_residual.ensures.0 c.print_site.ensures.begun

pub returns-in_err-print_view : goal.returns-in_err-print_view
returns-in_err-print_view c = following _ _ (codes " at " ++ decimal c.args.at) _ _ _ c.in_ok-print_site.ensures.whole (within _ _ (codes " held " ++ view_text c.args.held.now) _ _ c.from_residual-in_err-print_view.ensures.0 c.print_view.ensures.begun)

pub returns-in_err-print_word : goal.returns-in_err-print_word
returns-in_err-print_word c = following _ _ (codes " at " ++ decimal c.args.at) _ _ _ c.in_ok-print_site.ensures.whole (following _ _ (codes " held " ++ view_text c.args.held.now) _ _ _ c.in_ok-print_view.ensures.whole (none_of _ _ _ _ c.from_residual-in_err-print_word.ensures.0 c.in_err-print_word.ensures.err))

pub returns : goal.returns
returns c = following _ _ (codes " at " ++ decimal c.args.at) _ _ _ c.in_ok-print_site.ensures.whole (following _ _ (codes " held " ++ view_text c.args.held.now) _ _ _ c.in_ok-print_view.ensures.whole (following _ _ (codes " now ") _ _ _ c.in_ok-print_word.ensures.ok c.print_held.ensures))
