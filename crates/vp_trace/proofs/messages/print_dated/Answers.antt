use Rattle.std.proofs.Common.{◌∷◌}
use Rattle.vp_model.specs.Texts.Fields.{view_text}
use Rattle.vp_catalog.proofs.Printed.{following, within}
use Rattle.vp_trace.proofs.messages.print_dated.Goals as goal

pub returns-in_err-print_view : goal.returns-in_err-print_view
returns-in_err-print_view c = within _ _ (32 ∷ view_text c.args.stored.now.date) _ _ c.from_residual.ensures.0 c.print_view.ensures.begun

pub returns : goal.returns
returns c = following _ _ (32 ∷ view_text c.args.stored.now.date) _ _ _ c.in_ok-print_view.ensures.whole c.print_own_table.ensures
