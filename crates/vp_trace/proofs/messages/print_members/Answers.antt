use Rattle.std.proofs.Common.{[], ◌++◌, ◌∷◌}
use Rattle.std.specs.Prelude.{codes}
use Rattle.vp_model.specs.Texts.Fields.{view_text}
use Rattle.vp_catalog.proofs.Printed.{following, none_of, within}
use Rattle.vp_trace.proofs.messages.print_members.Goals as goal

pub returns-in_err-print_view : goal.returns-in_err-print_view
returns-in_err-print_view c = within _ _ (codes "view " ++ view_text c.args.id.now) _ _ c.from_residual.ensures.0 c.print_view.ensures.begun

pub returns-in_err-push : goal.returns-in_err-push
returns-in_err-push c = following _ _ (codes "view " ++ view_text c.args.id.now) _ _ _ c.in_ok-print_view.ensures.whole (none_of _ _ _ _ c.from_residual-in_err-push.ensures.0 c.in_err-push.ensures.items)

pub returns : goal.returns
returns c = following _ _ (codes "view " ++ view_text c.args.id.now) _ _ _ c.in_ok-print_view.ensures.whole (following _ _ (32 ∷ []) _ _ _ c.in_ok-push.ensures.items c.print_sites.ensures)
