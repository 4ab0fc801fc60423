use Rattle.std.proofs.Common.{◌++◌, ◌∷◌}
use Rattle.std.specs.Prelude.{codes}
use Rattle.vp_model.specs.Catalogue.{name_of}
use Rattle.vp_model.specs.Texts.Fields.{view_text}
use Rattle.vp_catalog.proofs.Printed.{following, within}
use Rattle.vp_trace.proofs.messages.print_copy_value.Goals as goal

pub returns-in_err-print_refreshed : goal.returns-in_err-print_refreshed
returns-in_err-print_refreshed c = within _ _ (codes "refresh-answer " ++ (view_text c.args.view.now ++ 32 ∷ name_of c.args.catalog.now c.args.rec)) _ _ c.from_residual.ensures.0 c.print_refreshed.ensures.begun

pub returns : goal.returns
returns c = following _ _ (codes "refresh-answer " ++ (view_text c.args.view.now ++ 32 ∷ name_of c.args.catalog.now c.args.rec)) _ _ _ c.in_ok-print_refreshed.ensures.whole c.print_value.ensures
