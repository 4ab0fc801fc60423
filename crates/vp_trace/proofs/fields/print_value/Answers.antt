use Rattle.std.proofs.Common.{[], ◌∷◌}
use Rattle.vp_text.proofs.Printing.{all_or_none}
use Rattle.vp_catalog.proofs.Printed.{following, none_of}
use Rattle.vp_trace.proofs.fields.print_value.Goals as goal

pub returns-in_err-push : goal.returns-in_err-push
returns-in_err-push c = none_of _ _ _ _ c.from_residual.ensures.0 c.in_err-push.ensures.items

pub returns : goal.returns
returns c = following _ _ (32 ∷ []) _ _ _ c.in_ok-push.ensures.items (all_or_none _ _ c.args.value.now _ c.print.ensures.ok c.print.ensures.err)
