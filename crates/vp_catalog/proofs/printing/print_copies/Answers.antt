use Rattle.std.proofs.Common.{[], ◌∷◌}
use Rattle.std.specs.Prelude.{flat_map}
use Rattle.vp_text.proofs.Printing.{all_of}
use Rattle.vp_model.specs.Texts.Fields.{weight_text}
use Rattle.vp_catalog.proofs.Printed.{following, none_of, within}
use Rattle.vp_catalog.proofs.printing.print_copies.Goals as goal

pub returns-in_err-print : goal.returns-in_err-print
returns-in_err-print c = none_of _ _ _ _ c.from_residual.ensures.0 c.in_err-print.ensures.err

pub returns-in_err-print_weights : goal.returns-in_err-print_weights
returns-in_err-print_weights c = following _ _ c.args.placed.now.start _ _ _ (rw c.start.ensures at c.in_ok-print.ensures.ok) (rw (← c.weights.ensures) (within _ _ (flat_map weight_text c.weights.result.now) _ _ c.from_residual-in_err-print_weights.ensures.0 c.print_weights.ensures.begun))

pub returns-in_err-push : goal.returns-in_err-push
returns-in_err-push c = following _ _ c.args.placed.now.start _ _ _ (rw c.start.ensures at c.in_ok-print.ensures.ok) (following _ _ (flat_map weight_text c.args.placed.now.weights) _ _ _ (rw c.weights.ensures at c.in_ok-print_weights.ensures.whole) (none_of _ _ _ _ c.from_residual-in_err-push.ensures.0 c.in_err-push.ensures.items))

pub returns : goal.returns
returns c = following _ _ c.args.placed.now.start _ _ _ (rw c.start.ensures at c.in_ok-print.ensures.ok) (following _ _ (flat_map weight_text c.args.placed.now.weights) _ _ _ (rw c.weights.ensures at c.in_ok-print_weights.ensures.whole) (all_of _ (10 ∷ []) _ c.in_ok-push.ensures.items))
