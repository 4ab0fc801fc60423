use Rattle.std.proofs.Common.{[], ◌∷◌}
use Rattle.std.specs.Fmt.{decimal}
use Rattle.vp_text.proofs.Printing.{all_of}
use Rattle.vp_catalog.proofs.Printed.{following, none_of}
use Rattle.vp_catalog.proofs.printing.print_pair.Goals as goal

pub returns-in_err-extend_from_slice : goal.returns-in_err-extend_from_slice
returns-in_err-extend_from_slice c = none_of _ _ _ _ c.from_residual.ensures.0 c.in_err-extend_from_slice.ensures.items

pub returns-in_err-print : goal.returns-in_err-print
returns-in_err-print c = following _ _ c.args.before.now _ _ _ c.in_ok-extend_from_slice.ensures.items (none_of _ _ _ _ c.from_residual-in_err-print.ensures.0 c.in_err-print.ensures.err)

pub returns-in_err-push : goal.returns-in_err-push
returns-in_err-push c = following _ _ c.args.before.now _ _ _ c.in_ok-extend_from_slice.ensures.items (following _ _ (decimal c.args.pair.now.0) _ _ _ c.in_ok-print.ensures.ok (none_of _ _ _ _ c.from_residual-in_err-push.ensures.0 c.in_err-push.ensures.items))

pub returns-in_err-print_number : goal.returns-in_err-print_number
returns-in_err-print_number c = following _ _ c.args.before.now _ _ _ c.in_ok-extend_from_slice.ensures.items (following _ _ (decimal c.args.pair.now.0) _ _ _ c.in_ok-print.ensures.ok (following _ _ (c.args.mark ∷ []) _ _ _ c.in_ok-push.ensures.items (none_of _ _ _ _ c.from_residual-in_err-print_number.ensures.0 c.in_err-print_number.ensures.err)))

pub returns : goal.returns
returns c = following _ _ c.args.before.now _ _ _ c.in_ok-extend_from_slice.ensures.items (following _ _ (decimal c.args.pair.now.0) _ _ _ c.in_ok-print.ensures.ok (following _ _ (c.args.mark ∷ []) _ _ _ c.in_ok-push.ensures.items (all_of _ (decimal c.args.pair.now.1) _ (rw c.from.ensures at c.in_ok-print_number.ensures.ok))))
