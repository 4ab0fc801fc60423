use Rattle.std.proofs.Common.{[], ◌∷◌}
use Rattle.std.specs.Fmt.{decimal}
use Rattle.std.specs.Prelude.{codes}
use Rattle.vp_text.proofs.Printing.{all_of, begun_err}
use Rattle.vp_catalog.proofs.Printed.{following, none_of}
use Rattle.vp_trace.proofs.trace.print_sent.Goals as goal

pub returns-in_err-print_word : goal.returns-in_err-print_word
returns-in_err-print_word c = none_of _ _ _ _ c.from_residual.ensures.0 c.in_err-print_word.ensures.err

pub returns-in_err-print_number : goal.returns-in_err-print_number
returns-in_err-print_number c = following _ _ (codes " sent ") _ _ _ c.in_ok-print_word.ensures.ok (none_of _ _ _ _ c.from_residual-in_err-print_number.ensures.0 c.in_err-print_number.ensures.err)

pub returns-in_err-push : goal.returns-in_err-push
returns-in_err-push c = following _ _ (codes " sent ") _ _ _ c.in_ok-print_word.ensures.ok (following _ _ (decimal c.args.k) _ _ _ c.in_ok-print_number.ensures.ok (none_of _ _ _ _ c.from_residual-in_err-push.ensures.0 c.in_err-push.ensures.items))

pub returns-in_err-print_routed : goal.returns-in_err-print_routed
returns-in_err-print_routed c = following _ _ (codes " sent ") _ _ _ c.in_ok-print_word.ensures.ok (following _ _ (decimal c.args.k) _ _ _ c.in_ok-print_number.ensures.ok (following _ _ (32 ∷ []) _ _ _ c.in_ok-push.ensures.items (begun_err _ _ _ _ c.from_residual-in_err-print_routed.ensures.0 c.print_routed.ensures.begun)))

pub returns : goal.returns
returns c = following _ _ (codes " sent ") _ _ _ c.in_ok-print_word.ensures.ok (following _ _ (decimal c.args.k) _ _ _ c.in_ok-print_number.ensures.ok (following _ _ (32 ∷ []) _ _ _ c.in_ok-push.ensures.items (all_of _ _ _ c.in_ok-print_routed.ensures.whole)))
