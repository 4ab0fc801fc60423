use Rattle.std.proofs.Common.{[], ◌∷◌}
use Rattle.std.specs.Fmt.{decimal}
use Rattle.vp_text.proofs.Printing.{all_or_none}
use Rattle.vp_catalog.proofs.Printed.{following, none_of}
use Rattle.vp_trace.proofs.calls.print_pair.Goals as goal

pub returns-in_err-print_word : goal.returns-in_err-print_word
returns-in_err-print_word c = none_of _ _ _ _ c.from_residual.ensures.0 c.in_err-print_word.ensures.err

pub returns-in_err-print : goal.returns-in_err-print
returns-in_err-print c = following _ _ c.args.word.now _ _ _ c.in_ok-print_word.ensures.ok (none_of _ _ _ _ c.from_residual-in_err-print.ensures.0 c.in_err-print.ensures.err)

pub returns-in_err-push : goal.returns-in_err-push
returns-in_err-push c = following _ _ c.args.word.now _ _ _ c.in_ok-print_word.ensures.ok (following _ _ (decimal c.args.a) _ _ _ c.in_ok-print.ensures.ok (none_of _ _ _ _ c.from_residual-in_err-push.ensures.0 c.in_err-push.ensures.items))

pub returns : goal.returns
returns c = following _ _ c.args.word.now _ _ _ c.in_ok-print_word.ensures.ok (following _ _ (decimal c.args.a) _ _ _ c.in_ok-print.ensures.ok (following _ _ (32 ∷ []) _ _ _ c.in_ok-push.ensures.items (all_or_none _ _ (decimal c.args.b) _ c.print-2.ensures.ok c.print-2.ensures.err)))
