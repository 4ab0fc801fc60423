use Rattle.std.specs.Fmt.{decimal}
use Rattle.vp_text.proofs.Printing.{all_of}
use Rattle.vp_catalog.proofs.Printed.{following, none_of}
use Rattle.vp_trace.proofs.trace.print_told.Goals as goal

pub returns-in_err-print_word : goal.returns-in_err-print_word
returns-in_err-print_word c = none_of _ _ _ _ c.from_residual.ensures.0 c.in_err-print_word.ensures.err

pub returns-in_err-print_count : goal.returns-in_err-print_count
returns-in_err-print_count c = following _ _ c.args.word.now _ _ _ c.in_ok-print_word.ensures.ok (none_of _ _ _ _ c.from_residual-in_err-print_count.ensures.0 c.in_err-print_count.ensures.err)

pub returns-in_err-push : goal.returns-in_err-push
returns-in_err-push c = following _ _ c.args.word.now _ _ _ c.in_ok-print_word.ensures.ok (following _ _ (decimal c.args.number) _ _ _ c.in_ok-print_count.ensures.ok (none_of _ _ _ _ c.from_residual-in_err-push.ensures.0 c.in_err-push.ensures.items))

pub returns : goal.returns
returns c = following _ _ c.args.word.now _ _ _ c.in_ok-print_word.ensures.ok (following _ _ (decimal c.args.number) _ _ _ c.in_ok-print_count.ensures.ok (all_of _ _ _ c.in_ok-push.ensures.items))
