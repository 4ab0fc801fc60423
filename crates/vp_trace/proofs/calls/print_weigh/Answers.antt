use Rattle.std.specs.Prelude.{codes}
use Rattle.vp_model.specs.Texts.Fields.{call_name_text}
use Rattle.vp_catalog.proofs.Printed.{following, none_of, within}
use Rattle.vp_trace.proofs.calls.print_weigh.Goals as goal

pub returns-in_err-print_call_name : goal.returns-in_err-print_call_name
returns-in_err-print_call_name c = within _ _ (call_name_text c.args.txn.now c.args.number) _ _ c.from_residual.ensures.0 c.print_call_name.ensures.begun

pub returns-in_err-print_word : goal.returns-in_err-print_word
returns-in_err-print_word c = following _ _ (call_name_text c.args.txn.now c.args.number) _ _ _ c.in_ok-print_call_name.ensures.whole (none_of _ _ _ _ c.from_residual-in_err-print_word.ensures.0 c.in_err-print_word.ensures.err)

pub returns-in_err-print : goal.returns-in_err-print
returns-in_err-print c = following _ _ (call_name_text c.args.txn.now c.args.number) _ _ _ c.in_ok-print_call_name.ensures.whole (following _ _ (codes " weigh ") _ _ _ c.in_ok-print_word.ensures.ok (none_of _ _ _ _ c.from_residual-in_err-print.ensures.0 c.in_err-print.ensures.err))

pub returns : goal.returns
returns c = following _ _ (call_name_text c.args.txn.now c.args.number) _ _ _ c.in_ok-print_call_name.ensures.whole (following _ _ (codes " weigh ") _ _ _ c.in_ok-print_word.ensures.ok (following _ _ c.args.name.now _ _ _ c.in_ok-print.ensures.ok c.print_weights.ensures))
