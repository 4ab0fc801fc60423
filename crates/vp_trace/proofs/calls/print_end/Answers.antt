use Rattle.vp_text.proofs.Printing.{all_or_none}
use Rattle.vp_model.specs.Texts.Fields.{call_name_text}
use Rattle.vp_catalog.proofs.Printed.{following, within}
use Rattle.vp_trace.proofs.calls.print_end.Goals as goal

pub returns-in_err-print_call_name : goal.returns-in_err-print_call_name
returns-in_err-print_call_name c = within _ _ (call_name_text c.args.txn.now c.args.number) _ _ c.from_residual.ensures.0 c.print_call_name.ensures.begun

pub returns : goal.returns
returns c = following _ _ (call_name_text c.args.txn.now c.args.number) _ _ _ c.in_ok-print_call_name.ensures.whole (all_or_none _ _ c.args.word.now _ c.print_word.ensures.ok c.print_word.ensures.err)
