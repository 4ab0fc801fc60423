use Rattle.vp_model.specs.Texts.Fields.{view_text}
use Rattle.vp_catalog.proofs.Printed.{following, none_of, within}
use Rattle.vp_trace.proofs.messages.print_refreshed.Goals as goal

pub returns-in_err-print_word : goal.returns-in_err-print_word
returns-in_err-print_word c = none_of _ _ _ _ c.from_residual.ensures.0 c.in_err-print_word.ensures.err

pub returns-in_err-print : goal.returns-in_err-print
returns-in_err-print c = following _ _ c.args.word.now _ _ _ c.in_ok-print_word.ensures.ok (within _ _ (view_text c.args.view.now) _ _ c.from_residual-in_err-print.ensures.0 c.print.ensures.begun)

pub returns : goal.returns
returns c = following _ _ c.args.word.now _ _ _ c.in_ok-print_word.ensures.ok (following _ _ (view_text c.args.view.now) _ _ _ c.in_ok-print.ensures.whole c.print_record_after.ensures)
