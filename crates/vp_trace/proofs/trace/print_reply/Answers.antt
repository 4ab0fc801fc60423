use Rattle.std.specs.Prelude.{codes}
use Rattle.vp_text.proofs.Printing.{all_of}
use Rattle.vp_model.specs.Texts.Answers.{answer_text}
use Rattle.vp_catalog.proofs.Printed.{following, none_of, within}
use Rattle.vp_trace.proofs.trace.print_reply.Goals as goal

pub returns-in_err-print_word : goal.returns-in_err-print_word
returns-in_err-print_word c = none_of _ _ _ _ c.from_residual.ensures.0 c.in_err-print_word.ensures.err

pub returns-in_err-print_answer : goal.returns-in_err-print_answer
returns-in_err-print_answer c = following _ _ (codes " reply ") _ _ _ c.in_ok-print_word.ensures.ok (within _ _ (answer_text c.args.reply.now.answer) _ _ c.from_residual-in_err-print_answer.ensures.0 c.print_answer.ensures.begun)

pub returns-in_err-push : goal.returns-in_err-push
returns-in_err-push c = following _ _ (codes " reply ") _ _ _ c.in_ok-print_word.ensures.ok (following _ _ (answer_text c.args.reply.now.answer) _ _ _ c.in_ok-print_answer.ensures.whole (none_of _ _ _ _ c.from_residual-in_err-push.ensures.0 c.in_err-push.ensures.items))

pub returns : goal.returns
returns c = following _ _ (codes " reply ") _ _ _ c.in_ok-print_word.ensures.ok (following _ _ (answer_text c.args.reply.now.answer) _ _ _ c.in_ok-print_answer.ensures.whole (all_of _ _ _ c.in_ok-push.ensures.items))
