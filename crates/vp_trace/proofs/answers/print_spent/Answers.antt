use Rattle.std.specs.Prelude.{codes}
use Rattle.vp_text.proofs.Printing.{all_of}
use Rattle.vp_catalog.proofs.Printed.{following, none_of}
use Rattle.vp_trace.proofs.answers.print_spent.Goals as goal

pub returns-in_err-print_word : goal.returns-in_err-print_word
returns-in_err-print_word c = none_of _ _ _ _ c.from_residual.ensures.0 c.in_err-print_word.ensures.err

pub returns-in_err-print_number : goal.returns-in_err-print_number
returns-in_err-print_number c = following _ _ (codes "spent ") _ _ _ c.in_ok-print_word.ensures.ok (none_of _ _ _ _ c.from_residual-in_err-print_number.ensures.0 c.in_err-print_number.ensures.err)

pub returns : goal.returns
returns c = following _ _ (codes "spent ") _ _ _ c.in_ok-print_word.ensures.ok (all_of _ _ _ c.in_ok-print_number.ensures.ok)
