use Rattle.std.specs.Prelude.{codes}
use Rattle.vp_catalog.proofs.Printed.{following, none_of}
use Rattle.vp_trace.proofs.messages.print_put_absent.Goals as goal

pub returns-in_err-print_word : goal.returns-in_err-print_word
returns-in_err-print_word c = none_of _ _ _ _ c.from_residual.ensures.0 c.in_err-print_word.ensures.err

pub returns : goal.returns
returns c = following _ _ (codes " d ") _ _ _ c.in_ok-print_word.ensures.ok c.print_record.ensures
