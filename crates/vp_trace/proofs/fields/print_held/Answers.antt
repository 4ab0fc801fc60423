use Rattle.std.specs.Prelude.{codes}
use Rattle.vp_text.proofs.Printing.{all_or_none}
use Rattle.vp_trace.proofs.fields.print_held.Goals as goal

pub returns-in-None : goal.returns-in-None
returns-in-None c = rw c.in-None.is (all_or_none _ _ (codes "none") _ c.print_word.ensures.ok c.print_word.ensures.err)

pub returns-in-Some : goal.returns-in-Some
returns-in-Some c = rw c.in-Some.is c.print.ensures
