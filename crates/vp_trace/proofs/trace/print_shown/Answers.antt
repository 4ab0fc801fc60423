use Rattle.std.proofs.Common.{[], refl}
use Rattle.std.specs.Prelude.{codes}
use Rattle.vp_text.proofs.Printing.{all_or_none}
use Rattle.vp_trace.proofs.Printed.{no_text}
use Rattle.vp_trace.proofs.trace.print_shown.Goals as goal

pub returns-in-Nothing : goal.returns-in-Nothing
returns-in-Nothing c = rw c.in-Nothing.is (no_text _ [] refl)

pub returns-in-NoMessage : goal.returns-in-NoMessage
returns-in-NoMessage c = rw c.in-NoMessage.is (all_or_none _ _ (codes " nomessage\n") _ c.print_word.ensures.ok c.print_word.ensures.err)

pub returns-in-LivesSpent : goal.returns-in-LivesSpent
returns-in-LivesSpent c = rw c.in-LivesSpent.is c.print_told-in-LivesSpent.ensures
