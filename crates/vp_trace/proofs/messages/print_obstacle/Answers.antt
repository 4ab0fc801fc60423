use Rattle.std.specs.Prelude.{codes}
use Rattle.vp_catalog.proofs.Printed.{following, none_of}
use Rattle.vp_trace.proofs.messages.print_obstacle.Goals as goal

pub returns-in_err-print_word-in-Held : goal.returns-in_err-print_word-in-Held
returns-in_err-print_word-in-Held c = rw c.in-Held.is (none_of _ _ _ _ c.from_residual.ensures.0 c.in_err-print_word-in-Held.ensures.err)

pub returns-in_ok-print_word-in-Held : goal.returns-in_ok-print_word-in-Held
returns-in_ok-print_word-in-Held c = rw c.in-Held.is (following _ _ (codes "held ") _ _ _ c.in_ok-print_word-in-Held.ensures.ok c.print_owner.ensures)

pub returns-in_err-print_word-in-OtherView : goal.returns-in_err-print_word-in-OtherView
returns-in_err-print_word-in-OtherView c = rw c.in-OtherView.is (none_of _ _ _ _ c.from_residual-in_err-print_word-in-OtherView.ensures.0 c.in_err-print_word-in-OtherView.ensures.err)

pub returns-in_ok-print_word-in-OtherView : goal.returns-in_ok-print_word-in-OtherView
returns-in_ok-print_word-in-OtherView c = rw c.in-OtherView.is (following _ _ (codes "view ") _ _ _ c.in_ok-print_word-in-OtherView.ensures.ok c.print_held.ensures)

pub returns-in-Barred : goal.returns-in-Barred
returns-in-Barred c = rw c.in-Barred.is c.print_barred.ensures
