use Rattle.std.specs.Prelude.{codes}
use Rattle.vp_text.proofs.Printing.{all_or_none}
use Rattle.vp_trace.proofs.fields.print_owner.Goals as goal

pub returns-in-Txn : goal.returns-in-Txn
returns-in-Txn c = rw c.in-Txn.is c.print.ensures

pub returns-in-Refresh : goal.returns-in-Refresh
returns-in-Refresh c = rw c.in-Refresh.is (all_or_none _ _ (codes "refresh") _ c.print_word.ensures.ok c.print_word.ensures.err)
