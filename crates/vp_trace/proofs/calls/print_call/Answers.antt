use Rattle.std.specs.Prelude.{codes}
use Rattle.vp_text.proofs.Printing.{all_or_none}
use Rattle.vp_trace.proofs.calls.print_call.Goals as goal

pub returns-in-Begin : goal.returns-in-Begin
returns-in-Begin c = rw c.in-Begin.is (all_or_none _ _ (codes "begin") _ c.print_word.ensures.ok c.print_word.ensures.err)

pub returns-in-Regroup : goal.returns-in-Regroup
returns-in-Regroup c = rw c.in-Regroup.is (all_or_none _ _ (codes "regroup") _ c.print_word-in-Regroup.ensures.ok c.print_word-in-Regroup.ensures.err)

pub returns-in-Read : goal.returns-in-Read
returns-in-Read c = rw c.in-Read.is c.print_named.ensures

pub returns-in-Write : goal.returns-in-Write
returns-in-Write c = rw c.in-Write.is c.print_write.ensures

pub returns-in-Delete : goal.returns-in-Delete
returns-in-Delete c = rw c.in-Delete.is c.print_named-in-Delete.ensures

pub returns-in-Commit : goal.returns-in-Commit
returns-in-Commit c = rw c.in-Commit.is c.print_end.ensures

pub returns-in-Abort : goal.returns-in-Abort
returns-in-Abort c = rw c.in-Abort.is c.print_end-in-Abort.ensures
