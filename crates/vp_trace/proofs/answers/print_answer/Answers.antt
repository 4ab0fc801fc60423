use Rattle.std.specs.Prelude.{codes}
use Rattle.vp_text.proofs.Printing.{all_or_none}
use Rattle.vp_trace.proofs.answers.print_answer.Goals as goal

pub returns-in-Begun : goal.returns-in-Begun
returns-in-Begun c = rw c.in-Begun.is c.print_begun.ensures

pub returns-in-Value : goal.returns-in-Value
returns-in-Value c = rw c.in-Value.is c.print_read.ensures

pub returns-in-Written : goal.returns-in-Written
returns-in-Written c = rw c.in-Written.is c.print_numbered.ensures

pub returns-in-Absent : goal.returns-in-Absent
returns-in-Absent c = rw c.in-Absent.is c.print_numbered-in-Absent.ensures

pub returns-in-Deleted : goal.returns-in-Deleted
returns-in-Deleted c = rw c.in-Deleted.is c.print_numbered-in-Deleted.ensures

pub returns-in-Weighed : goal.returns-in-Weighed
returns-in-Weighed c = rw c.in-Weighed.is c.print_numbered-in-Weighed.ensures

pub returns-in-BadTable : goal.returns-in-BadTable
returns-in-BadTable c = rw c.in-BadTable.is c.print_numbered-in-BadTable.ensures

pub returns-in-Committed : goal.returns-in-Committed
returns-in-Committed c = rw c.in-Committed.is c.print_numbered-in-Committed.ensures

pub returns-in-Aborted : goal.returns-in-Aborted
returns-in-Aborted c = rw c.in-Aborted.is c.print_numbered-in-Aborted.ensures

pub returns-in-Inviting : goal.returns-in-Inviting
returns-in-Inviting c = rw c.in-Inviting.is c.print_view.ensures

pub returns-in-NoView : goal.returns-in-NoView
returns-in-NoView c = rw c.in-NoView.is c.print_view-in-NoView.ensures

pub returns-in-Unknown : goal.returns-in-Unknown
returns-in-Unknown c = rw c.in-Unknown.is c.print_txn.ensures

pub returns-in-Skipped : goal.returns-in-Skipped
returns-in-Skipped c = rw c.in-Skipped.is c.print_skipped.ensures

pub returns-in-Busy : goal.returns-in-Busy
returns-in-Busy c = rw c.in-Busy.is c.print_numbered-in-Busy.ensures

pub returns-in-NoRecord : goal.returns-in-NoRecord
returns-in-NoRecord c = rw c.in-NoRecord.is c.print_numbered-in-NoRecord.ensures

pub returns-in-TooManyOps : goal.returns-in-TooManyOps
returns-in-TooManyOps c = rw c.in-TooManyOps.is c.print_numbered-in-TooManyOps.ensures

pub returns-in-Inaccessible : goal.returns-in-Inaccessible
returns-in-Inaccessible c = rw c.in-Inaccessible.is c.print_inaccessible.ensures

pub returns-in-LockHeld : goal.returns-in-LockHeld
returns-in-LockHeld c = rw c.in-LockHeld.is c.print_lock_held.ensures

pub returns-in-ViewChanged : goal.returns-in-ViewChanged
returns-in-ViewChanged c = rw c.in-ViewChanged.is c.print_view_changed.ensures

pub returns-in-TimedOut : goal.returns-in-TimedOut
returns-in-TimedOut c = rw c.in-TimedOut.is c.print_timed_out.ensures

pub returns-in-Spent : goal.returns-in-Spent
returns-in-Spent c = rw c.in-Spent.is c.print_spent.ensures

pub returns-in-TooManyLive : goal.returns-in-TooManyLive
returns-in-TooManyLive c = rw c.in-TooManyLive.is (all_or_none _ _ (codes "toomanylive 1024") _ c.print_word.ensures.ok c.print_word.ensures.err)
