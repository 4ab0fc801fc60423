use Rattle.vp_text.proofs.Whole.{whole_ok, whole_err}
use Rattle.vp_base.proofs.Txns.{txn_exact}
use Rattle.vp_base.proofs.ids.TxnId.read.Goals as goal

pub overflow_sub-result : goal.overflow_sub-result
overflow_sub-result c = (whole_err txn_exact c.args.text.now c.in-Err.e.left (rw c.new-cursor.ensures at c.in-Err.ensures)).0

pub returns-in-Ok : goal.returns-in-Ok
returns-in-Ok c = whole_ok txn_exact c.args.text.now c.in-Ok.txn c.parse_whole.new.cursor (rw c.new-cursor.ensures at c.in-Ok.ensures)

pub returns-in-Err : goal.returns-in-Err
returns-in-Err c = (whole_err txn_exact c.args.text.now c.in-Err.e.left (rw c.new-cursor.ensures at c.in-Err.ensures)).1
