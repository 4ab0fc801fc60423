use Rattle.vp_text.proofs.Whole.{whole_ok, whole_err}
use Rattle.vp_text.proofs.Classes.{class_exact}
use Rattle.vp_base.proofs.text.whole_word.Goals as goal

pub overflow_sub-result : goal.overflow_sub-result
overflow_sub-result c = (whole_err (class_exact c.args.class) c.args.text.now c.in-Err.e.left (rw c.new-cursor.ensures at c.in-Err.ensures)).0

pub returns-in-Ok : goal.returns-in-Ok
returns-in-Ok c = whole_ok (class_exact c.args.class) c.args.text.now c.in-Ok.word.now c.parse_whole.new.cursor (rw c.new-cursor.ensures at c.in-Ok.ensures)

pub returns-in-Err : goal.returns-in-Err
returns-in-Err c = (whole_err (class_exact c.args.class) c.args.text.now c.in-Err.e.left (rw c.new-cursor.ensures at c.in-Err.ensures)).1
