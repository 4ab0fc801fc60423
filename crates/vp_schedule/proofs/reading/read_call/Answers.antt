use Rattle.vp_text.proofs.Whole.{whole_ok, whole_err}
use Rattle.vp_schedule.proofs.Exact.{call_exact}
use Rattle.vp_schedule.proofs.reading.read_call.Goals as goal

pub overflow_sub-result : goal.overflow_sub-result
overflow_sub-result c = (whole_err call_exact c.args.text.now c.in-Err-Unexpected.e.left (rw (c.new-cursor.ensures, c.in-Err-Unexpected.field-0-is) at c.in-Err-Unexpected.ensures)).0

pub returns-in-Ok : goal.returns-in-Ok
returns-in-Ok c = whole_ok call_exact c.args.text.now c.in-Ok.call c.parse_whole.new.cursor (rw c.new-cursor.ensures at c.in-Ok.ensures)

pub returns-in-Err-Unexpected : goal.returns-in-Err-Unexpected
returns-in-Err-Unexpected c = (whole_err call_exact c.args.text.now c.in-Err-Unexpected.e.left (rw (c.new-cursor.ensures, c.in-Err-Unexpected.field-0-is) at c.in-Err-Unexpected.ensures)).1
