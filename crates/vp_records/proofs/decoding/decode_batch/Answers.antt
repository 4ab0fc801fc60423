use Rattle.vp_records.proofs.Batches.{batch_ok, batch_err}
use Rattle.vp_records.proofs.decoding.decode_batch.Goals as goal

pub overflow_sub-result : goal.overflow_sub-result
overflow_sub-result c = (batch_err c.args.bytes.now c.in-Err-Unexpected.e.left (rw (c.new-cursor.ensures, c.in-Err-Unexpected.field-0-is) at c.in-Err-Unexpected.ensures)).0

pub returns-in-Ok : goal.returns-in-Ok
returns-in-Ok c = batch_ok c.args.bytes.now c.in-Ok.batch c.read_batch.new.cursor (rw c.new-cursor.ensures at c.in-Ok.ensures)

pub returns-in-Err-Unexpected : goal.returns-in-Err-Unexpected
returns-in-Err-Unexpected c = (batch_err c.args.bytes.now c.in-Err-Unexpected.e.left (rw (c.new-cursor.ensures, c.in-Err-Unexpected.field-0-is) at c.in-Err-Unexpected.ensures)).1
