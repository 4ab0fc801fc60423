use Rattle.std.proofs.Common.{arith}
use Rattle.vp_onecopy.proofs.Passes.{bad_le, twice_le}
use Rattle.vp_onecopy.proofs.document.read_after.Goals as goal

pub overflow_add-result-in-Err-BadLine : goal.overflow_add-result-in-Err-BadLine
overflow_add-result-in-Err-BadLine c = omega (arith, bad_le c.args.rest.now c.in-Err-BadLine.line c.in-Err-BadLine.at (rw c.in-Err-BadLine.field-0-is at c.in-Err-BadLine.ensures))

pub overflow_add-result-in-Err-Twice-2 : goal.overflow_add-result-in-Err-Twice-2
overflow_add-result-in-Err-Twice-2 c = omega (arith, twice_le c.args.rest.now c.in-Err-Twice.line (rw c.in-Err-Twice.field-0-is at c.in-Err-Twice.ensures))
