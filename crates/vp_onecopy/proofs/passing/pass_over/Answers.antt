use Rattle.std.proofs.Common.{arith}
use Rattle.vp_onecopy.proofs.Passes.{read_line, read_shorter, pass_line}
use Rattle.vp_onecopy.proofs.passing.pass_over.Goals as goal

pub returns-in-Ok-clause-passes : goal.returns-in-Ok-clause-passes
returns-in-Ok-clause-passes c = read_line c.args.cursor.now c.loop-other.cursor c.literal.new.self c.loop-other.passed c.loop-other.invariant (rw c.fork-other.ensures at c.in-Ok.ensures.read)

pub overflow_add-passed : goal.overflow_add-passed
overflow_add-passed c = omega (arith, c.loop-other.invariant.bound)

pub loop-other-preserved : goal.loop-other-preserved
loop-other-preserved c =
    let size = (rw c.rest.ensures at c.in-Some.ensures) in
    rw c.advance.ensures (pass_line c.args.cursor.now c.loop-other.cursor c.loop-other.passed c.in-Some.size c.in_default.field-0.left c.loop-other.invariant (rw c.fork-other.ensures at c.in_default.ensures.read) size.0 size.1 size.2)

pub returns-in-Ok-clause-bound : goal.returns-in-Ok-clause-bound
returns-in-Ok-clause-bound c = omega (arith, c.loop-other.invariant.bound, read_shorter c.loop-other.cursor c.literal.new.self (rw c.fork-other.ensures at c.in-Ok.ensures.read))
