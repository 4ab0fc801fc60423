use Rattle.std.proofs.Common.{length}
use Rattle.vp_onecopy.proofs.Passes.{PassedSoFar}
use Rattle.vp_onecopy.proofs.passing.pass_over.Given as goal

abbrev pub invariant-loop-other : goal.invariant-loop-other
invariant-loop-other l = PassedSoFar l.fn.cursor l.cursor l.passed

abbrev pub decreases-loop-other : goal.decreases-loop-other
decreases-loop-other l = length l.cursor
