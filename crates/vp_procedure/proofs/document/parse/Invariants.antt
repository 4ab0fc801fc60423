use Rattle.std.proofs.Common.{length}
use Rattle.vp_procedure.proofs.Steps.{Stands}
use Rattle.vp_procedure.proofs.document.parse.Given as goal

abbrev pub invariant-loop-draft : goal.invariant-loop-draft
invariant-loop-draft l = Stands l.text l.cursor l.draft l.line

abbrev pub decreases-loop-draft : goal.decreases-loop-draft
decreases-loop-draft l = length l.cursor
