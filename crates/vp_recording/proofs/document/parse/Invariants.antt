use Rattle.std.proofs.Common.{length}
use Rattle.vp_recording.proofs.Steps.{Stands}
use Rattle.vp_recording.proofs.document.parse.Given as goal

abbrev pub invariant-loop-cursor : goal.invariant-loop-cursor
invariant-loop-cursor l = Stands l.text l.cursor l.draft l.line

abbrev pub decreases-loop-cursor : goal.decreases-loop-cursor
decreases-loop-cursor l = length l.cursor
