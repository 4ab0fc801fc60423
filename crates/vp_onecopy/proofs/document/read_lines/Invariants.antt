use Rattle.std.proofs.Common.{length}
use Rattle.vp_onecopy.proofs.Steps.{Stands}
use Rattle.vp_onecopy.proofs.document.read_lines.Given as goal

abbrev pub invariant-loop-history : goal.invariant-loop-history
invariant-loop-history l = Stands l.text l.cursor l.history l.line

abbrev pub decreases-loop-history : goal.decreases-loop-history
decreases-loop-history l = length l.cursor
