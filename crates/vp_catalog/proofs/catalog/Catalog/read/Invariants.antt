use Rattle.std.proofs.Common.{length}
use Rattle.vp_catalog.proofs.Steps.{Stands}
use Rattle.vp_catalog.proofs.catalog.Catalog.read.Given as goal

abbrev pub invariant-loop-cursor : goal.invariant-loop-cursor
invariant-loop-cursor l = Stands l.text l.cursor l.catalog l.line

abbrev pub decreases-loop-cursor : goal.decreases-loop-cursor
decreases-loop-cursor l = length l.cursor
