use Rattle.std.proofs.Common.{◌≡◌, take}
use Rattle.vp_stopping.proofs.left.Left.of.Given as goal

abbrev pub invariant-loop-event : goal.invariant-loop-event
invariant-loop-event l = l.left.items ≡ take l.event-index l.events
