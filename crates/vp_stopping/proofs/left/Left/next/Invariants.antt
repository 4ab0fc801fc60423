use Rattle.std.proofs.Common.{◌≡◌}
use Rattle.vp_stopping.specs.Left.{next_single, left_then}
use Rattle.vp_stopping.proofs.left.Left.next.Given as goal

abbrev pub invariant-loop-event : goal.invariant-loop-event
invariant-loop-event l = record {
  event : next_single l.world.world l.self-inside.events.items ≡ next_single l.world.world l.initial.self-inside.events.items;
  left : left_then l.world.world l.self-inside.events.items ≡ left_then l.world.world l.initial.self-inside.events.items;
}

abbrev pub decreases-loop-event : goal.decreases-loop-event
decreases-loop-event l = l.self-inside.events.len
