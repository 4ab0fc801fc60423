use Rattle.std.proofs.Common.{◌≡◌}
use Rattle.vp_drawing.proofs.Flowing.{Playing}
use Rattle.vp_drawing.proofs.drawing.draw_events.Given as goal

abbrev pub invariant-loop-event : goal.invariant-loop-event
invariant-loop-event l = record {
  count : l.number ≡ l.event-index;
  so_far : Playing (record { catalogue = l.catalog; events = l.events }) l.fn.part l.event-index l.world l.drawing;
}
