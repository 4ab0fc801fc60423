use Rattle.std.proofs.Common.{◌≡◌}
use Rattle.vp_playing.specs.Played.{schedule_of}
use Rattle.vp_playing.proofs.Turns.{Played}
use Rattle.vp_playing.proofs.Stepping.{Stepping}
use Rattle.vp_playing.proofs.playing.play.Given as goal

abbrev pub invariant-loop-event : goal.invariant-loop-event
invariant-loop-event g l = record {
  catalogue : l.world.catalogue ≡ l.fn.catalog;
  count : l.number ≡ l.event-index;
  so_far : Played g.O.Observer.sees (schedule_of l.fn.catalog l.events) l.event-index l.world.world l.fn.observer l.observer;
  stepped : Stepping g.S.Stepper.did (schedule_of l.fn.catalog l.events) l.event-index l.world.world l.fn.stepper l.stepper;
}
