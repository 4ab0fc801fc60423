use Rattle.std.proofs.Common.{◌≡◌}
use Rattle.vp_playing.proofs.Turns.{Flowing}
use Rattle.vp_playing.proofs.Stepping.{Delivering}
use Rattle.vp_playing.proofs.playing.play_flow.Given as goal

abbrev pub invariant-loop : goal.invariant-loop
invariant-loop g l = record {
  catalogue : l.world.catalogue ≡ l.fn.world.catalogue;
  so_far : Flowing g.O.Observer.sees l.fn.world.catalogue l.fn.number l.fn.count l.fn.world.world l.counter l.world.world l.fn.observer l.observer;
  stepped : Delivering g.S.Stepper.did l.fn.world.catalogue l.fn.number l.fn.count l.fn.world.world l.counter l.world.world l.fn.stepper l.stepper;
}
