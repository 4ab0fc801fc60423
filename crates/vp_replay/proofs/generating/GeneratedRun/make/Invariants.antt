use Rattle.vp_replay.proofs.Making.{IsMaking}
use Rattle.std.proofs.Common.{◌≡◌}
use Rattle.vp_replay.proofs.generating.GeneratedRun.make.Given as goal

abbrev pub invariant-loop : goal.invariant-loop
invariant-loop l = record {
  counted : l.number ≡ l.counter;
  making : IsMaking l.fn.seed l.fn.count l.counter l.world l.draws l.self;
}
