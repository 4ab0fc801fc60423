use Rattle.std.proofs.Common.{◌+◌, ◌-◌, ◌≤◌}
use Rattle.std.specs.List.{range_with_len}
use Rattle.vp_runs.specs.Stopped.{pass_over}
use Rattle.vp_stopping.specs.Singles.{HaveDone}
use Rattle.vp_stopping.proofs.stopped.Steps.lose.Given as goal

abbrev pub invariant-loop-sent : goal.invariant-loop-sent
invariant-loop-sent l = record {
  least : l.before ≤ l.sent;
  done : HaveDone l.initial.self.world.catalogue l.initial.self.done (pass_over (range_with_len (l.before + 1) (l.sent - l.before)) l.initial.self.world.world) l.self;
}
