use Rattle.vp_model.specs.World.{run_from}
use Rattle.vp_runs.specs.Stopped.{run_in}
use Rattle.vp_stopping.specs.AfterStop.{IsAfterStop}
use Rattle.vp_stopping.proofs.Going.{Going, most_left}
use Rattle.vp_stopping.proofs.stopped.Steps.go_on.Given as goal

abbrev pub invariant-loop-steps : goal.invariant-loop-steps
invariant-loop-steps l = record {
  going : Going l.fn.self.world.catalogue (run_from l.fn.self.world.catalogue 1 l.fn.left (run_in l.fn.self.world.world)) l.fn.self.done l.steps l.left;
  waits : IsAfterStop l.steps.world.catalogue l.steps.world.world l.following;
}

abbrev pub decreases-loop-steps : goal.decreases-loop-steps
decreases-loop-steps l = most_left l.left
