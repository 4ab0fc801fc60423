use Rattle.std.proofs.Common.{arith}
use Rattle.vp_stopping.proofs.Crashing.{one_lost}
use Rattle.vp_stopping.proofs.stopped.Steps.lose.Goals as goal

pub loop-sent-preserved : goal.loop-sent-preserved
loop-sent-preserved c = record {
  least = omega arith;
  done = (
    one_lost c.args.self.now.world.catalogue c.args.self.now.world.world c.args.self.now.done c.args.before c.loop-sent.sent c.loop-sent.self c.pass_over.new.self c.loop-sent.invariant.least
        c.loop-sent.invariant.done c.in_ok-pass_over.ensures.passed,
    c.loop-sent.invariant.done.1,
  );
}
