use Rattle.std.proofs.Common.{◌-◌}
use Rattle.vp_stopping.proofs.Coming.{Comes}
use Rattle.vp_stopping.proofs.stopped.come_to.Given as goal

abbrev pub invariant-loop : goal.invariant-loop
invariant-loop l = record { comes : Comes l.fn.schedule (l.counter - 1) l.front.steps l.front.nodes l.front.left }
