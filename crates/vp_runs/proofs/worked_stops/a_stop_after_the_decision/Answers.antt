use Rattle.std.proofs.Common.{refl}
use Rattle.vp_model.proofs.Computed.{computes}
use Rattle.vp_runs.specs.Stopped.{stopped}
use Rattle.vp_runs.proofs.worked_stops.a_stop_after_the_decision.Goals as goal

pub returns-clause-events : goal.returns-clause-events
unfolding computes stopped
returns-clause-events c = refl

pub returns-clause-journal : goal.returns-clause-journal
unfolding computes stopped
returns-clause-journal c = refl
