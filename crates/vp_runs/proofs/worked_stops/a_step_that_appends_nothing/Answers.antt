use Rattle.std.proofs.Common.{refl}
use Rattle.vp_model.proofs.Computed.{computes}
use Rattle.vp_runs.specs.Stopped.{stopped}
use Rattle.vp_runs.proofs.worked_stops.a_step_that_appends_nothing.Goals as goal

pub returns-clause-none : goal.returns-clause-none
unfolding computes stopped
returns-clause-none c = refl

pub returns-clause-following : goal.returns-clause-following
unfolding computes stopped
returns-clause-following c = refl

pub returns-clause-unforced : goal.returns-clause-unforced
unfolding computes stopped
returns-clause-unforced c = refl

pub returns-clause-restart : goal.returns-clause-restart
unfolding computes stopped
returns-clause-restart c = refl
