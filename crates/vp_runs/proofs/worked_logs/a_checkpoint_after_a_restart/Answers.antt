use Rattle.std.proofs.Common.{refl}
use Rattle.vp_model.proofs.Computed.{computes}
use Rattle.vp_runs.proofs.WorkedRuns.{spells}
use Rattle.vp_runs.specs.Kept.{kept}
use Rattle.vp_runs.proofs.worked_logs.a_checkpoint_after_a_restart.Goals as goal

pub returns-clause-none : goal.returns-clause-none
unfolding computes spells kept
returns-clause-none c = refl

pub returns-clause-one : goal.returns-clause-one
unfolding computes spells kept
returns-clause-one c = refl
