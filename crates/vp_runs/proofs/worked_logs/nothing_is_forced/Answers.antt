use Rattle.std.proofs.Common.{refl}
use Rattle.vp_model.proofs.Computed.{computes}
use Rattle.vp_runs.proofs.WorkedRuns.{spells}
use Rattle.vp_runs.specs.Kept.{kept}
use Rattle.vp_runs.proofs.worked_logs.nothing_is_forced.Goals as goal

pub returns-clause-one : goal.returns-clause-one
unfolding computes spells kept
returns-clause-one c = refl

pub returns-clause-two : goal.returns-clause-two
unfolding computes spells kept
returns-clause-two c = refl
