use Rattle.std.proofs.Common.{refl}
use Rattle.vp_model.proofs.Computed.{computes}
use Rattle.vp_runs.proofs.WorkedRuns.{spells}
use Rattle.vp_runs.specs.Kept.{kept}
use Rattle.vp_runs.proofs.worked_logs.lives_begin.Goals as goal

pub returns-clause-first : goal.returns-clause-first
unfolding computes spells kept
returns-clause-first c = refl

pub returns-clause-again : goal.returns-clause-again
unfolding computes spells kept
returns-clause-again c = refl
