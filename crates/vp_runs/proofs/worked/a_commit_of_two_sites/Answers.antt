use Rattle.std.proofs.Common.{refl}
use Rattle.vp_model.proofs.Computed.{computes}
use Rattle.vp_runs.proofs.WorkedRuns.{spells, turns}
use Rattle.vp_runs.proofs.worked.a_commit_of_two_sites.Goals as goal

pub returns-clause-ports : goal.returns-clause-ports
unfolding computes spells turns
returns-clause-ports c = refl

pub returns-clause-log : goal.returns-clause-log
unfolding computes spells turns
returns-clause-log c = refl
