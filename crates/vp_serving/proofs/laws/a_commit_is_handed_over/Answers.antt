use Rattle.std.proofs.Common.{refl}
use Rattle.vp_model.proofs.Computed.{computes}
use Rattle.vp_runs.proofs.WorkedRuns.{spells, turns}
use Rattle.vp_serving.proofs.laws.a_commit_is_handed_over.Goals as goal

pub returns-clause-at_once : goal.returns-clause-at_once
unfolding computes spells turns
returns-clause-at_once c = refl

pub returns-clause-ports : goal.returns-clause-ports
unfolding computes spells turns
returns-clause-ports c = refl
