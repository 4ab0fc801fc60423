use Rattle.std.proofs.Common.{refl}
use Rattle.vp_model.proofs.Computed.{computes}
use Rattle.vp_runs.proofs.WorkedRuns.{spells, turns}
use Rattle.vp_runs.proofs.worked.an_answer_among_others.Goals as goal

pub returns-clause-none : goal.returns-clause-none
unfolding computes spells turns
returns-clause-none c = refl

pub returns-clause-right : goal.returns-clause-right
unfolding computes spells turns
returns-clause-right c = refl

pub returns-clause-unknown : goal.returns-clause-unknown
unfolding computes spells turns
returns-clause-unknown c = refl
