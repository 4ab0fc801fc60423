use Rattle.std.proofs.Common.{refl}
use Rattle.vp_model.proofs.Computed.{computes}
use Rattle.vp_runs.proofs.WorkedRuns.{spells, turns}
use Rattle.vp_runs.proofs.worked.a_begin.Goals as goal

pub returns : goal.returns
unfolding computes spells turns
returns c = refl
