use Rattle.std.proofs.Common.{refl}
use Rattle.vp_model.proofs.Computed.{computes}
use Rattle.vp_runs.proofs.WorkedRuns.{spells}
use Rattle.vp_fitting.specs.Asked.{asks}
use Rattle.vp_fitting.specs.Merged.{lowest, merged_from, merged}
use Rattle.vp_fitting.proofs.worked.a_vote_that_nobody_sent.Goals as goal

pub returns-clause-first : goal.returns-clause-first
unfolding computes spells asks lowest merged_from merged
returns-clause-first c = refl

pub returns-clause-second : goal.returns-clause-second
unfolding computes spells asks lowest merged_from merged
returns-clause-second c = refl
