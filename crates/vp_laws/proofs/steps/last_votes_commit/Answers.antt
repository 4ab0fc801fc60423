use Rattle.vp_laws.proofs.Words.Completing.{last_votes_commit}
use Rattle.vp_laws.proofs.steps.last_votes_commit.Goals as goal

pub returns : goal.returns
returns c = last_votes_commit
