use Rattle.vp_model.proofs.Computed.LateCommit.{late_commit, late_commit-history}
use Rattle.vp_model.proofs.worked.late_commit.Goals as goal

pub returns-clause-lines : goal.returns-clause-lines
returns-clause-lines c = late_commit

pub returns-clause-history : goal.returns-clause-history
returns-clause-history c = late_commit-history
