use Rattle.vp_model.proofs.Computed.RepeatedViewCommit.{repeated_view_commit, repeated_view_commit-history}
use Rattle.vp_model.proofs.worked.repeated_view_commit.Goals as goal

pub returns-clause-lines : goal.returns-clause-lines
returns-clause-lines c = repeated_view_commit

pub returns-clause-history : goal.returns-clause-history
returns-clause-history c = repeated_view_commit-history
