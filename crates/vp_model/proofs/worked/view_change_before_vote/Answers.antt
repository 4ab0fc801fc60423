use Rattle.vp_model.proofs.Computed.ViewChangeBeforeVote.{view_change_before_vote, view_change_before_vote-history}
use Rattle.vp_model.proofs.worked.view_change_before_vote.Goals as goal

pub returns-clause-lines : goal.returns-clause-lines
returns-clause-lines c = view_change_before_vote

pub returns-clause-history : goal.returns-clause-history
returns-clause-history c = view_change_before_vote-history
