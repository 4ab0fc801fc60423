use Rattle.vp_model.proofs.Computed.LostVote.{lost_vote, lost_vote-history}
use Rattle.vp_model.proofs.worked.lost_vote.Goals as goal

pub returns-clause-lines : goal.returns-clause-lines
returns-clause-lines c = lost_vote

pub returns-clause-history : goal.returns-clause-history
returns-clause-history c = lost_vote-history
