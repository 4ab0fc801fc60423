use Rattle.vp_laws.proofs.Words.Entries.{doubted}
use Rattle.vp_laws.proofs.claims.votes_leave_doubts.Goals as goal

pub returns : goal.returns
returns c = doubted
