use Rattle.vp_model.proofs.Computed.Weighed.{weighed, weighed-history}
use Rattle.vp_model.proofs.worked.weighed.Goals as goal

pub returns-clause-lines : goal.returns-clause-lines
returns-clause-lines c = weighed

pub returns-clause-history : goal.returns-clause-history
returns-clause-history c = weighed-history
