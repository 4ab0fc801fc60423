use Rattle.vp_model.proofs.Computed.TwoInviters.{two_inviters, two_inviters-history}
use Rattle.vp_model.proofs.worked.two_inviters.Goals as goal

pub returns-clause-lines : goal.returns-clause-lines
returns-clause-lines c = two_inviters

pub returns-clause-history : goal.returns-clause-history
returns-clause-history c = two_inviters-history
