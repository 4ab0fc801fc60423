use Rattle.vp_model.proofs.Computed.Absent.{absent, absent-history}
use Rattle.vp_model.proofs.worked.absent.Goals as goal

pub returns-clause-lines : goal.returns-clause-lines
returns-clause-lines c = absent

pub returns-clause-history : goal.returns-clause-history
returns-clause-history c = absent-history
