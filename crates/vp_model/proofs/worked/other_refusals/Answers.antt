use Rattle.vp_model.proofs.Computed.OtherRefusals.{other_refusals, other_refusals-history}
use Rattle.vp_model.proofs.worked.other_refusals.Goals as goal

pub returns-clause-lines : goal.returns-clause-lines
returns-clause-lines c = other_refusals

pub returns-clause-history : goal.returns-clause-history
returns-clause-history c = other_refusals-history
