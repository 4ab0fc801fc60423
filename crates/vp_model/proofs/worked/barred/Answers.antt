use Rattle.vp_model.proofs.Computed.Barred.{barred, barred-refusals, barred-ends}
use Rattle.vp_model.proofs.worked.barred.Goals as goal

pub returns-clause-answers : goal.returns-clause-answers
returns-clause-answers c = barred

pub returns-clause-refusals : goal.returns-clause-refusals
returns-clause-refusals c = barred-refusals

pub returns-clause-ends : goal.returns-clause-ends
returns-clause-ends c = barred-ends
