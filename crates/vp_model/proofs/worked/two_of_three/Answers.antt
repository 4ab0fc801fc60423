use Rattle.vp_model.proofs.Computed.TwoOfThree.{two_of_three, two_of_three-history}
use Rattle.vp_model.proofs.worked.two_of_three.Goals as goal

pub returns-clause-lines : goal.returns-clause-lines
returns-clause-lines c = two_of_three

pub returns-clause-history : goal.returns-clause-history
returns-clause-history c = two_of_three-history
