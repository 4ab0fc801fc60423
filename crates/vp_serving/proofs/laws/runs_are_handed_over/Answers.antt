use Rattle.vp_serving.proofs.Handed.{runs_are_handed_over as proof}
use Rattle.vp_serving.proofs.laws.runs_are_handed_over.Goals as goal

pub returns : goal.returns
returns c = proof
