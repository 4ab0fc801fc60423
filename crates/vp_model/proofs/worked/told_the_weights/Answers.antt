use Rattle.vp_model.proofs.FalseClaims.{told_the_weights-apart}
use Rattle.vp_model.proofs.worked.told_the_weights.Goals as goal

pub returns : goal.returns
returns c = told_the_weights-apart
