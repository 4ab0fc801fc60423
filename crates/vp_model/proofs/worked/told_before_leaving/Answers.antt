use Rattle.vp_model.proofs.FalseClaims.{told_before_leaving-apart}
use Rattle.vp_model.proofs.worked.told_before_leaving.Goals as goal

pub returns : goal.returns
returns c = told_before_leaving-apart
