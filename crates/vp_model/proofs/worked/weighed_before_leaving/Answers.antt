use Rattle.vp_model.proofs.FalseClaims.{weighed_before_leaving-apart}
use Rattle.vp_model.proofs.worked.weighed_before_leaving.Goals as goal

pub returns : goal.returns
returns c = weighed_before_leaving-apart
