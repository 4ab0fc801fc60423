use Rattle.vp_model.proofs.FalseClaims.{idle-justified}
use Rattle.vp_model.proofs.worked.closed_without_a_call.Goals as goal

pub returns : goal.returns
returns c = idle-justified
