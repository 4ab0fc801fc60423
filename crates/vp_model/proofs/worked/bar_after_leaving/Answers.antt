use Rattle.vp_model.proofs.FalseClaims.{bar_after_leaving-apart}
use Rattle.vp_model.proofs.worked.bar_after_leaving.Goals as goal

pub returns : goal.returns
returns c = bar_after_leaving-apart
