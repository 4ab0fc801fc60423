use Rattle.vp_model.proofs.FalseClaims.{unknown_without_weight-apart}
use Rattle.vp_model.proofs.worked.unknown_without_weight.Goals as goal

pub returns : goal.returns
returns c = unknown_without_weight-apart
