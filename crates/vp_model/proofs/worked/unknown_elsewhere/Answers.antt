use Rattle.vp_model.proofs.FalseClaims.{called_elsewhere-apart}
use Rattle.vp_model.proofs.worked.unknown_elsewhere.Goals as goal

pub returns : goal.returns
returns c = called_elsewhere-apart
