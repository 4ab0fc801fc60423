use Rattle.vp_model.proofs.FalseClaims.{never_begun-apart}
use Rattle.vp_model.proofs.worked.unknown_without_a_lock.Goals as goal

pub returns : goal.returns
returns c = never_begun-apart
