use Rattle.vp_model.proofs.FalseClaims.{held_by_another-apart}
use Rattle.vp_model.proofs.worked.held_by_the_least.Goals as goal

pub returns : goal.returns
returns c = held_by_another-apart
