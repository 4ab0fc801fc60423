use Rattle.vp_model.proofs.FalseClaims.{aborted-apart}
use Rattle.vp_model.proofs.worked.aborted_without_a_lock.Goals as goal

pub returns : goal.returns
returns c = aborted-apart
