use Rattle.vp_model.proofs.FalseClaims.{timed_out_before-apart}
use Rattle.vp_model.proofs.worked.timed_out_before.Goals as goal

pub returns : goal.returns
returns c = timed_out_before-apart
