use Rattle.vp_model.proofs.FalseClaims.{out_of_turn-apart}
use Rattle.vp_model.proofs.worked.skipped_without_a_lock.Goals as goal

pub returns : goal.returns
returns c = out_of_turn-apart
