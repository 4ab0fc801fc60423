use Rattle.vp_model.proofs.FalseClaims.{written_after_all-apart}
use Rattle.vp_model.proofs.worked.written_after_all.Goals as goal

pub returns : goal.returns
returns c = written_after_all-apart
