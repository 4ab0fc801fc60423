use Rattle.vp_model.proofs.FalseClaims.{forgotten-apart}
use Rattle.vp_model.proofs.worked.forgotten_without_a_refusal.Goals as goal

pub returns : goal.returns
returns c = forgotten-apart
