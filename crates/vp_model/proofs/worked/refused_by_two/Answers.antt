use Rattle.vp_model.proofs.FalseClaims.{refused_by_two-apart}
use Rattle.vp_model.proofs.worked.refused_by_two.Goals as goal

pub returns : goal.returns
returns c = refused_by_two-apart
