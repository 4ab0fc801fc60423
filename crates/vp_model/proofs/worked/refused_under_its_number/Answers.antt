use Rattle.vp_model.proofs.FalseClaims.{refused_again-apart}
use Rattle.vp_model.proofs.worked.refused_under_its_number.Goals as goal

pub returns : goal.returns
returns c = refused_again-apart
