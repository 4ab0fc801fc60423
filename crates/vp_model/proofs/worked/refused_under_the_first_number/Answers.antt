use Rattle.vp_model.proofs.FalseClaims.{refused_first-apart}
use Rattle.vp_model.proofs.worked.refused_under_the_first_number.Goals as goal

pub returns : goal.returns
returns c = refused_first-apart
