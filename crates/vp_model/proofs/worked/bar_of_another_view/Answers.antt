use Rattle.vp_model.proofs.FalseClaims.{bar_of_another_view-apart}
use Rattle.vp_model.proofs.worked.bar_of_another_view.Goals as goal

pub returns : goal.returns
returns c = bar_of_another_view-apart
