use Rattle.vp_model.proofs.Computed.ManyFinished.{first_is_forgotten}
use Rattle.vp_model.proofs.worked.many_finished.Goals as goal

pub returns : goal.returns
returns c = first_is_forgotten
