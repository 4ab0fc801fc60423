use Rattle.vp_model.proofs.FinishedCalls.{refusals-are-justified}
use Rattle.vp_model.proofs.worked.refused_after_its_end.Goals as goal

pub returns : goal.returns
returns c = refusals-are-justified
