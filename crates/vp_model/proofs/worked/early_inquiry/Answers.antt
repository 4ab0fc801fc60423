use Rattle.vp_model.proofs.Computed.EarlyInquiry.{asked_early}
use Rattle.vp_model.proofs.worked.early_inquiry.Goals as goal

pub returns : goal.returns
returns c = asked_early
