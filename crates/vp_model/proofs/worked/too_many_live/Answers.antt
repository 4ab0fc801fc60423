use Rattle.vp_model.proofs.Computed.TooManyLive as worked
use Rattle.vp_model.proofs.worked.too_many_live.Goals as goal

pub returns : goal.returns
returns c = worked.too_many_live
