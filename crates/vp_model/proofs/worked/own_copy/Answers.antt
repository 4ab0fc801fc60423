use Rattle.vp_model.proofs.Computed.OwnCopy.{own_copy}
use Rattle.vp_model.proofs.worked.own_copy.Goals as goal

pub returns : goal.returns
returns c = own_copy
