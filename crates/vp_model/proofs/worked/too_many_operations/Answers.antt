use Rattle.vp_model.proofs.Computed.TooManyOps as worked
use Rattle.vp_model.proofs.worked.too_many_operations.Goals as goal

pub returns : goal.returns
returns c = worked.too_many_operations
