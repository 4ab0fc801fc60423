use Rattle.std.proofs.Common.{refl}
use Rattle.std.specs.Fmt.{digits}
use Rattle.vp_model.proofs.Computed.{computes}
use Rattle.vp_audit.proofs.worked.a_log_that_is_missing.Goals as goal

pub returns : goal.returns
unfolding computes digits
returns c = refl
