use Rattle.vp_laws.proofs.Told.OneCopy.{one_copy_told}
use Rattle.vp_laws.proofs.claims.one_copy.Goals as goal

pub returns : goal.returns
returns c = one_copy_told
