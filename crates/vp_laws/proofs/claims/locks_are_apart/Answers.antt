use Rattle.vp_laws.proofs.Words.Sites.{locks_apart}
use Rattle.vp_laws.proofs.claims.locks_are_apart.Goals as goal

pub returns : goal.returns
returns c = locks_apart
