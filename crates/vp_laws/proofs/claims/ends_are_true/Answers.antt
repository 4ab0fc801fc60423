use Rattle.vp_laws.proofs.Replies.EndsTrue.{ends_told}
use Rattle.vp_laws.proofs.claims.ends_are_true.Goals as goal

pub returns : goal.returns
returns c = ends_told
