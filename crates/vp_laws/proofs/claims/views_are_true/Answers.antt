use Rattle.vp_laws.proofs.Told.Begun.{views_true}
use Rattle.vp_laws.proofs.claims.views_are_true.Goals as goal

pub returns : goal.returns
returns c = views_true
