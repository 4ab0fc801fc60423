use Rattle.vp_laws.proofs.Told.InOpening.{plays_as_committed}
use Rattle.vp_laws.proofs.claims.one_view_plays_as_committed.Goals as goal

pub returns : goal.returns
returns c = plays_as_committed
