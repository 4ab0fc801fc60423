use Rattle.vp_laws.proofs.Words.Bars.{bars_right}
use Rattle.vp_laws.proofs.claims.bars_are_right.Goals as goal

pub returns : goal.returns
returns c = bars_right
