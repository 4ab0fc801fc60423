use Rattle.vp_drawing.proofs.Whole.{bars_all}
use Rattle.vp_drawing.proofs.claims.bars_are_drawn.Goals as goal

pub returns : goal.returns
returns c = bars_all
