use Rattle.vp_drawing.proofs.Whole.{arrows}
use Rattle.vp_drawing.proofs.claims.arrows_are_drawn.Goals as goal

pub returns : goal.returns
returns c = arrows
