use Rattle.vp_drawing.proofs.Whole.{stubs_all}
use Rattle.vp_drawing.proofs.claims.stubs_are_drawn.Goals as goal

pub returns : goal.returns
returns c = stubs_all
