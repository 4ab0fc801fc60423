use Rattle.vp_drawing.proofs.Whole.{written}
use Rattle.vp_drawing.proofs.claims.shapes_are_written.Goals as goal

pub returns : goal.returns
returns c = written
