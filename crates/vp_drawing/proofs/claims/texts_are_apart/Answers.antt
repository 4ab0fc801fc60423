use Rattle.vp_drawing.proofs.Whole.{rows}
use Rattle.vp_drawing.proofs.claims.texts_are_apart.Goals as goal

pub returns : goal.returns
returns c = rows
