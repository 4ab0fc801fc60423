use Rattle.vp_drawing.proofs.Whole.{outcomes}
use Rattle.vp_drawing.proofs.claims.outcomes_are_drawn.Goals as goal

pub returns : goal.returns
returns c = outcomes
