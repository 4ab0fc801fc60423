use Rattle.vp_model.proofs.Computed.LastNumbers.{no_life_left}
use Rattle.vp_model.proofs.worked.last_life.Goals as goal

pub returns : goal.returns
returns c = no_life_left
