use Rattle.vp_lives.proofs.Killed.{kills_happen}
use Rattle.vp_lives.proofs.laws.kills_happen.Goals as goal

pub returns : goal.returns
returns c = kills_happen
