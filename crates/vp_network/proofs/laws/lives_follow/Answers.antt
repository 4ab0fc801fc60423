use Rattle.vp_network.proofs.Ends.{lives_follow}
use Rattle.vp_network.proofs.laws.lives_follow.Goals as goal

pub returns : goal.returns
returns c = lives_follow
