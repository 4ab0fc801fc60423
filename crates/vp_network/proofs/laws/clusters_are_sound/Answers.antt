use Rattle.vp_network.proofs.Theorem.{clusters_are_sound}
use Rattle.vp_network.proofs.laws.clusters_are_sound.Goals as goal

pub returns : goal.returns
returns c = clusters_are_sound
