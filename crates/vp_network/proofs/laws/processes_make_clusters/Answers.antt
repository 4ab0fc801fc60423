use Rattle.vp_network.proofs.Together.{processes_make_clusters}
use Rattle.vp_network.proofs.laws.processes_make_clusters.Goals as goal

pub returns : goal.returns
returns c = processes_make_clusters
