use Rattle.vp_runs.proofs.Nodes.{logs_are_of_nodes}
use Rattle.vp_runs.proofs.log_laws.logs_are_of_nodes.Goals as goal

pub returns : goal.returns
returns c = logs_are_of_nodes
