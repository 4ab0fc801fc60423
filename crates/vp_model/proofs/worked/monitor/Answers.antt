use Rattle.vp_model.proofs.Computed.Monitor.{monitored}
use Rattle.vp_model.proofs.worked.monitor.Goals as goal

pub returns : goal.returns
returns c = monitored
