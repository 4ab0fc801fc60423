use Rattle.vp_runs.proofs.StoppedRuns.{stopped_runs}
use Rattle.vp_runs.proofs.stop_laws.stopped_runs_are_schedules.Goals as goal

pub returns : goal.returns
returns c = stopped_runs
