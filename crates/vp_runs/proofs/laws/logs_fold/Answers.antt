use Rattle.vp_runs.proofs.Checkpoints.{checkpoints_fold, steps_fold}
use Rattle.vp_runs.proofs.Runs.{runs_keep}
use Rattle.vp_runs.proofs.laws.logs_fold.Goals as goal

pub returns-clause-checkpoints : goal.returns-clause-checkpoints
returns-clause-checkpoints c = checkpoints_fold

pub returns-clause-steps : goal.returns-clause-steps
returns-clause-steps c = steps_fold

pub returns-clause-runs : goal.returns-clause-runs
returns-clause-runs c = runs_keep
