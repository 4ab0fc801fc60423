use Rattle.vp_runs.proofs.Folds.{logs_keep_places}
use Rattle.vp_runs.proofs.log_laws.logs_are_kept.Goals as goal

pub returns : goal.returns
returns c = logs_keep_places
