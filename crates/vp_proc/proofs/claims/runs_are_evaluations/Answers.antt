use Rattle.vp_proc.proofs.Evaluations.{runs_evaluate}
use Rattle.vp_proc.proofs.claims.runs_are_evaluations.Goals as goal

pub returns : goal.returns
returns c = runs_evaluate
