use Rattle.vp_runs.proofs.Shaped.{turns_are_shaped, runs_are_shaped}
use Rattle.vp_runs.proofs.laws.runs_are_shaped.Goals as goal

pub returns-clause-turns : goal.returns-clause-turns
returns-clause-turns c = turns_are_shaped

pub returns-clause-runs : goal.returns-clause-runs
returns-clause-runs c = runs_are_shaped
