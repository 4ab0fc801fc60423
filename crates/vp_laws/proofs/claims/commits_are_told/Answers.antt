use Rattle.vp_laws.proofs.Told.Runs.{operations_told}
use Rattle.vp_laws.proofs.claims.commits_are_told.Goals as goal

pub returns : goal.returns
returns c = operations_told
