use Rattle.vp_laws.proofs.Words.Entries.{entered}
use Rattle.vp_laws.proofs.claims.commits_are_accessible.Goals as goal

pub returns : goal.returns
returns c = entered
