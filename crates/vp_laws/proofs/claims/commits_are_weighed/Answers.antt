use Rattle.vp_laws.proofs.Words.Weighed.{schedule_weighed}
use Rattle.vp_laws.proofs.claims.commits_are_weighed.Goals as goal

pub returns : goal.returns
returns c = schedule_weighed
