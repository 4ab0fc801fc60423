use Rattle.vp_laws.proofs.Words.Entries.{committed_once}
use Rattle.vp_laws.proofs.claims.commits_are_once.Goals as goal

pub returns : goal.returns
returns c = committed_once
