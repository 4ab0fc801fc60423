use Rattle.vp_laws.proofs.Words.Entries.{weighed}
use Rattle.vp_laws.proofs.claims.tables_are_accessible.Goals as goal

pub returns : goal.returns
returns c = weighed
