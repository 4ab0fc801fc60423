use Rattle.vp_laws.proofs.Told.Tables.{tables_told}
use Rattle.vp_laws.proofs.claims.tables_are_told.Goals as goal

pub returns : goal.returns
returns c = tables_told
