use Rattle.vp_laws.proofs.Words.Tables.{tables_each}
use Rattle.vp_laws.proofs.claims.copies_have_tables.Goals as goal

pub returns : goal.returns
returns c = tables_each
