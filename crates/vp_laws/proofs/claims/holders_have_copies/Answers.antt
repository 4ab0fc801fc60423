use Rattle.vp_laws.proofs.Words.Audits.{copied_each}
use Rattle.vp_laws.proofs.claims.holders_have_copies.Goals as goal

pub returns : goal.returns
returns c = copied_each
