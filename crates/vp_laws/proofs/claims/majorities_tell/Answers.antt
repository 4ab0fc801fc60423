use Rattle.vp_laws.proofs.Words.Audits.{told_last, told_each}
use Rattle.vp_laws.proofs.claims.majorities_tell.Goals as goal

pub returns-clause-last : goal.returns-clause-last
returns-clause-last c = told_last

pub returns-clause-each : goal.returns-clause-each
returns-clause-each c = told_each
