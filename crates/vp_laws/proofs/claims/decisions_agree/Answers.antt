use Rattle.vp_laws.proofs.Words.Decisions.{decisions_agreed}
use Rattle.vp_laws.proofs.claims.decisions_agree.Goals as goal

pub returns : goal.returns
returns c = decisions_agreed
