use Rattle.vp_model.proofs.FalseClaims.{closed-given, closed-another}
use Rattle.vp_model.proofs.worked.closed_before_leaving.Goals as goal

pub returns-clause-given : goal.returns-clause-given
returns-clause-given c = closed-given

pub returns-clause-another : goal.returns-clause-another
returns-clause-another c = closed-another
