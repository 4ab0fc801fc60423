use Rattle.vp_model.proofs.FalseClaims.{granted-given, granted-another}
use Rattle.vp_model.proofs.worked.granted_after_all.Goals as goal

pub returns-clause-given : goal.returns-clause-given
returns-clause-given c = granted-given

pub returns-clause-another : goal.returns-clause-another
returns-clause-another c = granted-another
