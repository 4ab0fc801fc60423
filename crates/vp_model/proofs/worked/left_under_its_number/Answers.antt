use Rattle.vp_model.proofs.FalseClaims.{left-given, left-another}
use Rattle.vp_model.proofs.worked.left_under_its_number.Goals as goal

pub returns-clause-given : goal.returns-clause-given
returns-clause-given c = left-given

pub returns-clause-another : goal.returns-clause-another
returns-clause-another c = left-another
