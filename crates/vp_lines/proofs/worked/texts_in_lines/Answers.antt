use Rattle.std.proofs.Common.{refl}
use Rattle.vp_lines.proofs.worked.texts_in_lines.Goals as goal

pub returns-clause-ended : goal.returns-clause-ended
returns-clause-ended c = refl

pub returns-clause-unended : goal.returns-clause-unended
returns-clause-unended c = refl

pub returns-clause-none : goal.returns-clause-none
returns-clause-none c = refl

pub returns-clause-empty : goal.returns-clause-empty
returns-clause-empty c = refl

pub returns-clause-returned : goal.returns-clause-returned
returns-clause-returned c = refl
