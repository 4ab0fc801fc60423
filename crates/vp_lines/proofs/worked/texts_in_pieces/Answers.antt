use Rattle.std.proofs.Common.{refl}
use Rattle.vp_lines.proofs.worked.texts_in_pieces.Goals as goal

pub returns-clause-within : goal.returns-clause-within
returns-clause-within c = refl

pub returns-clause-at_newlines : goal.returns-clause-at_newlines
returns-clause-at_newlines c = refl

pub returns-clause-one_by_one : goal.returns-clause-one_by_one
returns-clause-one_by_one c = refl
