use Rattle.std.proofs.Common.{refl}
use Rattle.vp_lines.proofs.worked.bytes_within_the_limit.Goals as goal

pub returns-clause-within : goal.returns-clause-within
returns-clause-within c = refl

pub returns-clause-beyond : goal.returns-clause-beyond
returns-clause-beyond c = refl

pub returns-clause-none : goal.returns-clause-none
returns-clause-none c = refl
