use Rattle.std.proofs.Common.{refl}
use Rattle.vp_gateway.proofs.WorkedSessions.{reads}
use Rattle.vp_gateway.proofs.worked.ends_within_a_line.Goals as goal

pub returns-clause-part : goal.returns-clause-part
unfolding reads
returns-clause-part c = refl

pub returns-clause-call : goal.returns-clause-call
unfolding reads
returns-clause-call c = refl

pub returns-clause-bad : goal.returns-clause-bad
unfolding reads
returns-clause-bad c = refl

pub returns-clause-none : goal.returns-clause-none
unfolding reads
returns-clause-none c = refl
