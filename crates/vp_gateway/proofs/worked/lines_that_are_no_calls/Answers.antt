use Rattle.std.proofs.Common.{refl}
use Rattle.vp_gateway.proofs.WorkedSessions.{reads}
use Rattle.vp_gateway.proofs.worked.lines_that_are_no_calls.Goals as goal

pub returns-clause-within : goal.returns-clause-within
unfolding reads
returns-clause-within c = refl

pub returns-clause-number : goal.returns-clause-number
unfolding reads
returns-clause-number c = refl

pub returns-clause-longer : goal.returns-clause-longer
unfolding reads
returns-clause-longer c = refl

pub returns-clause-returned : goal.returns-clause-returned
unfolding reads
returns-clause-returned c = refl

pub returns-clause-empty : goal.returns-clause-empty
unfolding reads
returns-clause-empty c = refl
