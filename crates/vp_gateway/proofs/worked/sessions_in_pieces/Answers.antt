use Rattle.std.proofs.Common.{refl}
use Rattle.vp_gateway.proofs.WorkedSessions.{reads}
use Rattle.vp_gateway.proofs.worked.sessions_in_pieces.Goals as goal

pub returns-clause-within : goal.returns-clause-within
unfolding reads
returns-clause-within c = refl

pub returns-clause-at_newlines : goal.returns-clause-at_newlines
unfolding reads
returns-clause-at_newlines c = refl
