use Rattle.std.proofs.Common.{refl}
use Rattle.vp_gateway.proofs.WorkedSessions.{reads}
use Rattle.vp_gateway.proofs.worked.lines_of_a_session.Goals as goal

pub returns : goal.returns
unfolding reads
returns c = refl
