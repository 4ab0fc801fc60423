use Rattle.std.proofs.Common.{refl}
use Rattle.vp_gateway.proofs.WorkedSessions.{reads}
use Rattle.vp_gateway.proofs.worked.long_lines.Goals as goal

pub returns-clause-read : goal.returns-clause-read
unfolding reads
returns-clause-read c = refl

pub returns-clause-long : goal.returns-clause-long
unfolding reads
returns-clause-long c = refl

pub returns-clause-unended : goal.returns-clause-unended
unfolding reads
returns-clause-unended c = refl
