use Rattle.vp_model.proofs.Computed.ExactlyHalf.{exactly_half, exactly_half-history}
use Rattle.vp_model.proofs.worked.exactly_half.Goals as goal

pub returns-clause-lines : goal.returns-clause-lines
returns-clause-lines c = exactly_half

pub returns-clause-history : goal.returns-clause-history
returns-clause-history c = exactly_half-history
