use Rattle.vp_wire.proofs.Told.{decoded_same, after_refused}
use Rattle.vp_wire.proofs.laws.encoded_is_decoded.Goals as goal

pub returns-clause-same : goal.returns-clause-same
returns-clause-same c = decoded_same

pub returns-clause-following : goal.returns-clause-following
returns-clause-following c = after_refused
