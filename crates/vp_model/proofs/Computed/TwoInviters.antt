use Rattle.std.proofs.Common.{◌≡◌, refl}
use Rattle.vp_model.specs.World.{numbered_lines, journal_of}
use Rattle.vp_model.specs.OneCopy.{order}
use Rattle.vp_model.specs.Worked.TwoInviters.{schedule, lines, history}
use Rattle.vp_model.proofs.Computed.{computes}

pub two_inviters : numbered_lines schedule ≡ lines
unfolding computes
two_inviters = refl

pub two_inviters-history : order (journal_of schedule) ≡ history
unfolding computes
two_inviters-history = refl
