use Rattle.std.proofs.Common.{◌≡◌, refl}
use Rattle.vp_model.specs.World.{numbered_lines, journal_of}
use Rattle.vp_model.specs.OneCopy.{order}
use Rattle.vp_model.specs.Worked.OtherRefusals.{schedule, lines, history}
use Rattle.vp_model.proofs.Computed.{computes}

pub other_refusals : numbered_lines schedule ≡ lines
unfolding computes
other_refusals = refl

pub other_refusals-history : order (journal_of schedule) ≡ history
unfolding computes
other_refusals-history = refl
