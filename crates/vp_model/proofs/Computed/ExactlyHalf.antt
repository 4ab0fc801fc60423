use Rattle.std.proofs.Common.{◌≡◌, refl}
use Rattle.vp_model.specs.World.{numbered_lines, journal_of}
use Rattle.vp_model.specs.OneCopy.{order}
use Rattle.vp_model.specs.Worked.ExactlyHalf.{schedule, lines, history}
use Rattle.vp_model.proofs.Computed.{computes}

pub exactly_half : numbered_lines schedule ≡ lines
unfolding computes
exactly_half = refl

pub exactly_half-history : order (journal_of schedule) ≡ history
unfolding computes
exactly_half-history = refl
