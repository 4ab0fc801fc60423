use Rattle.std.proofs.Common.{◌≡◌, refl}
use Rattle.vp_model.specs.World.{numbered_lines, journal_of}
use Rattle.vp_model.specs.OneCopy.{order}
use Rattle.vp_model.specs.Worked.Repeats.{schedule, lines, history}
use Rattle.vp_model.proofs.Computed.{computes}

pub repeats : numbered_lines schedule ≡ lines
unfolding computes
repeats = refl

pub repeats-history : order (journal_of schedule) ≡ history
unfolding computes
repeats-history = refl
