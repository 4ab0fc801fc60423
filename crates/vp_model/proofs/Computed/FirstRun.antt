use Rattle.std.proofs.Common.{◌≡◌, refl}
use Rattle.vp_model.specs.World.{numbered_lines, journal_of}
use Rattle.vp_model.specs.OneCopy.{order}
use Rattle.vp_model.specs.Worked.FirstRun.{schedule, lines, history}
use Rattle.vp_model.proofs.Computed.{computes}

pub first_run : numbered_lines schedule ≡ lines
unfolding computes
first_run = refl

pub first_run-history : order (journal_of schedule) ≡ history
unfolding computes
first_run-history = refl
