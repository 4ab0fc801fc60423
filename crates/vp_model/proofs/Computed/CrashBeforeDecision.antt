use Rattle.std.proofs.Common.{◌≡◌, refl}
use Rattle.vp_model.specs.World.{numbered_lines, journal_of}
use Rattle.vp_model.specs.OneCopy.{order}
use Rattle.vp_model.specs.Worked.CrashBeforeDecision.{schedule, lines, history}
use Rattle.vp_model.proofs.Computed.{computes}

pub crash_before_decision : numbered_lines schedule ≡ lines
unfolding computes
crash_before_decision = refl

pub crash_before_decision-history : order (journal_of schedule) ≡ history
unfolding computes
crash_before_decision-history = refl
