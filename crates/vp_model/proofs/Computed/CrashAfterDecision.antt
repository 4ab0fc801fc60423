use Rattle.std.proofs.Common.{◌≡◌, refl}
use Rattle.vp_model.specs.World.{numbered_lines, journal_of}
use Rattle.vp_model.specs.OneCopy.{order}
use Rattle.vp_model.specs.Worked.CrashAfterDecision.{schedule, lines, history}
use Rattle.vp_model.proofs.Computed.{computes}

pub crash_after_decision : numbered_lines schedule ≡ lines
unfolding computes
crash_after_decision = refl

pub crash_after_decision-history : order (journal_of schedule) ≡ history
unfolding computes
crash_after_decision-history = refl
