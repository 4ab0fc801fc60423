use Rattle.std.proofs.Common.{◌≡◌, refl}
use Rattle.vp_model.specs.World.{numbered_lines, journal_of}
use Rattle.vp_model.specs.OneCopy.{order}
use Rattle.vp_model.specs.Worked.ForgottenDecision.{schedule, lines, history}
use Rattle.vp_model.proofs.Computed.{computes}

pub forgotten_decision : numbered_lines schedule ≡ lines
unfolding computes
forgotten_decision = refl

pub forgotten_decision-history : order (journal_of schedule) ≡ history
unfolding computes
forgotten_decision-history = refl
