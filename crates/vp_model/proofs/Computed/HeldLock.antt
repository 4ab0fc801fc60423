use Rattle.std.proofs.Common.{◌≡◌, refl}
use Rattle.vp_model.specs.World.{numbered_lines, journal_of}
use Rattle.vp_model.specs.OneCopy.{order}
use Rattle.vp_model.specs.Worked.HeldLock.{schedule, lines, history}
use Rattle.vp_model.proofs.Computed.{computes}

pub held_lock : numbered_lines schedule ≡ lines
unfolding computes
held_lock = refl

pub held_lock-history : order (journal_of schedule) ≡ history
unfolding computes
held_lock-history = refl
