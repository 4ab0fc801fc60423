use Rattle.std.proofs.Common.{◌≡◌, refl}
use Rattle.vp_model.specs.World.{numbered_lines, journal_of}
use Rattle.vp_model.specs.OneCopy.{order}
use Rattle.vp_model.specs.Worked.LateCommit.{schedule, lines, history}
use Rattle.vp_model.proofs.Computed.{computes}

pub late_commit : numbered_lines schedule ≡ lines
unfolding computes
late_commit = refl

pub late_commit-history : order (journal_of schedule) ≡ history
unfolding computes
late_commit-history = refl
