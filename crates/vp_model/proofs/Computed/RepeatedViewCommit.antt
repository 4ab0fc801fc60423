use Rattle.std.proofs.Common.{◌≡◌, refl}
use Rattle.vp_model.specs.World.{numbered_lines, journal_of}
use Rattle.vp_model.specs.OneCopy.{order}
use Rattle.vp_model.specs.Worked.RepeatedViewCommit.{schedule, lines, history}
use Rattle.vp_model.proofs.Computed.{computes}

pub repeated_view_commit : numbered_lines schedule ≡ lines
unfolding computes
repeated_view_commit = refl

pub repeated_view_commit-history : order (journal_of schedule) ≡ history
unfolding computes
repeated_view_commit-history = refl
