use Rattle.std.proofs.Common.{◌≡◌, refl}
use Rattle.vp_model.specs.World.{numbered_lines, journal_of}
use Rattle.vp_model.specs.OneCopy.{order}
use Rattle.vp_model.specs.Worked.OldViewReadsOn.{schedule, lines, history}
use Rattle.vp_model.proofs.Computed.{computes}

pub old_view_reads_on : numbered_lines schedule ≡ lines
unfolding computes
old_view_reads_on = refl

pub old_view_reads_on-history : order (journal_of schedule) ≡ history
unfolding computes
old_view_reads_on-history = refl
