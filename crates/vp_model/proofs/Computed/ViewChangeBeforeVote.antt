use Rattle.std.proofs.Common.{◌≡◌, refl}
use Rattle.vp_model.specs.World.{numbered_lines, journal_of}
use Rattle.vp_model.specs.OneCopy.{order}
use Rattle.vp_model.specs.Worked.ViewChangeBeforeVote.{schedule, lines, history}
use Rattle.vp_model.proofs.Computed.{computes}

pub view_change_before_vote : numbered_lines schedule ≡ lines
unfolding computes
view_change_before_vote = refl

pub view_change_before_vote-history : order (journal_of schedule) ≡ history
unfolding computes
view_change_before_vote-history = refl
