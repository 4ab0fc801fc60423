use Rattle.std.proofs.Common.{◌≡◌, refl}
use Rattle.vp_model.specs.World.{numbered_lines, journal_of}
use Rattle.vp_model.specs.OneCopy.{order}
use Rattle.vp_model.specs.Worked.LostVote.{schedule, lines, history}
use Rattle.vp_model.proofs.Computed.{computes}

pub lost_vote : numbered_lines schedule ≡ lines
unfolding computes
lost_vote = refl

pub lost_vote-history : order (journal_of schedule) ≡ history
unfolding computes
lost_vote-history = refl
