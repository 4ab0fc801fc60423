use Rattle.vp_laws.proofs.Words.Completing.{readable_copies_are_read}
use Rattle.vp_laws.proofs.steps.readable_copies_are_read.Goals as goal

pub returns : goal.returns
returns c = readable_copies_are_read
