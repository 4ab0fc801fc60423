use Rattle.vp_wire.proofs.Told.{one_frame}
use Rattle.vp_wire.proofs.laws.spellings_are_of_one_frame.Goals as goal

pub returns : goal.returns
returns c = one_frame
