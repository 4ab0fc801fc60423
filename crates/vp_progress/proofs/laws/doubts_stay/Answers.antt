use Rattle.vp_progress.proofs.Doubts.{stay}
use Rattle.vp_progress.proofs.laws.doubts_stay.Goals as goal

pub returns : goal.returns
returns c = stay
