use Rattle.vp_fitting.proofs.Whole.{fitting_recordings_merge}
use Rattle.vp_fitting.proofs.laws.fitting_recordings_merge.Goals as goal

pub returns : goal.returns
returns c = fitting_recordings_merge
