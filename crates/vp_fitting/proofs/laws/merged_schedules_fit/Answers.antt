use Rattle.vp_fitting.proofs.Whole.{merges_match}
use Rattle.vp_fitting.proofs.laws.merged_schedules_fit.Goals as goal

pub returns : goal.returns
returns c = merges_match
