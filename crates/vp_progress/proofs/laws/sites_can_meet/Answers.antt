use Rattle.vp_progress.proofs.Meetings.{meet}
use Rattle.vp_progress.proofs.laws.sites_can_meet.Goals as goal

pub returns : goal.returns
returns c = meet
