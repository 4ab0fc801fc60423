use Rattle.vp_timely.proofs.Sound.{all_sound}
use Rattle.vp_timely.proofs.laws.schedules_are_sound.Goals as goal

pub returns : goal.returns
returns c = all_sound
