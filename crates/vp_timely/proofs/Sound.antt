-- Every schedule over a whole catalogue is sound.
use Rattle.vp_model.specs.World.{Schedule}
use Rattle.vp_laws.specs.Catalogues.{IsWhole}
use Rattle.vp_laws.proofs.Told.OneCopy.{one_copy_told}
use Rattle.vp_laws.proofs.Words.Decisions.{decisions_agreed}
use Rattle.vp_laws.proofs.Words.Views.{each, onward}
use Rattle.vp_laws.proofs.Words.Weighed.{schedule_weighed}
use Rattle.vp_timely.specs.Sound.{IsSound}
use Rattle.vp_timely.proofs.AllTimely.{all_timely}

pub all_sound : (s : Schedule) → IsWhole s.catalogue → IsSound s
all_sound s whole = record {
  one_copy = one_copy_told s whole;
  weighed = schedule_weighed s whole;
  sites_agree = record { views = each s; onward = onward s; decisions = decisions_agreed s whole };
  timely = all_timely s whole;
}
