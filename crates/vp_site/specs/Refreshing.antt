-- How the refresh of a copy ends, by what came out of it.
use Rattle.std.specs.Prelude.{ℕ, ◌*◌, nat_lt, if◌then◌else◌}
use Rattle.vp_model.specs.Types.{Stored}
use Rattle.vp_model.specs.Words.{put_at}
use Rattle.vp_model.specs.Site.{Stepped, change_bars}
use Rattle.vp_model.specs.Refresh.{take_newer}
use Rattle.vp_refresh.specs.declared.done.Done.{Done}

-- where more than half of the weight is inside the newest copy is taken, else the record is barred
abbrev pub keep_or_bar : ℕ → Stored → Done → Stepped → Stepped
keep_or_bar rec own done o =
    if nat_lt done.total (2 * done.inside)
    then take_newer rec own done.stored o
    else change_bars (put_at rec (done.inside, done.total)) o
