use Rattle.vp_model.specs.Types.event
use Rattle.vp_merge.proofs.Doing.{quiet_goes, two_quiet}
use Rattle.vp_merge.proofs.Reached.{IsQuiet}
use Rattle.vp_merge.proofs.lives.start_again.Goals as goal

pub returns : goal.returns
returns c =
    let site = c.args.site in
    two_quiet site c.args.played c.in_ok-down.down c.in_ok-up.up
    (quiet_goes site (event.Crash site) (IsQuiet.crash_is site) c.args.played c.in_ok-next.field-0 c.in_ok-down.down c.in_ok-next.ensures.goes c.in_ok-down.ensures c.in_ok-next.ensures.end)
    (quiet_goes site (event.Restart site) (IsQuiet.restart_is site) c.in_ok-down.down c.in_ok-next-2.field-0 c.in_ok-up.up c.in_ok-next-2.ensures.goes c.in_ok-up.ensures c.in_ok-next-2.ensures.end)
