use Rattle.vp_stable.proofs.Times.{elapses_as, elapses_then, quiet_one, others_quiet, others_one, others_join}
use Rattle.vp_stable.proofs.writing.cut_synced.Goals as goal

pub returns-in_err-cut-clause-time : goal.returns-in_err-cut-clause-time
returns-in_err-cut-clause-time g c =
    let w = c.cut.ensures in
    let name = (g.D.Disk.state c.args.disk.now).asked in
    elapses_as _ _ _ _ _ (w.goes_on.time name) (λ image left. w.crash image left)

pub returns-clause-time : goal.returns-clause-time
returns-clause-time g c =
    let w = c.cut.ensures in
    let name = (g.D.Disk.state c.args.disk.now).asked in
    elapses_then _ _ _ _ _ _ _ (w.goes_on.time name) (c.sync.ensures.leaves.goes_on.time name) (λ image left. w.crash image left)
    (λ image left. w.crash image ((c.sync.ensures.leaves.untouched name).no_other image left))

pub returns-in_err-cut-clause-others : goal.returns-in_err-cut-clause-others
returns-in_err-cut-clause-others g c =
    let w = c.cut.ensures in
    others_one w.stays w.goes_on w.elsewhere

pub returns-clause-others : goal.returns-clause-others
returns-clause-others g c =
    let w = c.cut.ensures in
    others_join (others_one w.stays w.goes_on w.elsewhere) (others_quiet (quiet_one c.sync.ensures.leaves))
