use Rattle.vp_stable.proofs.Times.{quiet_one, quiet_join}
use Rattle.vp_stable.proofs.half.read_half.Goals as goal

pub returns-in_err-length-clause-quiet : goal.returns-in_err-length-clause-quiet
returns-in_err-length-clause-quiet g c =
    quiet_one c.length.ensures.leaves

pub returns-in_err-bytes-clause-quiet : goal.returns-in_err-bytes-clause-quiet
returns-in_err-bytes-clause-quiet g c =
    quiet_one c.length.ensures.leaves

pub returns-in_err-count-clause-quiet : goal.returns-in_err-count-clause-quiet
returns-in_err-count-clause-quiet g c =
    quiet_join (quiet_one c.length.ensures.leaves) c.fill.ensures.quiet

pub returns-clause-quiet : goal.returns-clause-quiet
returns-clause-quiet g c =
    quiet_join (quiet_one c.length.ensures.leaves) c.fill.ensures.quiet
