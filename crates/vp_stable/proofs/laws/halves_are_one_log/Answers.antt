use Rattle.vp_stable.proofs.Generations.{halves_are_one, bad_halves_have_no_batches}
use Rattle.vp_stable.proofs.laws.halves_are_one_log.Goals as goal

pub returns-clause-batches : goal.returns-clause-batches
returns-clause-batches c = halves_are_one

pub returns-clause-bad : goal.returns-clause-bad
returns-clause-bad c = bad_halves_have_no_batches
