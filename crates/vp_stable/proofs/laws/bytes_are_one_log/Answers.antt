use Rattle.vp_stable.proofs.Determined.{batches_are_one, places_are_one}
use Rattle.vp_stable.proofs.laws.bytes_are_one_log.Goals as goal

pub returns-clause-batches : goal.returns-clause-batches
returns-clause-batches c = batches_are_one c.spellings_are_of_one_batch.ensures

pub returns-clause-places : goal.returns-clause-places
returns-clause-places c = places_are_one c.spellings_are_of_one_batch.ensures
