use Rattle.vp_records.proofs.Batches.{one_batch}
use Rattle.vp_records.proofs.laws.spellings_are_of_one_batch.Goals as goal

pub returns : goal.returns
returns c = one_batch
