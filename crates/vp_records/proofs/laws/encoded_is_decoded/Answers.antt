use Rattle.vp_records.proofs.Batches.{decoded_same}
use Rattle.vp_records.proofs.laws.encoded_is_decoded.Goals as goal

pub returns : goal.returns
returns c = decoded_same
