use Rattle.vp_laws.proofs.Words.Readable.{copies_read}
use Rattle.vp_laws.proofs.claims.copies_are_true.Goals as goal

pub returns : goal.returns
returns c = copies_read
