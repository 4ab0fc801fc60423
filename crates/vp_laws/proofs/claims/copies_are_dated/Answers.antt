use Rattle.vp_laws.proofs.Words.Sites.{copies_dated}
use Rattle.vp_laws.proofs.claims.copies_are_dated.Goals as goal

pub returns : goal.returns
returns c = copies_dated
