use Rattle.vp_top.proofs.Answering.{usage_told}
use Rattle.vp_top.proofs.claims.other_words_are_refused.Goals as goal

pub returns : goal.returns
returns g c words none source source' link link' sink sink' disk disk' end e calm = usage_told words source source' _ none calm end e
