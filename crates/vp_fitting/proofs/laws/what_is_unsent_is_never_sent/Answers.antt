use Rattle.vp_fitting.proofs.Whole.{unsent_is_never_sent}
use Rattle.vp_fitting.proofs.laws.what_is_unsent_is_never_sent.Goals as goal

pub returns : goal.returns
returns c = unsent_is_never_sent
