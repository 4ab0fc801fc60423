use Rattle.vp_model.proofs.Computed.Repeats.{repeats, repeats-history}
use Rattle.vp_model.proofs.worked.repeats.Goals as goal

pub returns-clause-lines : goal.returns-clause-lines
returns-clause-lines c = repeats

pub returns-clause-history : goal.returns-clause-history
returns-clause-history c = repeats-history
