use Rattle.vp_model.proofs.Computed.Chain.{chain, chain-history}
use Rattle.vp_model.proofs.worked.chain.Goals as goal

pub returns-clause-lines : goal.returns-clause-lines
returns-clause-lines c = chain

pub returns-clause-history : goal.returns-clause-history
returns-clause-history c = chain-history
