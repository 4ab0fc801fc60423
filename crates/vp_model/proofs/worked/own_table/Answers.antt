use Rattle.vp_model.proofs.Computed.OwnTable.{owntable, owntable-history}
use Rattle.vp_model.proofs.worked.own_table.Goals as goal

pub returns-clause-lines : goal.returns-clause-lines
returns-clause-lines c = owntable

pub returns-clause-history : goal.returns-clause-history
returns-clause-history c = owntable-history
