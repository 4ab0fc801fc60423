use Rattle.vp_model.proofs.Computed.BadTable.{badtable, badtable-history}
use Rattle.vp_model.proofs.worked.bad_table.Goals as goal

pub returns-clause-lines : goal.returns-clause-lines
returns-clause-lines c = badtable

pub returns-clause-history : goal.returns-clause-history
returns-clause-history c = badtable-history
