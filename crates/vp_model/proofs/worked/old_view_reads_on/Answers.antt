use Rattle.vp_model.proofs.Computed.OldViewReadsOn.{old_view_reads_on, old_view_reads_on-history}
use Rattle.vp_model.proofs.worked.old_view_reads_on.Goals as goal

pub returns-clause-lines : goal.returns-clause-lines
returns-clause-lines c = old_view_reads_on

pub returns-clause-history : goal.returns-clause-history
returns-clause-history c = old_view_reads_on-history
