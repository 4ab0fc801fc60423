use Rattle.vp_model.proofs.Computed.LongRun.{long_run, long_run-history, long_run-serial, long_run-told, long_run-copies, long_run-ends, long_run-refusals}
use Rattle.vp_model.proofs.worked.long_run.Goals as goal

pub returns-clause-commits : goal.returns-clause-commits
returns-clause-commits c = long_run

pub returns-clause-history : goal.returns-clause-history
returns-clause-history c = long_run-history

pub returns-clause-serial : goal.returns-clause-serial
returns-clause-serial c = long_run-serial

pub returns-clause-told : goal.returns-clause-told
returns-clause-told c = long_run-told

pub returns-clause-copies : goal.returns-clause-copies
returns-clause-copies c = long_run-copies

pub returns-clause-ends : goal.returns-clause-ends
returns-clause-ends c = long_run-ends

pub returns-clause-refusals : goal.returns-clause-refusals
returns-clause-refusals c = long_run-refusals
