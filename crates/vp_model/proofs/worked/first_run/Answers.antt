use Rattle.vp_model.proofs.Computed.FirstRun.{first_run, first_run-history}
use Rattle.vp_model.proofs.worked.first_run.Goals as goal

pub returns-clause-lines : goal.returns-clause-lines
returns-clause-lines c = first_run

pub returns-clause-history : goal.returns-clause-history
returns-clause-history c = first_run-history
