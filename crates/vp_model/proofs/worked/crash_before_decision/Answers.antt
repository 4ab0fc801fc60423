use Rattle.vp_model.proofs.Computed.CrashBeforeDecision.{crash_before_decision, crash_before_decision-history}
use Rattle.vp_model.proofs.worked.crash_before_decision.Goals as goal

pub returns-clause-lines : goal.returns-clause-lines
returns-clause-lines c = crash_before_decision

pub returns-clause-history : goal.returns-clause-history
returns-clause-history c = crash_before_decision-history
