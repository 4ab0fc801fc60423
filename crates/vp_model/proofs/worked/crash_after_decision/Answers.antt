use Rattle.vp_model.proofs.Computed.CrashAfterDecision.{crash_after_decision, crash_after_decision-history}
use Rattle.vp_model.proofs.worked.crash_after_decision.Goals as goal

pub returns-clause-lines : goal.returns-clause-lines
returns-clause-lines c = crash_after_decision

pub returns-clause-history : goal.returns-clause-history
returns-clause-history c = crash_after_decision-history
