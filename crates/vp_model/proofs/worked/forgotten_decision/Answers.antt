use Rattle.vp_model.proofs.Computed.ForgottenDecision.{forgotten_decision, forgotten_decision-history}
use Rattle.vp_model.proofs.worked.forgotten_decision.Goals as goal

pub returns-clause-lines : goal.returns-clause-lines
returns-clause-lines c = forgotten_decision

pub returns-clause-history : goal.returns-clause-history
returns-clause-history c = forgotten_decision-history
