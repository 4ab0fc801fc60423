use Rattle.vp_model.proofs.Computed.NoEvents.{trace_is_empty, history_is}
use Rattle.vp_model.proofs.worked.no_events.Goals as goal

pub returns-clause-trace : goal.returns-clause-trace
returns-clause-trace c = trace_is_empty

pub returns-clause-history : goal.returns-clause-history
returns-clause-history c = history_is
