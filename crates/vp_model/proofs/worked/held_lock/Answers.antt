use Rattle.vp_model.proofs.Computed.HeldLock.{held_lock, held_lock-history}
use Rattle.vp_model.proofs.worked.held_lock.Goals as goal

pub returns-clause-lines : goal.returns-clause-lines
returns-clause-lines c = held_lock

pub returns-clause-history : goal.returns-clause-history
returns-clause-history c = held_lock-history
