use Rattle.vp_transactions.proofs.Order.{live_after_first}
use Rattle.vp_transactions.proofs.live.LiveTxns.take_first.Goals as goal

pub invariant_of-self : goal.invariant_of-self
invariant_of-self c = rw c.remove.ensures.rest (live_after_first c.self.inside.items c.self.invariant)
