use Rattle.vp_transactions.proofs.Order.{live_marked}
use Rattle.vp_transactions.proofs.live.LiveTxns.mark.Goals as goal

pub invariant_of-self : goal.invariant_of-self
invariant_of-self c = rw c.mark_each.ensures (live_marked c.self.inside.items c.self.invariant)
