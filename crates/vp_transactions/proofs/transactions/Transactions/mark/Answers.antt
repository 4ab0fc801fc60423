use Rattle.vp_transactions.proofs.Order.{below_marked}
use Rattle.vp_transactions.proofs.transactions.Transactions.mark.Goals as goal

pub invariant_of-self : goal.invariant_of-self
invariant_of-self c = rw c.mark.ensures (below_marked _ c.self.inside.live c.self.invariant)
