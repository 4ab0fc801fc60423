use Rattle.vp_transactions.proofs.Order.{below_put}
use Rattle.vp_transactions.proofs.transactions.Transactions.put_live.Goals as goal

pub invariant_of-self : goal.invariant_of-self
invariant_of-self c = rw c.put.ensures.live (below_put _ c.args.t.now c.self.inside.live c.self.invariant)
