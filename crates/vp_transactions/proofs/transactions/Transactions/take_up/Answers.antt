use Rattle.vp_transactions.proofs.Order.{below_lifted}
use Rattle.vp_transactions.proofs.transactions.Transactions.take_up.Goals as goal

pub invariant_of-self : goal.invariant_of-self
invariant_of-self c = below_lifted _ c.self.inside.live _ c.take_up.result c.take_up.ensures.back c.self.invariant
