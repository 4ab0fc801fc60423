use Rattle.vp_model.specs.Types.{Live}
use Rattle.vp_model.specs.Words.{same_txn}
use Rattle.vp_transactions.proofs.Order.{below_without}
use Rattle.vp_transactions.proofs.transactions.Transactions.finish.Goals as goal

pub invariant_of-self : goal.invariant_of-self
invariant_of-self c =
    rw c.remove.ensures (below_without (λ (u : Live). same_txn u.txn c.answer_pending.new.t.txn) _ c.self.inside.live c.self.invariant)
