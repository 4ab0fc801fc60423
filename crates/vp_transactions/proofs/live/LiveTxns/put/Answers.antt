use Rattle.std.proofs.Common.{refl}
use Rattle.vp_transactions.proofs.Order.{live_changed}
use Rattle.vp_transactions.proofs.live.LiveTxns.put.Goals as goal

pub invariant_of-self : goal.invariant_of-self
invariant_of-self c =
    rw c.exchange.ensures.live (live_changed c.args.t.now.txn c.args.t.now c.self.inside.items refl c.requires c.self.invariant)
