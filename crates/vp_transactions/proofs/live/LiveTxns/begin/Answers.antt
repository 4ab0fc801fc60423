use Rattle.vp_transactions.proofs.Order.{live_begun}
use Rattle.vp_transactions.proofs.live.LiveTxns.begin.Goals as goal

pub invariant_of-self : goal.invariant_of-self
invariant_of-self c =
    live_begun c.push.result c.args.txn.now c.args.view c.self.inside.items c.push.new.self (rw c.new_live-t.ensures at c.push.ensures.ok) c.push.ensures.err c.self.invariant (rw (← c.self.view_is) at c.requires)
