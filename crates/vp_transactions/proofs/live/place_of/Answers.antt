use Rattle.std.proofs.Common.{◌∙◌, sym}
use Rattle.vp_transactions.proofs.Order.{only_at}
use Rattle.vp_transactions.proofs.live.place_of.Goals as goal

pub returns-then-stands_at : goal.returns-then-stands_at
returns-then-stands_at c =
    only_at c.args.txn.now c.args.live.now c.requires c.args.likely (sym c.stands_at.ensures ∙ c.if-stands_at.true)
