use Rattle.std.proofs.Common.{◌∙◌}
use Rattle.vp_model.specs.Types.{Live}
use Rattle.vp_model.specs.Words.{same_txn}
use Rattle.vp_transactions.proofs.Order.{there}
use Rattle.vp_transactions.proofs.live.is_there.Goals as goal

pub returns : goal.returns
returns c = c.is_some.ensures ∙ there (λ (u : Live). same_txn u.txn c.args.txn.now) c.args.live.now c.place_of.result c.place_of.ensures
