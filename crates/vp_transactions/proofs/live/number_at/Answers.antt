use Rattle.std.proofs.Common.{◌∙◌, ap}
use Rattle.std.specs.Option.{option_map_or}
use Rattle.vp_model.specs.Types.{Live}
use Rattle.vp_transactions.proofs.Order.{number_is}
use Rattle.vp_transactions.proofs.live.number_at.Goals as goal

pub returns-in-None : goal.returns-in-None
returns-in-None c = ap (λ o. option_map_or (λ (t : Live). t.txn.seq) o 0) c.in-None.ensures ∙ number_is c.args.live.now c.args.place

pub returns-in-Some : goal.returns-in-Some
returns-in-Some c = ap (λ o. option_map_or (λ (t : Live). t.txn.seq) o 0) c.in-Some.ensures ∙ number_is c.args.live.now c.args.place
