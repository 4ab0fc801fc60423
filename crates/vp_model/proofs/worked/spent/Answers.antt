use Rattle.vp_model.proofs.Computed.LastNumbers.{no_transaction_left, no_view_left}
use Rattle.vp_model.proofs.worked.spent.Goals as goal

pub returns-clause-transactions : goal.returns-clause-transactions
returns-clause-transactions c = no_transaction_left

pub returns-clause-views : goal.returns-clause-views
returns-clause-views c = no_view_left
