use Rattle.vp_progress.proofs.Returned.{can_be_served, short_served}
use Rattle.vp_progress.proofs.laws.clients_can_be_served.Goals as goal

pub returns-clause-unspent : goal.returns-clause-unspent
returns-clause-unspent c = can_be_served

pub returns-clause-short : goal.returns-clause-short
returns-clause-short c = short_served
