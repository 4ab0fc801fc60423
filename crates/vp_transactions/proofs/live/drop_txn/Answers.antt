use Rattle.std.proofs.Common.{◌∙◌, sym}
use Rattle.vp_model.specs.Types.{Live}
use Rattle.vp_model.specs.Words.{same_txn}
use Rattle.vp_lists.proofs.Found.{others_none}
use Rattle.vp_transactions.proofs.Order.{dropped_at, live_without}
use Rattle.vp_transactions.proofs.live.drop_txn.Goals as goal

pub returns-in-Some-clause-dropped : goal.returns-in-Some-clause-dropped
returns-in-Some-clause-dropped c =
    c.remove.ensures.rest ∙ dropped_at (λ (u : Live). same_txn u.txn c.args.txn.now) c.args.live.now c.in-Some.place c.in-Some.ensures

pub returns-in-Some-clause-rest : goal.returns-in-Some-clause-rest
returns-in-Some-clause-rest c =
    rw (c.remove.ensures.rest ∙ dropped_at (λ (u : Live). same_txn u.txn c.args.txn.now) c.args.live.now c.in-Some.place c.in-Some.ensures)
    (live_without (λ (u : Live). same_txn u.txn c.args.txn.now) c.args.live.now c.requires)

pub returns-in_default-clause-dropped : goal.returns-in_default-clause-dropped
returns-in_default-clause-dropped c =
    sym (others_none (λ (u : Live). same_txn u.txn c.args.txn.now) c.args.live.now (sym c.in_default.ensures))
