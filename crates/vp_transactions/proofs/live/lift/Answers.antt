use Rattle.std.proofs.Common.{ap, refl}
use Rattle.vp_model.specs.Types.{Live}
use Rattle.vp_model.specs.Words.{same_txn}
use Rattle.vp_transactions.proofs.Hands.{back}
use Rattle.vp_transactions.proofs.Order.{live_changed}
use Rattle.vp_transactions.proofs.Waiting.{found_waits}
use Rattle.vp_transactions.proofs.live.lift.Goals as goal

pub returns-clause-back : goal.returns-clause-back
returns-clause-back c =
    back c.args.txn.now c.new_live-empty.result c.args.live.now _ c.replace.result (ap (λ (u : Live). u.txn) c.new_live-empty.ensures) c.replace.ensures.rest c.replace.ensures.taken c.replace.ensures.named

pub returns-clause-waiting : goal.returns-clause-waiting
returns-clause-waiting c =
    found_waits (λ (u : Live). same_txn u.txn c.args.txn.now) c.args.live.now c.replace.result c.replace.ensures.taken c.requires.waiting

pub returns-clause-rest : goal.returns-clause-rest
returns-clause-rest c =
    rw (c.replace.ensures.rest, c.new_live-empty.ensures) (live_changed c.args.txn.now _ c.args.live.now refl refl c.requires)
