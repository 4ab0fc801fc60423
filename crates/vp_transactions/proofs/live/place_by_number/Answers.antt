use Rattle.std.proofs.Common.{sym}
use Rattle.vp_transactions.proofs.Order.{nowhere, place_is}
use Rattle.vp_transactions.proofs.live.place_by_number.Goals as goal

pub returns-in-None : goal.returns-in-None
returns-in-None c =
    nowhere c.args.txn.now c.args.live.now c.place_for-place.result c.place_for-place.ensures c.requires (sym c.in-None.ensures)

pub returns-in-Some : goal.returns-in-Some
returns-in-Some c =
    rw (c.then_some.ensures, c.is_same_txn.ensures) (place_is c.args.txn.now c.args.live.now c.place_for-place.result c.place_for-place.ensures c.requires c.in-Some.t.now (sym c.in-Some.ensures))
