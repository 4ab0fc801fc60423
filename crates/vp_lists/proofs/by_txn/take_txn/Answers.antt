use Rattle.std.proofs.Common.{sym}
use Rattle.vp_lists.proofs.Found.{find_none}
use Rattle.vp_lists.proofs.Named.{named}
use Rattle.vp_model.specs.Words.{same_txn}
use Rattle.vp_lists.proofs.by_txn.take_txn.Goals as goal

pub returns-in-Some-clause-named : goal.returns-in-Some-clause-named
returns-in-Some-clause-named g c =
    rw c.remove.ensures.value (named g.T.OfTxn.txn c.args.name.now c.args.items.now.items c.in-Some.place c.remove.result (rw c.deref.ensures.value at (sym c.in-Some.ensures.place)))

pub returns-in-None-clause-taken : goal.returns-in-None-clause-taken
returns-in-None-clause-taken g c =
    sym (find_none (λ t. same_txn (g.T.OfTxn.txn t) c.args.name.now) c.args.items.now.items (rw c.deref.ensures.value at (sym c.in-None.ensures.place)))
