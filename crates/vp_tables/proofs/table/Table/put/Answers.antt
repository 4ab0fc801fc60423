use Rattle.vp_tables.proofs.Keyed.{put_keyed, put_there}
use Rattle.vp_tables.proofs.table.Table.put.Goals as goal

pub invariant_of-self-2 : goal.invariant_of-self-2
invariant_of-self-2 g c =
    (rw (c.in_ok-insert.ensures.entries, c.key_of.ensures, c.name.ensures) (put_keyed g.T.HasTxn.txn c.args.item c.self.inside.tree.entries c.self.invariant.0), c.insert.ensures.ordered)

pub returns-clause-ok : goal.returns-clause-ok
returns-clause-ok g c =
    rw (← c.self.view_is, c.in_ok-insert.ensures.entries, c.key_of.ensures, c.name.ensures) (put_there g.T.HasTxn.txn c.args.item c.self.inside.tree.entries c.self.invariant.0)
