use Rattle.std.specs.Ordering.{is_eq}
use Rattle.vp_tables.specs.Keys.{key_of, key_cmp}
use Rattle.vp_tables.proofs.Keyed.{by_cmp, removed, removed_keyed}
use Rattle.vp_tables.proofs.table.Table.remove.Goals as goal

pub invariant_of-self : goal.invariant_of-self
invariant_of-self g c =
    let n = c.args.txn.now in
    (rw (c.remove.ensures.entries, c.key_of.ensures) (removed_keyed g.T.HasTxn.txn n (λ k. is_eq (key_cmp (key_of n) k)) (by_cmp n) c.self.inside.tree.entries c.self.invariant.0), c.remove.ensures.ordered)

pub returns : goal.returns
returns g c =
    let n = c.args.txn.now in
    let entries = rw c.key_of.ensures at c.remove.ensures.entries in
    let updates = rw c.key_of.ensures at c.remove.ensures.updates in
    rw (← c.self.view_is) (removed g.T.HasTxn.txn n (λ k. is_eq (key_cmp (key_of n) k)) (by_cmp n) c.self.inside.tree.entries c.remove.new.self.entries c.self.invariant.0 entries updates.1)
