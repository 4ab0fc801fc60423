use Rattle.std.proofs.Common.{◌∙◌}
use Rattle.std.specs.Ordering.{is_eq}
use Rattle.vp_tables.specs.Keys.{key_of, key_cmp}
use Rattle.vp_tables.proofs.Keyed.{by_cmp, looked_up, ascending}
use Rattle.vp_tables.proofs.table.Table.get.Goals as goal

pub returns-clause-found : goal.returns-clause-found
returns-clause-found g c =
    let n = c.args.txn.now in
    let told = rw c.key_of.ensures at c.get.ensures.value in
    rw (← c.self.view_is) (told ∙ looked_up g.T.HasTxn.txn n (λ k. is_eq (key_cmp (key_of n) k)) (by_cmp n) c.self.inside.tree.entries c.self.invariant.0)

pub returns-clause-ascending : goal.returns-clause-ascending
returns-clause-ascending g c = rw (← c.self.view_is) (ascending g.T.HasTxn.txn c.self.inside.tree.entries c.self.invariant.0 c.self.invariant.1)
