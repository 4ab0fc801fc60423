use Rattle.std.proofs.Common.{◌∙◌}
use Rattle.std.specs.Ordering.{is_eq}
use Rattle.vp_tables.specs.Keys.{key_of, key_cmp}
use Rattle.vp_tables.proofs.Keyed.{by_cmp, looked_for}
use Rattle.vp_tables.proofs.table.Table.has.Goals as goal

pub returns : goal.returns
returns g c =
    let n = c.args.txn.now in
    let told = rw c.key_of.ensures at c.contains_key.ensures in
    rw (← c.self.view_is) (told ∙ looked_for g.T.HasTxn.txn n (λ k. is_eq (key_cmp (key_of n) k)) (by_cmp n) c.self.inside.tree.entries c.self.invariant.0)
