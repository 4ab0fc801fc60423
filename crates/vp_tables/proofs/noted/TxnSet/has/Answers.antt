use Rattle.std.proofs.Common.{◌∙◌}
use Rattle.vp_tables.specs.Keys.{key_of}
use Rattle.vp_tables.proofs.Keyed.{key_eq, by_eq, looked_for}
use Rattle.vp_tables.proofs.noted.TxnSet.has.Goals as goal

pub returns : goal.returns
returns c =
    let n = c.args.txn.now in
    let told = rw c.key_of.ensures at c.contains_key.ensures in
    rw (← c.self.view_is) (told ∙ looked_for (λ t. t) n (key_eq (key_of n)) (by_eq n) c.self.inside.keyed.entries c.self.invariant)
