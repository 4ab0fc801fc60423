use Rattle.std.proofs.Common.{◌∙◌, Some, ap, sym, subst}
use Rattle.std.specs.Map.{values_of, set_value}
use Rattle.std.specs.Option.{option_copied_mut}
use Rattle.std.specs.Ordering.{is_eq}
use Rattle.vp_tables.specs.Keys.{key_of, key_cmp, AreKeyed}
use Rattle.vp_tables.proofs.Keyed.{ascending, by_cmp, changed, changed_keyed, changed_none, looked_up}
use Rattle.vp_tables.proofs.table.Table.replace.Goals as goal

pub returns-in_default-clause-taken : goal.returns-in_default-clause-taken
returns-in_default-clause-taken g c =
    let n = g.T.HasTxn.txn c.args.item in
    let told = rw (c.key_of.ensures, c.name.ensures) at c.get_mut.ensures.value in
    rw (← c.self.view_is) (sym (ap option_copied_mut c.in_default.is) ∙ told ∙ looked_up g.T.HasTxn.txn n (λ k. is_eq (key_cmp (key_of n) k)) (by_cmp n) c.self.inside.tree.entries c.self.invariant.0)

pub returns-in_default-clause-rest : goal.returns-in_default-clause-rest
returns-in_default-clause-rest g c =
    let n = g.T.HasTxn.txn c.args.item in
    let told = rw (c.key_of.ensures, c.name.ensures) at c.get_mut.ensures.value in
    let none = sym (looked_up g.T.HasTxn.txn n (λ k. is_eq (key_cmp (key_of n) k)) (by_cmp n) c.self.inside.tree.entries c.self.invariant.0) ∙ sym told ∙ ap option_copied_mut c.in_default.is in
    rw (← c.self.view_is, c.get_mut.follows.holds-at-none) (sym (changed_none _ (λ _. c.args.item) (values_of c.self.inside.tree.entries) none))

pub returns-in_default-clause-ascending : goal.returns-in_default-clause-ascending
returns-in_default-clause-ascending g c = rw (← c.self.view_is) (ascending g.T.HasTxn.txn c.self.inside.tree.entries c.self.invariant.0 c.self.invariant.1)

pub invariant_of-self-2 : goal.invariant_of-self-2
invariant_of-self-2 g c =
    let n = g.T.HasTxn.txn c.args.item in
    let es = c.self.inside.tree.entries in
    let wrote = c.get_mut.follows.holds c.replace.new.dest in
    let entries = wrote.0 ∙ ap (λ k. set_value (λ q. is_eq (key_cmp k q)) es c.replace.new.dest) (c.key_of.ensures ∙ ap key_of c.name.ensures) ∙ ap (set_value (λ q. is_eq (key_cmp (key_of n) q)) es) c.replace.ensures.after in
    (subst (AreKeyed g.T.HasTxn.txn) (sym entries) (changed_keyed g.T.HasTxn.txn c.args.item (λ k. is_eq (key_cmp (key_of n) k)) (by_cmp n) es c.self.invariant.0), wrote.4)

pub returns-clause-taken : goal.returns-clause-taken
returns-clause-taken g c =
    let n = g.T.HasTxn.txn c.args.item in
    let told = rw (c.key_of.ensures, c.name.ensures) at c.get_mut.ensures.value in
    rw (← c.self.view_is) (ap Some c.replace.ensures.value ∙ sym (ap option_copied_mut c.in-Some.is) ∙ told ∙ looked_up g.T.HasTxn.txn n (λ k. is_eq (key_cmp (key_of n) k)) (by_cmp n) c.self.inside.tree.entries c.self.invariant.0)

pub returns-clause-rest : goal.returns-clause-rest
returns-clause-rest g c =
    let n = g.T.HasTxn.txn c.args.item in
    let es = c.self.inside.tree.entries in
    let wrote = c.get_mut.follows.holds c.replace.new.dest in
    let entries = wrote.0 ∙ ap (λ k. set_value (λ q. is_eq (key_cmp k q)) es c.replace.new.dest) (c.key_of.ensures ∙ ap key_of c.name.ensures) ∙ ap (set_value (λ q. is_eq (key_cmp (key_of n) q)) es) c.replace.ensures.after in
    rw (← c.self.view_is) (ap values_of entries ∙ changed g.T.HasTxn.txn c.args.item (λ k. is_eq (key_cmp (key_of n) k)) (by_cmp n) es c.self.invariant.0)

pub returns-clause-ascending : goal.returns-clause-ascending
returns-clause-ascending g c = rw (← c.self.view_is) (ascending g.T.HasTxn.txn c.self.inside.tree.entries c.self.invariant.0 c.self.invariant.1)
