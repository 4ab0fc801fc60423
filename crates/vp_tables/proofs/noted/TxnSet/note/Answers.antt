use Rattle.std.proofs.Common.{◌≡◌, ◌∙◌, ap, sym, false}
use Rattle.std.specs.Map.{values_of}
use Rattle.vp_model.specs.Words.{has_txn}
use Rattle.vp_tables.proofs.Keyed.{noted, noted_keyed, noted_new}
use Rattle.vp_tables.proofs.noted.TxnSet.note.Goals as goal

pub invariant_of-self : goal.invariant_of-self
invariant_of-self c =
    let n = c.args.txn.now in
    let es = c.self.inside.keyed.entries in
    let new : has_txn (values_of es) n ≡ false = ap (λ ts. has_txn ts n) c.self.view_is ∙ sym c.has.ensures ∙ c.if-not-has.true in
    rw (c.in_ok-insert.ensures.entries, c.key_of.ensures, noted_new n es c.self.invariant new) (noted_keyed n es c.self.invariant)

pub returns-in_ok-insert : goal.returns-in_ok-insert
returns-in_ok-insert c =
    let n = c.args.txn.now in
    let es = c.self.inside.keyed.entries in
    let new : has_txn (values_of es) n ≡ false = ap (λ ts. has_txn ts n) c.self.view_is ∙ sym c.has.ensures ∙ c.if-not-has.true in
    rw (← c.self.view_is, c.in_ok-insert.ensures.entries, c.key_of.ensures, noted_new n es c.self.invariant new) (noted n es new)
