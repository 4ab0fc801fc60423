use Rattle.std.proofs.Common.{◌∙◌, [], ◌∷◌, ◌++◌, ap, sym, subst}
use Rattle.std.proofs.lemmas.List.{append_assoc}
use Rattle.std.proofs.lemmas.Map.Iter.{rest_more}
use Rattle.std.specs.Map.Iter.{deref}
use Rattle.vp_model.specs.Words.{put, same_txn, txn_before}
use Rattle.vp_tables.specs.Keys.{AreAscending}
use Rattle.vp_tables.proofs.Keyed.{ascending, put_after}
use Rattle.vp_tables.proofs.table.TableCopyOf.copy_of.Goals as goal

pub loop-item-preserved : goal.loop-item-preserved
loop-item-preserved g c =
    let txn = g.T.HasTxn.txn in
    let copy = c.loop-item.copy in
    let item = c.in-Some.item.now in
    let left = c.next.new.self in
    let whole = ap (λ ts. copy ++ ts) (sym (rest_more deref c.loop-item.item-iterator left c.next.result c.in-Some.item c.in-Some.is c.next.ensures.steps)) ∙ c.loop-item.invariant in
    let ascends = ascending txn c.self.inside.tree.entries c.self.invariant.0 c.self.invariant.1 in
    let following = put_after txn item copy left (subst (AreAscending txn) (c.self.view_is ∙ sym whole) ascends) in
    let done = c.in_ok-put.ensures.ok ∙ ap (λ t. put (λ a b. same_txn (txn a) (txn b)) (λ a b. txn_before (txn a) (txn b)) t copy) c.in_ok-copy_of.ensures ∙ following in
    ap (λ ts. ts ++ left) done ∙ append_assoc copy (item ∷ []) left ∙ whole
