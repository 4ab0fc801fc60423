use Rattle.std.proofs.Common.{sym, subst, ◌∙◌, map}
use Rattle.std.specs.List.Sorted.{IsStrictlyIncreasing}
use Rattle.vp_lists.proofs.Halving.{ascend_with, put_at_place, put_where_it_belongs}
use Rattle.vp_lists.proofs.ascending.put_among.Goals as goal

pub returns-in-Ok-clause-ok : goal.returns-in-Ok-clause-ok
returns-in-Ok-clause-ok g c =
    sym (put_at_place g.T.OfRec.rec c.args.item c.args.items.now.items c.requires c.in-Ok.place (rw (c.deref.ensures.value, c.rec_of.ensures) at c.in-Ok.ensures))

pub returns-in-Ok-clause-ascending : goal.returns-in-Ok-clause-ascending
returns-in-Ok-clause-ascending g c =
    let placed = put_at_place g.T.OfRec.rec c.args.item c.args.items.now.items c.requires c.in-Ok.place (rw (c.deref.ensures.value, c.rec_of.ensures) at c.in-Ok.ensures) in
    subst (λ xs. IsStrictlyIncreasing (map g.T.OfRec.rec xs)) placed (ascend_with g.T.OfRec.rec c.args.item c.args.items.now.items c.requires)

pub returns-in_ok-insert-in-Err-clause-ok : goal.returns-in_ok-insert-in-Err-clause-ok
returns-in_ok-insert-in-Err-clause-ok g c =
    c.in_ok-insert-in-Err.ensures.items ∙ sym (put_where_it_belongs g.T.OfRec.rec c.args.item c.args.items.now.items c.requires c.in-Err.place (rw (c.deref.ensures.value, c.rec_of.ensures) at c.in-Err.ensures))

pub returns-in_ok-insert-in-Err-clause-ascending : goal.returns-in_ok-insert-in-Err-clause-ascending
returns-in_ok-insert-in-Err-clause-ascending g c =
    let placed = put_where_it_belongs g.T.OfRec.rec c.args.item c.args.items.now.items c.requires c.in-Err.place (rw (c.deref.ensures.value, c.rec_of.ensures) at c.in-Err.ensures) in
    subst (λ xs. IsStrictlyIncreasing (map g.T.OfRec.rec xs)) (placed ∙ sym c.in_ok-insert-in-Err.ensures.items) (ascend_with g.T.OfRec.rec c.args.item c.args.items.now.items c.requires)
