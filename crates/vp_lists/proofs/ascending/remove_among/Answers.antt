use Rattle.std.proofs.Common.{sym, subst, ◌∙◌, ◌==◌, map, not}
use Rattle.std.specs.List.Sorted.{IsStrictlyIncreasing}
use Rattle.vp_lists.proofs.Halving.{filter_ascends, without_none, without_one}
use Rattle.vp_lists.proofs.ascending.remove_among.Goals as goal

pub returns-in-Some-clause-rest : goal.returns-in-Some-clause-rest
returns-in-Some-clause-rest g c =
    c.remove.ensures.items ∙ sym (without_one g.T.OfRec.rec c.args.items.now.items c.requires c.args.rec c.in-Some.place c.remove.result (sym (rw c.deref.ensures.value at c.in-Some.ensures)))

pub returns-in-Some-clause-ascending : goal.returns-in-Some-clause-ascending
returns-in-Some-clause-ascending g c =
    let rest = c.remove.ensures.items ∙ sym (without_one g.T.OfRec.rec c.args.items.now.items c.requires c.args.rec c.in-Some.place c.remove.result (sym (rw c.deref.ensures.value at c.in-Some.ensures))) in
    subst (λ xs. IsStrictlyIncreasing (map g.T.OfRec.rec xs)) (sym rest) (filter_ascends g.T.OfRec.rec (λ item. not (g.T.OfRec.rec item == c.args.rec)) c.args.items.now.items c.requires)

pub returns-in_default-clause-rest : goal.returns-in_default-clause-rest
returns-in_default-clause-rest g c =
    without_none g.T.OfRec.rec c.args.items.now.items c.args.rec (sym (rw c.deref.ensures.value at c.in_default.ensures))
