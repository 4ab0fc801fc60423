use Rattle.std.proofs.Common.{◌∙◌, map, filter, rules, sym, ap, subst}
use Rattle.std.proofs.lemmas.List.{with_items_is, places}
use Rattle.vp_locks.specs.Index.{IsRecIndex, IsOwnerIndex}
use Rattle.vp_locks.specs.Places.{present_locks}
use Rattle.vp_locks.proofs.InSlots.{if_kept_there, present_all}
use Rattle.vp_locks.proofs.Locks.retain.Goals as goal

pub invariant_of-self : goal.invariant_of-self
invariant_of-self g c =
    subst (λ xs. IsRecIndex c.sweep_all.new.by_rec xs × IsOwnerIndex c.sweep_all.new.by_owner.lists xs) (sym (with_items_is c.self.inside.slots c.sweep_all.new.slots (search (rules, places))))
    (c.sweep_all.ensures.records, c.sweep_all.ensures.owners)

pub returns : goal.returns
returns g c =
    let keeps = g.K.Keeps.keeps c.args.kept.now in
    ap present_locks (with_items_is c.self.inside.slots c.sweep_all.new.slots (search (rules, places)) ∙ c.sweep_all.ensures.slots ∙ ap (map (if_kept_there keeps)) c.deref_mut.ensures.value)
    ∙ present_all keeps c.self.inside.slots.items ∙ ap (filter keeps) c.self.view_is
