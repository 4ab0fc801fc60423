use Rattle.std.proofs.Common.{sym, subst}
use Rattle.std.specs.List.Sorted.{IsStrictlyIncreasing}
use Rattle.vp_model.specs.Durable.{changed as changed_by}
use Rattle.vp_model.specs.Words.{keys}
use Rattle.vp_records.proofs.Ascending.{changed, changed-nowhere, still_ascend}
use Rattle.vp_records.proofs.site_copies.SiteCopies.change.Goals as goal

pub invariant_of-self : goal.invariant_of-self
invariant_of-self c = λ ascending.
    let there = rw (c.deref.ensures.value) at (sym c.in-Some.ensures) in
    let e = still_ascend c.self.inside.copies.items (c.self.invariant ascending) c.args.rec (λ old. c.change_copy.new.stored) c.in-Some.place c.index_mut.result.now there in
    rw (← c.index_mut.ensures.value) at e

pub returns-in-Some : goal.returns-in-Some
returns-in-Some c =
    let there = rw (c.deref.ensures.value) at (sym c.in-Some.ensures) in
    let ascend = subst (λ copies. IsStrictlyIncreasing (keys copies)) (sym c.self.view_is) c.requires in
    let e = changed c.self.inside.copies.items ascend c.args.rec (changed_by c.args.date.now c.args.change) c.in-Some.place c.index_mut.result.now there in
    rw (← c.self.view_is) (rw (← c.index_mut.ensures.value, ← c.change_copy.ensures) at e)

pub returns-in_default : goal.returns-in_default
returns-in_default c =
    let there = rw (c.deref.ensures.value) at (sym c.in_default.ensures) in
    let ascend = subst (λ copies. IsStrictlyIncreasing (keys copies)) (sym c.self.view_is) c.requires in
    rw (← c.self.view_is) (changed-nowhere c.self.inside.copies.items ascend c.args.rec (changed_by c.args.date.now c.args.change) there)
