use Rattle.std.proofs.Common.{rules, sym}
use Rattle.vp_records.proofs.Ascending.{changed, changed-nowhere, still_ascend}
use Rattle.vp_records.proofs.site_copies.SiteCopies.replace.Goals as goal

pub invariant_of-self-in-Some : goal.invariant_of-self-in-Some
invariant_of-self-in-Some c = λ ascending.
    let there = rw (← c.self.view_is) at (sym c.in-Some.ensures.place) in
    let e = still_ascend c.self.inside.copies.items (c.self.invariant ascending) c.args.rec (λ old. c.args.stored) c.in-Some.place c.index_mut.result.now there in
    rw (← c.index_mut.ensures.value) at e

pub returns-in-Some-clause-ok : goal.returns-in-Some-clause-ok
returns-in-Some-clause-ok c =
    let there = rw (← c.self.view_is) at (sym c.in-Some.ensures.place) in
    let e = changed c.self.inside.copies.items (c.self.invariant (search rules)) c.args.rec (λ old. c.args.stored) c.in-Some.place c.index_mut.result.now there in
    rw (← c.self.view_is) (rw (← c.index_mut.ensures.value) at e)

pub returns-in_default-clause-ok : goal.returns-in_default-clause-ok
returns-in_default-clause-ok c =
    let there = rw (← c.self.view_is) at (sym c.in_default.ensures.place) in
    rw (← c.self.view_is) (changed-nowhere c.self.inside.copies.items (c.self.invariant (search rules)) c.args.rec (λ old. c.args.stored) there)
