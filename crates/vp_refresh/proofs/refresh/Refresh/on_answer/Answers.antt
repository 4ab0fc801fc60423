use Rattle.std.proofs.Common.{◌≡◌, ◌==◌, Result, Ok, Err, OnOk, sym, ap, ◌∙◌}
use Rattle.std.proofs.lemmas.List.Quantifiers.{position-Some}
use Rattle.vp_model.specs.Types.{Refreshing}
use Rattle.vp_refresh.proofs.Listed.{answered, answered-nowhere, still_ascend}
use Rattle.vp_refresh.proofs.refresh.Refresh.on_answer.Goals as goal

after_ok : {A E P Q : Type 0} (r : Result A E) → (P → Q) → OnOk r P → OnOk r Q
after_ok (Ok a) f h = f h
after_ok (Err e) f h = h

pub invariant_of-self : goal.invariant_of-self
invariant_of-self c =
    let items = c.self.inside.listed.items in
    let there = rw (c.deref.ensures.value) at (sym c.in-Some.ensures) in
    let within = (position-Some (λ (r : Refreshing). r.rec == c.args.rec) items c.in-Some.place c.index_mut.result.now there).0 in
    still_ascend items c.in-Some.place c.index_mut.result.now c.keep.new.self within (c.keep.ensures.rec ∙ ap (λ (r : Refreshing). r.rec) c.index_mut.ensures.value) c.self.invariant

pub returns-in-None : goal.returns-in-None
returns-in-None c =
    let there = rw (c.deref.ensures.value) at (sym c.in-None.ensures) in
    rw (← c.self.view_is) (answered-nowhere c.args.rec c.args.from c.args.stored.now c.self.inside.listed.items there)

pub returns-in-Some : goal.returns-in-Some
returns-in-Some c =
    let there = rw (c.deref.ensures.value) at (sym c.in-Some.ensures) in
    let e = answered c.args.rec c.args.from c.args.stored.now c.self.inside.listed.items c.self.invariant c.in-Some.place c.index_mut.result.now there in
    rw (← c.self.view_is) (after_ok c.keep.result (λ kept. rw kept (rw (← c.index_mut.ensures.value) at e)) c.keep.ensures.kept)
