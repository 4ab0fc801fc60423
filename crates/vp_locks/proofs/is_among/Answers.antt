use Rattle.std.proofs.Common.{◌∙◌, ◌&&◌, sym, ap, take_all}
use Rattle.std.specs.List.{list_any}
use Rattle.std.proofs.lemmas.List.Folds.{list_any_at}
use Rattle.vp_model.specs.Types.{Lock}
use Rattle.vp_model.specs.Words.{same_owner}
use Rattle.vp_locks.specs.Index.{exclusive_on}
use Rattle.vp_locks.specs.Places.{lock_at, passes}
use Rattle.vp_locks.proofs.Indexes.{any_found}
use Rattle.vp_locks.proofs.is_among.Goals as goal

pub returns-then-is_held : goal.returns-then-is_held
returns-then-is_held c =
    let slots = c.args.slots.now in
    let held = λ (lock : Lock). exclusive_on lock c.args.rec && same_owner lock.owner c.args.owner.now in
    let here = sym c.if-is_held.true ∙ c.is_held.ensures ∙ ap (passes held) c.lock_at.ensures.lock in
    sym (list_any_at (λ k. passes held (lock_at slots k)) c.args.places.now c.loop-place.place-index 0 c.loop-place-test.true (sym here)) ∙ any_found held slots c.args.places.now

pub returns : goal.returns
returns c =
    let slots = c.args.slots.now in
    let held = λ (lock : Lock). exclusive_on lock c.args.rec && same_owner lock.owner c.args.owner.now in
    sym c.loop-place.invariant ∙ ap (list_any (λ k. passes held (lock_at slots k))) (take_all c.loop-place.place-index c.args.places.now c.loop-place-test.false) ∙ any_found held slots c.args.places.now
