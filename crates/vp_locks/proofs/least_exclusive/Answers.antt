use Rattle.std.proofs.Common.{◌∙◌, None, fold, ap, take_all}
use Rattle.vp_locks.proofs.Indexes.{least_step, least_found}
use Rattle.vp_locks.proofs.least_exclusive.Goals as goal

pub returns : goal.returns
returns c =
    let slots = c.args.slots.now in
    let rec = c.args.rec in
    let owner = c.args.owner.now in
    c.loop-place.invariant ∙ ap (fold (least_step rec owner slots) None) (take_all c.loop-place.place-index c.args.places.now c.loop-place-test.false) ∙ least_found rec owner slots None c.args.places.now
