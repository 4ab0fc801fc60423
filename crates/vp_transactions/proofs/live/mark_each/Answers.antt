use Rattle.std.proofs.Common.{◌<◌, length, sym, arith}
use Rattle.std.proofs.lemmas.List.Edits.{map_over_more}
use Rattle.std.proofs.lemmas.Option.{get_or_from_slice_get}
use Rattle.vp_model.specs.Step.{mark}
use Rattle.vp_transactions.proofs.live.mark_each.Goals as goal

pub loop-place-preserved : goal.loop-place-preserved
loop-place-preserved c =
    let within : c.loop-place.place < length c.args.live.now = omega (arith, c.loop-place-test.true, c.len-place-end.ensures) in
    let item = c.item_mut.result.now in
    rw c.mark_one.ensures (map_over_more mark c.args.live.now c.loop-place.live c.loop-place.place item within c.loop-place.invariant (sym (get_or_from_slice_get c.loop-place.live c.loop-place.place item item c.item_mut.ensures.value)))
