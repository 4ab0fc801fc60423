use Rattle.std.proofs.Common.{arith}
use Rattle.std.proofs.lemmas.Grind.{common_steps}
use Rattle.vp_outside.proofs.Pieces.{Appends-next}
use Rattle.vp_outside.proofs.sink.write_all.Goals as goal

pub loop-at-preserved : goal.loop-at-preserved
loop-at-preserved g c =
    let put = c.in_ok-at.ensures in
    let before = c.loop-at.invariant in
    record {
      within = grind (arith, common_steps);
      handed = Appends-next _ _ _ _ _ _ _ (grind (arith, common_steps)) before.handed put.bytes;
      counted = grind (arith, common_steps);
    }
