use Rattle.std.proofs.Common.{length, ap, arith}
use Rattle.vp_serving.proofs.Printed.{one_more}
use Rattle.vp_serving.proofs.telling.joined.Goals as goal

pub loop-line-preserved : goal.loop-line-preserved
loop-line-preserved c =
    let more = one_more c.args.lines.now c.loop-line.line-index c.as_slice.result.now (cc) (omega (arith, ap length c.as_slice-line-items.ensures)) in
    let items = c.in_ok-extend_from_slice.ensures.items in
    cc
