use Rattle.std.proofs.Common.{◌∙◌, ap, take}
use Rattle.vp_outside.specs.Causes.{count_after}
use Rattle.vp_outside.proofs.Pieces.{Took-more, OnErr-took}
use Rattle.vp_outside.proofs.source.read_to_end.Goals as goal

pub returns-in_err-extend_from_slice-clause-err : goal.returns-in_err-extend_from_slice-clause-err
returns-in_err-extend_from_slice-clause-err g c =
    let took = c.in_ok-count.ensures in
    OnErr-took _ _ _ _ (Took-more _ (take c.in_ok-count.count c.take.new.buf) _ _ _ c.loop-buf.invariant.taken took.bytes.0
    (took.count ∙ ap (count_after _) took.bound.1))
