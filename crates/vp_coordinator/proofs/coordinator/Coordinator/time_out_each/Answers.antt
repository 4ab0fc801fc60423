use Rattle.std.proofs.Common.{◌∙◌, ap}
use Rattle.vp_coordinator.specs.Ends.{timed_out}
use Rattle.vp_coordinator.proofs.Each.{done_more, rest_more}
use Rattle.vp_coordinator.proofs.coordinator.Coordinator.time_out_each.Goals as goal

pub loop-t-preserved : goal.loop-t-preserved
loop-t-preserved c = (
  c.in_ok-time_out.ensures ∙ ap (timed_out c.args.id _) c.loop-t.invariant.0 ∙ done_more _ _ _ _ c.loop-t.invariant.1 (timed_out c.args.id) _ c.loop-t-test.true,
  rest_more c.args.late.now c.loop-t.late c.loop-t.t-index c.t-item.result c.loop-t.invariant.1 _,
)
