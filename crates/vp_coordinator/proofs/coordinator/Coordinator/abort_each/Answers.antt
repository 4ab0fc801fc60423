use Rattle.std.proofs.Common.{◌∙◌, None}
use Rattle.vp_base.specs.declared.site.Ending.TheVariants.{ViewChanged}
use Rattle.vp_model.specs.Types.{Live}
use Rattle.vp_coordinator.proofs.Ends.{all_closed, closed_first, fewer_left}
use Rattle.vp_coordinator.proofs.coordinator.Coordinator.abort_each.Goals as goal

pub loop-t-preserved : goal.loop-t-preserved
loop-t-preserved c =
    closed_first c.args.id (λ (t : Live). ViewChanged c.args.id t.view None) c.loop-t.live c.take_first.new.self c.in-Some.t c.loop-t.self c.close.new.self c.in-Some.ensures.taken c.in-Some.ensures.rest c.in_ok-close.ensures.row
    ∙ c.loop-t.invariant

pub loop-t-smaller : goal.loop-t-smaller
loop-t-smaller c = fewer_left c.loop-t.live c.take_first.new.self c.in-Some.t c.in-Some.ensures.taken c.in-Some.ensures.rest

pub returns : goal.returns
returns c =
    all_closed c.args.id (λ (t : Live). ViewChanged c.args.id t.view None) c.loop-t.live c.loop-t.self c.in_default.ensures.taken
    ∙ c.loop-t.invariant
