use Rattle.std.proofs.Common.{rules, ◌≡◌, sym, subst, Result, Err}
use Rattle.vp_model.specs.World.{flow}
use Rattle.vp_world.specs.Known.{Known}
use Rattle.vp_drawing.specs.Drawings.{Draws}
use Rattle.vp_drawing.specs.declared.end.DrawingEnd.{DrawingEnd}
use Rattle.vp_drawing.proofs.Flowing.{flow_begins, flow_ends, flow_is_over, flow_stops, flow_turns}
use Rattle.vp_drawing.proofs.drawing.Drawing.draw_flow.Goals as goal

pub loop-init : goal.loop-init
loop-init c = flow_begins c.args.number c.args.count c.args.world c.args.self.now c.requires

pub returns-in-None : goal.returns-in-None
returns-in-None c = λ run base so_far. flow_stops c.args.number c.args.count c.args.world c.args.self.now c.loop.counter c.loop.world c.loop.self c.loop.invariant run base so_far (search rules) (search rules)

pub draw_step-requires : goal.draw_step-requires
draw_step-requires c = c.loop.invariant.is

pub returns-in_err-world-in-Some : goal.returns-in_err-world-in-Some
returns-in_err-world-in-Some c = λ run base so_far.
    let why = c.in_err-world-in-Some.field-0.0 in
    let is : c.from_residual.result ≡ Err why = search rules in
    subst (λ (r : Result Known DrawingEnd). Draws c.args.world.catalogue (flow c.args.world.catalogue c.args.number c.args.count run) base r c.draw_step.new.self) (sym is)
    (flow_ends c.args.number c.args.count c.args.world c.args.self.now c.loop.counter c.loop.world c.loop.self c.loop.invariant (search rules) c.in-Some.k (search rules) why c.draw_step.new.self (search rules) run base so_far)

pub loop-preserved : goal.loop-preserved
loop-preserved c =
    flow_turns c.args.number c.args.count c.args.world c.args.self.now c.loop.counter c.loop.world c.loop.self c.loop.invariant (search rules) c.in-Some.k (search rules) c.in_ok-world-in-Some.world c.draw_step.new.self (search rules)

pub returns : goal.returns
returns c = λ run base so_far. flow_is_over c.args.number c.args.count c.args.world c.args.self.now c.loop.counter c.loop.world c.loop.self c.loop.invariant run base so_far (search rules)
