use Rattle.std.proofs.Common.{◌≡◌, ◌∙◌, add-one, ap, refl, arith}
use Rattle.vp_world.specs.Heads.{head_of, least_below}
use Rattle.vp_world.proofs.Least.{least_flows}
use Rattle.vp_world.proofs.state.State.flowing.Goals as goal

pub loop-pair-init : goal.loop-pair-init
loop-pair-init c = c.lower-least.ensures.lesser

pub loop-pair-preserved : goal.loop-pair-preserved
loop-pair-preserved c =
    rw (add-one, c.lower-least-in-loop-pair.ensures.lesser, c.loop-pair.invariant) refl

pub returns : goal.returns
returns c =
    let last : c.loop-pair.pair ≡ 256 = omega (arith, c.loop-pair-test.false) in
    c.loop-pair.invariant ∙ ap (least_below (head_of c.args.self.now)) last ∙ least_flows c.args.self.now c.lower-least.ensures.sited
