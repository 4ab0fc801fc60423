use Rattle.std.proofs.lemmas.List.{take_all}
use Rattle.vp_catalog.proofs.Onward.{read_more}
use Rattle.vp_catalog.proofs.placed.holders_of.Goals as goal

pub loop-weight-preserved : goal.loop-weight-preserved
loop-weight-preserved c = read_more (λ w. w.0) c.args.weights.now c.loop-weight.weight-index c.weight-item.result _ _ c.loop-weight-test.true c.weight-item.is c.loop-weight.invariant c.in_ok-push.ensures.ok

pub returns : goal.returns
returns c = rw (take_all c.loop-weight.weight-index c.args.weights.now c.loop-weight-test.false) at c.loop-weight.invariant
