use Rattle.std.proofs.Common.{sym, ◌∙◌, arith}
use Rattle.vp_text.proofs.Loops.{meets_turn}
use Rattle.vp_text.proofs.digits.begins_some.Goals as goal

pub loop-preserved : goal.loop-preserved
loop-preserved c = (sym (meets_turn c.from-least.result c.from-most.result c.loop.counter c.loop.low c.loop.high c.loop-test.true c.if-most-low.false c.if-least-high.false) ∙ c.loop.invariant.0, omega arith, omega arith, omega arith)
