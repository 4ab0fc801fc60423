use Rattle.std.proofs.Common.{ap, rules}
use Rattle.vp_proc.specs.declared.walk.Mode.{Mode}
use Rattle.vp_proc.proofs.Walked.{passes_so}
use Rattle.vp_proc.proofs.walk.Walk.step.Goals as goal

pub returns-in-Passing : goal.returns-in-Passing
returns-in-Passing c =
    let w = c.args.self.now in
    passes_so w (record w { mode = c.passed-self.result }) c.args.statement.now c.in-Passing.to_else c.in-Passing.depth c.in-Passing.is (ap (λ (m : Mode). record w { mode = m }) c.passed-self.ensures) (search rules)
