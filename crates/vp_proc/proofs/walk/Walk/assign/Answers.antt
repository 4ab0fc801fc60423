use Rattle.std.proofs.Common.{◌∙◌, sym, rules}
use Rattle.vp_proc.specs.declared.ended.End.TheVariants as ends
use Rattle.vp_proc.specs.declared.walk.Step.TheVariants as steps
use Rattle.vp_procedure.specs.declared.procedure.Statement.TheVariants as statement
use Rattle.vp_proc.proofs.Walked.{sets_so, stays_so, setting_none}
use Rattle.vp_proc.proofs.walk.Walk.assign.Goals as goal

pub returns-in-Some : goal.returns-in-Some
returns-in-Some c = sets_so c.args.self.now c.set.new.self c.args.var c.args.expr.now c.in-Some.number c.requires.doing c.set.ensures (sym c.value.ensures ∙ c.in-Some.is) (search rules)

pub returns-in-None : goal.returns-in-None
returns-in-None c =
    let w = c.args.self.now in
    rw c.overflow.ensures (stays_so w (statement.Set c.args.var c.args.expr.now) (steps.Stop (ends.Overflow w.line)) c.requires.doing (setting_none w.line w.vars c.args.var c.args.expr.now (sym c.value.ensures ∙ c.in-None.is)) tt (search rules))
