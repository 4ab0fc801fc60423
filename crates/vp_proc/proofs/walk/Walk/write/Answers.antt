use Rattle.std.proofs.Common.{◌∙◌, sym, rules}
use Rattle.vp_proc.specs.declared.ended.End.TheVariants as ends
use Rattle.vp_proc.specs.declared.walk.Step.TheVariants as steps
use Rattle.std.specs.Fmt.{decimal}
use Rattle.vp_procedure.specs.declared.procedure.Statement.TheVariants as statement
use Rattle.vp_proc.proofs.Numbers.{number_is_value}
use Rattle.vp_proc.proofs.Walked.{stays_so, writing, writing_none}
use Rattle.vp_proc.proofs.walk.Walk.write.Goals as goal

pub returns-in_ok-value_of_number-in-Some : goal.returns-in_ok-value_of_number-in-Some
returns-in_ok-value_of_number-in-Some c =
    let w = c.args.self.now in
    let n = c.in-Some.number in
    let name = c.args.name.now in
    rw (c.in_ok-copy_of-in-Some.ensures, c.in_ok-value_of_number-in-Some.ensures)
    (stays_so w (statement.Write name c.args.rec c.args.expr.now) (steps.Write name c.args.rec (decimal n)) c.requires.doing
    (writing w.line w.vars name c.args.rec c.args.expr.now n (sym c.value.ensures ∙ c.in-Some.is)) (search rules, number_is_value n (search rules)) (search rules))

pub returns-in-None : goal.returns-in-None
returns-in-None c =
    let w = c.args.self.now in
    rw c.overflow.ensures
    (stays_so w (statement.Write c.args.name.now c.args.rec c.args.expr.now) (steps.Stop (ends.Overflow w.line)) c.requires.doing
    (writing_none w.line w.vars c.args.name.now c.args.rec c.args.expr.now (sym c.value.ensures ∙ c.in-None.is)) tt (search rules))
