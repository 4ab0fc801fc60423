use Rattle.std.proofs.Common.{◌∙◌, sym, refl, rules, false}
use Rattle.vp_proc.specs.declared.ended.End.TheVariants as ends
use Rattle.vp_proc.specs.declared.walk.Step.TheVariants as steps
use Rattle.vp_proc.specs.declared.walk.Mode.TheVariants as mode
use Rattle.vp_procedure.specs.declared.procedure.Statement.TheVariants as statement
use Rattle.vp_proc.specs.Walking.{IsSome}
use Rattle.vp_procedure.specs.declared.procedure.Statement.{Statement}
use Rattle.std.proofs.Common.{subst}
use Rattle.vp_proc.proofs.Walked.{stays_so, turns_so, read_step, reading, passing_else, closing, failing, giving, giving_none}
use Rattle.vp_proc.proofs.walk.Walk.deed.Goals as goal

pub returns-in_ok-copy_of-in-Read : goal.returns-in_ok-copy_of-in-Read
returns-in_ok-copy_of-in-Read c =
    let w = c.args.self.now in
    let r = c.in-Read in
    rw (c.in-Read.is, c.in_ok-copy_of-in-Read.ensures)
    (stays_so w (statement.Read r.var r.name r.rec) (steps.Read r.var r.name r.rec) c.requires.doing (reading w.line w.vars r.var r.name r.rec)
    (read_step r.var r.name r.rec (subst (λ (s : Statement). IsSome s) c.in-Read.is c.requires.statement)) (search rules))

pub returns-in-Else : goal.returns-in-Else
returns-in-Else c =
    let w = c.args.self.now in
    rw c.in-Else.is (turns_so w (record w { mode = mode.Passing false 0 }) statement.Else (mode.Passing false 0) c.requires.doing refl refl (passing_else w.line w.vars) (search rules))

pub returns-in-End : goal.returns-in-End
returns-in-End c =
    let w = c.args.self.now in
    rw c.in-End.is (stays_so w statement.End steps.Next c.requires.doing (closing w.line w.vars) tt (search rules))

pub returns-in-Fail : goal.returns-in-Fail
returns-in-Fail c =
    let w = c.args.self.now in
    rw c.in-Fail.is (stays_so w (statement.Fail c.in-Fail.code) (steps.Stop (ends.Failed c.in-Fail.code)) c.requires.doing (failing w.line w.vars c.in-Fail.code) tt (search rules))

pub returns-in-Some : goal.returns-in-Some
returns-in-Some c =
    let w = c.args.self.now in
    rw c.in-Give.is (stays_so w (statement.Give c.in-Give.expr) (steps.Give c.in-Some.number) c.requires.doing (giving w.line w.vars c.in-Give.expr c.in-Some.number (sym c.value.ensures ∙ c.in-Some.is)) tt (search rules))

pub returns-in-None : goal.returns-in-None
returns-in-None c =
    let w = c.args.self.now in
    rw (c.in-Give.is, c.overflow.ensures) (stays_so w (statement.Give c.in-Give.expr) (steps.Stop (ends.Overflow w.line)) c.requires.doing (giving_none w.line w.vars c.in-Give.expr (sym c.value.ensures ∙ c.in-None.is)) tt (search rules))
