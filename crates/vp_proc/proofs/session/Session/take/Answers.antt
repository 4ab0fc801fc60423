use Rattle.std.proofs.Common.{◌+◌, subst}
use Rattle.std.proofs.lemmas.Result.{err_from_is_err_and}
use Rattle.vp_proc.specs.Scripts.{script_from}
use Rattle.vp_proc.specs.declared.walk.Step.{Step}
use Rattle.vp_proc.specs.declared.walk.Step.TheVariants as steps
use Rattle.vp_proc.specs.Walking.{IsStep}
use Rattle.vp_proc.proofs.Sessions.{at_step, stop_due}
use Rattle.vp_proc.proofs.session.Session.take.Goals as goal

pub read-requires-clause-letter : goal.read-requires-clause-letter
read-requires-clause-letter g c = let step = subst (λ (s : Step). IsStep s) c.in-Read.is c.requires.step in step.0

pub read-requires-clause-name : goal.read-requires-clause-name
read-requires-clause-name g c = let step = subst (λ (s : Step). IsStep s) c.in-Read.is c.requires.step in step.1

pub write-requires-clause-name : goal.write-requires-clause-name
write-requires-clause-name g c = let step = subst (λ (s : Step). IsStep s) c.in-Write.is c.requires.step in step.0

pub write-requires-clause-value : goal.write-requires-clause-value
write-requires-clause-value g c = let step = subst (λ (s : Step). IsStep s) c.in-Write.is c.requires.step in step.1

pub returns-in-Next-clause-goes : goal.returns-in-Next-clause-goes
returns-in-Next-clause-goes g c p old rest at = at_step c.args.self.now p old c.args.walk.now.line c.args.walk.now.vars c.args.walk.now.mode rest c.args.step steps.Next (g.L.Link.state c.args.link.now) c.in-Next.is at

pub returns-in-Read-clause-goes : goal.returns-in-Read-clause-goes
returns-in-Read-clause-goes g c p old rest at = let due = at_step c.args.self.now p old c.args.walk.now.line c.args.walk.now.vars c.args.walk.now.mode rest c.args.step (steps.Read c.in-Read.var c.in-Read.name c.in-Read.rec) (g.L.Link.state c.args.link.now) c.in-Read.is at in c.read.ensures.goes p old rest due

pub returns-in-Write-clause-goes : goal.returns-in-Write-clause-goes
returns-in-Write-clause-goes g c p old rest at =
    let w = c.args.walk.now in
    let due = at_step c.args.self.now p old c.args.walk.now.line c.args.walk.now.vars c.args.walk.now.mode rest c.args.step (steps.Write c.in-Write.name c.in-Write.rec c.in-Write.value) (g.L.Link.state c.args.link.now) c.in-Write.is at in
    c.write.ensures.goes p old (script_from (w.line + 1) rest w.vars w.mode) due

pub returns-in_err-commit-in-Give-clause-goes : goal.returns-in_err-commit-in-Give-clause-goes
returns-in_err-commit-in-Give-clause-goes g c p old rest at =
    let is = err_from_is_err_and c.from_residual.result c.from_residual.ensures.1 in
    let due = at_step c.args.self.now p old c.args.walk.now.line c.args.walk.now.vars c.args.walk.now.mode rest c.args.step (steps.Give c.in-Give.number) (g.L.Link.state c.args.link.now) c.in-Give.is at in
    rw (is.1, is.2) (c.in_err-commit-in-Give.ensures.finishes p old due)

pub returns-in_ok-commit-in-Give-clause-goes : goal.returns-in_ok-commit-in-Give-clause-goes
returns-in_ok-commit-in-Give-clause-goes g c p old rest at = let due = at_step c.args.self.now p old c.args.walk.now.line c.args.walk.now.vars c.args.walk.now.mode rest c.args.step (steps.Give c.in-Give.number) (g.L.Link.state c.args.link.now) c.in-Give.is at in c.in_ok-commit-in-Give.ensures.finishes p old due

pub returns-in_err-stop-in-Stop-clause-goes : goal.returns-in_err-stop-in-Stop-clause-goes
returns-in_err-stop-in-Stop-clause-goes g c p old rest at =
    let is = err_from_is_err_and c.from_residual-in_err-stop-in-Stop.result c.from_residual-in_err-stop-in-Stop.ensures.1 in
    let failure = subst (λ (s : Step). IsStep s) c.in-Stop.is c.requires.step in
    let left = at_step c.args.self.now p old c.args.walk.now.line c.args.walk.now.vars c.args.walk.now.mode rest c.args.step (steps.Stop c.in-Stop.end) (g.L.Link.state c.args.link.now) c.in-Stop.is at in
    rw (is.1, is.2) (c.in_err-stop-in-Stop.ensures.finishes p old (stop_due c.args.self.now p old c.in-Stop.end (g.L.Link.state c.args.link.now) failure left))

pub returns-in_ok-stop-in-Stop-clause-goes : goal.returns-in_ok-stop-in-Stop-clause-goes
returns-in_ok-stop-in-Stop-clause-goes g c p old rest at =
    let failure = subst (λ (s : Step). IsStep s) c.in-Stop.is c.requires.step in
    let left = at_step c.args.self.now p old c.args.walk.now.line c.args.walk.now.vars c.args.walk.now.mode rest c.args.step (steps.Stop c.in-Stop.end) (g.L.Link.state c.args.link.now) c.in-Stop.is at in
    c.in_ok-stop-in-Stop.ensures.finishes p old (stop_due c.args.self.now p old c.in-Stop.end (g.L.Link.state c.args.link.now) failure left)
