use Rattle.std.proofs.Common.{◌≡◌, ◌∙◌, ◌+◌, ◌<◌, List, length, drop, get_or, ap, subst, sym, arith}
use Rattle.std.proofs.lemmas.Result.{err_from_is_err_and}
use Rattle.std.specs.Prelude.{Option, Ok, Err}
use Rattle.vp_model.specs.Types.{TxnId}
use Rattle.vp_base.specs.Identifiers.{IsTxn}
use Rattle.vp_procedure.specs.declared.procedure.Statement.{Statement}
use Rattle.vp_proc.specs.declared.ended.End.{End}
use Rattle.vp_proc.specs.declared.session.Session.{Session}
use Rattle.vp_proc.specs.declared.walk.Walk.{Walk}
use Rattle.vp_proc.specs.Scripts.{script_from}
use Rattle.vp_proc.specs.Stepping.{GoesOn}
use Rattle.vp_proc.proofs.Playing.{Goes, begins, first_small, goes_on, past, some_statement, still_same, stops, taken}
use Rattle.vp_proc.proofs.Sessions.{ran_out}
use Rattle.vp_proc.proofs.session.Session.play.Goals as goal

pub loop-statement-init : goal.loop-statement-init
loop-statement-init g c =
    begins c.args.self.now c.args.procedure.now (g.L.Link.state c.args.link.now) c.new-walk.result (ap length c.requires.fresh) c.new-walk.ensures.line c.new-walk.ensures.vars c.new-walk.ensures.mode

pub step-requires-clause-statement : goal.step-requires-clause-statement
step-requires-clause-statement g c =
    let same = c.as_slice-statement-items.ensures in
    let i = c.loop-statement.statement-index in
    let below = subst (λ (ss : List Statement). i < length ss) same c.loop-statement-test.true in
    some_statement c.args.procedure.now i c.statement-item.result c.requires.procedure below (subst (λ (ss : List Statement). c.statement-item.result ≡ get_or ss i c.statement-item.result) same c.statement-item.is)

pub step-requires-clause-shallow : goal.step-requires-clause-shallow
step-requires-clause-shallow g c =
    let same = c.as_slice-statement-items.ensures in
    let below = subst (λ (ss : List Statement). c.loop-statement.statement-index < length ss) same c.loop-statement-test.true in
    let few = c.requires.procedure.1.few in
    let depth = c.loop-statement.invariant.depth in
    omega (arith, below, few, depth)

pub returns-in_err-step-clause-finishes : goal.returns-in_err-step-clause-finishes
returns-in_err-step-clause-finishes g c old at =
    let is = err_from_is_err_and c.from_residual.result c.from_residual.ensures.1 in
    let w = c.loop-statement.walk in
    rw (is.1, is.2) (ran_out c.loop-statement.self c.args.procedure.now old (script_from w.line (drop c.loop-statement.statement-index c.args.procedure.now.statements) w.vars w.mode) (g.L.Link.state c.loop-statement.link) (c.loop-statement.invariant.at old at))

pub take-requires-clause-bound : goal.take-requires-clause-bound
take-requires-clause-bound g c = c.loop-statement.invariant.stays.same_bound ∙ c.requires.bound

pub take-requires-clause-txn : goal.take-requires-clause-txn
take-requires-clause-txn g c = subst (λ (t : TxnId). IsTxn t) (sym (ap (λ (s : Session). s.txn) c.loop-statement.invariant.same)) c.requires.txn

pub take-requires-clause-room : goal.take-requires-clause-room
take-requires-clause-room g c =
    let same = c.as_slice-statement-items.ensures in
    let below = subst (λ (ss : List Statement). c.loop-statement.statement-index < length ss) same c.loop-statement-test.true in
    let few = c.requires.procedure.1.few in
    let told = c.loop-statement.invariant.few in
    omega (arith, below, few, told)

pub take-requires-clause-step : goal.take-requires-clause-step
take-requires-clause-step g c = c.in_ok-step.ensures.step_is

pub take-requires-clause-vars : goal.take-requires-clause-vars
take-requires-clause-vars g c = c.in_ok-step.ensures.vars

pub returns-in_err-end-clause-finishes : goal.returns-in_err-end-clause-finishes
returns-in_err-end-clause-finishes g c old at =
    let is = err_from_is_err_and c.from_residual-in_err-end.result c.from_residual-in_err-end.ensures.1 in
    let i = c.loop-statement.statement-index in
    let next = past c.args.procedure.now c.as_slice-statement-items.result.now i c.statement-item.result c.as_slice-statement-items.ensures c.loop-statement-test.true c.statement-item.is in
    rw (is.1, is.2) (
    taken c.args.self.now c.args.procedure.now (g.L.Link.state c.args.link.now) c.loop-statement.self c.take.new.self c.loop-statement.walk c.step.new.self c.take.new.walk (g.L.Link.state c.loop-statement.link) (g.L.Link.state c.take.new.link) i
    c.statement-item.result c.in_ok-step.step (Err c.in_err-end.field-0.0) c.loop-statement.invariant next c.in_ok-step.ensures c.in_err-end.ensures.goes old at)

pub returns-in-Some-clause-finishes : goal.returns-in-Some-clause-finishes
returns-in-Some-clause-finishes g c old at =
    let p = c.args.procedure.now in
    let i = c.loop-statement.statement-index in
    let last = c.take.new.walk in
    let next = past p c.as_slice-statement-items.result.now i c.statement-item.result c.as_slice-statement-items.ensures c.loop-statement-test.true c.statement-item.is in
    subst (λ (o : Option End). GoesOn c.take.new.self p old (script_from (c.step.new.self.line + 1) (drop (i + 1) p.statements) last.vars last.mode) (g.L.Link.state c.take.new.link) (Ok o)) c.in-Some.is (
    taken c.args.self.now p (g.L.Link.state c.args.link.now) c.loop-statement.self c.take.new.self c.loop-statement.walk c.step.new.self last (g.L.Link.state c.loop-statement.link) (g.L.Link.state c.take.new.link) i
    c.statement-item.result c.in_ok-step.step (Ok c.in_ok-end.field-0) c.loop-statement.invariant next c.in_ok-step.ensures c.in_ok-end.ensures.goes old at)

pub overflow_add-walk : goal.overflow_add-walk
overflow_add-walk g c =
    let same = c.as_slice-statement-items.ensures in
    let below = subst (λ (ss : List Statement). c.loop-statement.statement-index < length ss) same c.loop-statement-test.true in
    let few = c.requires.procedure.1.few in
    let small = first_small c.args.procedure.now c.requires.procedure in
    let line = c.loop-statement.invariant.line in
    let step = c.in_ok-step.ensures.line in
    let take = ap (λ (w : Walk). w.line) c.in_ok-end.ensures.walk.0 in
    omega (arith, below, few, small, line, step, take)

pub loop-statement-preserved : goal.loop-statement-preserved
loop-statement-preserved g c =
    let p = c.args.procedure.now in
    let i = c.loop-statement.statement-index in
    let next = past p c.as_slice-statement-items.result.now i c.statement-item.result c.as_slice-statement-items.ensures c.loop-statement-test.true c.statement-item.is in
    goes_on c.args.self.now p (g.L.Link.state c.args.link.now) c.loop-statement.self c.take.new.self c.loop-statement.walk c.step.new.self c.take.new.walk (g.L.Link.state c.loop-statement.link) (g.L.Link.state c.take.new.link) i c.statement-item.result
    c.in_ok-step.step c.loop-statement.invariant next c.in_ok-step.ensures
    (subst (λ (o : Option End). Goes c.loop-statement.self c.step.new.self c.in_ok-step.step (g.L.Link.state c.loop-statement.link) c.take.new.self c.take.new.walk (g.L.Link.state c.take.new.link) (Ok o)) c.in_default.is c.in_ok-end.ensures.goes)
    c.in_ok-end.ensures.walk c.in_ok-end.ensures.grows c.in_ok-end.ensures.stays

pub stop-requires-clause-bound : goal.stop-requires-clause-bound
stop-requires-clause-bound g c = c.loop-statement.invariant.stays.same_bound ∙ c.requires.bound

pub stop-requires-clause-txn : goal.stop-requires-clause-txn
stop-requires-clause-txn g c = subst (λ (t : TxnId). IsTxn t) (sym (ap (λ (s : Session). s.txn) c.loop-statement.invariant.same)) c.requires.txn

pub stop-requires-clause-room : goal.stop-requires-clause-room
stop-requires-clause-room g c =
    let same = c.as_slice-statement-items.ensures in
    let within = c.loop-statement.auto.statement-index-end in
    let few = c.requires.procedure.1.few in
    let told = c.loop-statement.invariant.few in
    omega (arith, within, ap length same, few, told)

pub returns-clause-finishes : goal.returns-clause-finishes
returns-clause-finishes g c old at =
    c.stop.ensures.finishes c.args.procedure.now old
    (stops c.args.self.now c.args.procedure.now (g.L.Link.state c.args.link.now) c.loop-statement.self c.loop-statement.walk (g.L.Link.state c.loop-statement.link) c.loop-statement.statement-index c.as_slice-statement-items.result.now
    c.as_slice-statement-items.ensures c.loop-statement-test.false c.loop-statement.invariant old at)

pub returns-in_err-step-clause-same : goal.returns-in_err-step-clause-same
returns-in_err-step-clause-same g c = c.loop-statement.invariant.same

pub returns-in_err-end-clause-same : goal.returns-in_err-end-clause-same
returns-in_err-end-clause-same g c = still_same c.args.self.now c.loop-statement.self c.take.new.self c.loop-statement.invariant.same c.in_err-end.ensures.grows

pub returns-in-Some-clause-same : goal.returns-in-Some-clause-same
returns-in-Some-clause-same g c = still_same c.args.self.now c.loop-statement.self c.take.new.self c.loop-statement.invariant.same c.in_ok-end.ensures.grows

pub returns-clause-same : goal.returns-clause-same
returns-clause-same g c = c.loop-statement.invariant.same
