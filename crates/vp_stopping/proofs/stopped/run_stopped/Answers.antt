use Rattle.std.proofs.Common.{◌≡◌, ℕ, Option, Some, None, Ok, sym, subst}
use Rattle.std.specs.Prelude.{IfSome}
use Rattle.vp_model.specs.Types.{Event}
use Rattle.vp_node.proofs.Faults.{gave_err}
use Rattle.vp_stopping.specs.declared.stopped.Front.{Front}
use Rattle.vp_stopping.specs.declared.stopped.StoppedSite.{StoppedSite}
use Rattle.vp_cluster.specs.Stops.{is_kept}
use Rattle.vp_stopping.specs.Singles.{ComesTo, IsBefore, StopsIn}
use Rattle.vp_stopping.specs.RanStopped.{RunsStopped}
use Rattle.vp_stopping.proofs.Ending.{no_step, nothing_there, came_ends, nobody, somebody, same_appender, leaves_log, taker_again, nothing_done, nothing_ends, rest_ends, all_done, all_rise, waits_again}
use Rattle.vp_stopping.proofs.stopped.run_stopped.Goals as goal

pub returns-then-stop-eq0 : goal.returns-then-stop-eq0
returns-then-stop-eq0 c = subst (λ (step : ℕ). RunsStopped c.args.schedule.now step (is_kept c.args.stop.now) (Ok None)) (sym c.if-stop-eq0.true) (no_step c.args.schedule.now (is_kept c.args.stop.now))

pub returns-in_err-front : goal.returns-in_err-front
returns-in_err-front c =
    came_ends c.args.schedule.now c.args.stop.now.step (is_kept c.args.stop.now) c.in_err-front.field-0.0 c.from_residual.result c.in_err-front.ensures
    (gave_err c.from_residual.result c.in_err-front.field-0.0 c.from_residual.ensures.1)

pub returns-in_default : goal.returns-in_default
returns-in_default c =
    nothing_there c.args.schedule.now c.args.stop.now.step (is_kept c.args.stop.now)
    (subst (λ (o : Option (Front × Event)). ComesTo c.args.schedule.now c.args.stop.now.step (Ok o)) c.in_default.is c.in_ok-front.ensures)

pub stop-requires-clause-event : goal.stop-requires-clause-event
stop-requires-clause-event c =
    let came : c.in_ok-front.field-0 ≡ Some (c.in-Some.front, c.in-Some.event) = cc in
    let h : IsBefore c.args.schedule.now c.args.stop.now.step c.in-Some.front c.in-Some.event = subst (λ (o : Option (Front × Event)). ComesTo c.args.schedule.now c.args.stop.now.step (Ok o)) came c.in_ok-front.ensures in
    h.formed

pub stop-requires-clause-lent : goal.stop-requires-clause-lent
stop-requires-clause-lent c =
    let came : c.in_ok-front.field-0 ≡ Some (c.in-Some.front, c.in-Some.event) = cc in
    let h : IsBefore c.args.schedule.now c.args.stop.now.step c.in-Some.front c.in-Some.event = subst (λ (o : Option (Front × Event)). ComesTo c.args.schedule.now c.args.stop.now.step (Ok o)) came c.in_ok-front.ensures in
    h.may_stop

pub returns-in_err-front-2 : goal.returns-in_err-front-2
returns-in_err-front-2 c =
    came_ends c.args.schedule.now c.args.stop.now.step (is_kept c.args.stop.now) c.in_err-front-2.field-0.0 c.from_residual-in_err-front-2.result c.in_err-front-2.ensures
    (gave_err c.from_residual-in_err-front-2.result c.in_err-front-2.field-0.0 c.from_residual-in_err-front-2.ensures.1)

pub returns-in_default-2 : goal.returns-in_default-2
returns-in_default-2 c =
    nothing_there c.args.schedule.now c.args.stop.now.step (is_kept c.args.stop.now)
    (subst (λ (o : Option (Front × Event)). ComesTo c.args.schedule.now c.args.stop.now.step (Ok o)) c.in_default-2.is c.in_ok-front-2.ensures)

pub returns-in_err-step-in-None : goal.returns-in_err-step-in-None
returns-in_err-step-in-None c =
    let s = c.args.schedule.now in
    let step = c.args.stop.now.step in
    let front = c.in-Some.front in
    let e = c.in-Some.event in
    let again = c.in-Some-2.front in
    let f = c.in-Some-2.event in
    let came : c.in_ok-front.field-0 ≡ Some (front, e) = cc in
    let came_again : c.in_ok-front-2.field-0 ≡ Some (again, f) = cc in
    let h : IsBefore s step front e = subst (λ (o : Option (Front × Event)). ComesTo s step (Ok o)) came c.in_ok-front.ensures in
    let g : IsBefore s step again f = subst (λ (o : Option (Front × Event)). ComesTo s step (Ok o)) came_again c.in_ok-front-2.ensures in
    let stops = subst (λ (o : Option StoppedSite). StopsIn e front o) c.in-None.is c.in_ok-stopped.ensures.stops in
    nothing_ends s c.requires.schedule step again f g (same_appender s c.requires.schedule step front e h again f g None (nobody s c.requires.schedule step front e h stops)) (is_kept c.args.stop.now)
    c.in_err-step-in-None.field-0.0 c.from_residual-in_err-step-in-None.result c.in_err-step-in-None.ensures.end
    (gave_err c.from_residual-in_err-step-in-None.result c.in_err-step-in-None.field-0.0 c.from_residual-in_err-step-in-None.ensures.1)

pub returns-in-None : goal.returns-in-None
returns-in-None c =
    let s = c.args.schedule.now in
    let step = c.args.stop.now.step in
    let front = c.in-Some.front in
    let e = c.in-Some.event in
    let again = c.in-Some-2.front in
    let f = c.in-Some-2.event in
    let came : c.in_ok-front.field-0 ≡ Some (front, e) = cc in
    let came_again : c.in_ok-front-2.field-0 ≡ Some (again, f) = cc in
    let h : IsBefore s step front e = subst (λ (o : Option (Front × Event)). ComesTo s step (Ok o)) came c.in_ok-front.ensures in
    let g : IsBefore s step again f = subst (λ (o : Option (Front × Event)). ComesTo s step (Ok o)) came_again c.in_ok-front-2.ensures in
    let stops = subst (λ (o : Option StoppedSite). StopsIn e front o) c.in-None.is c.in_ok-stopped.ensures.stops in
    nothing_done s c.requires.schedule step again f g (same_appender s c.requires.schedule step front e h again f g None (nobody s c.requires.schedule step front e h stops)) c.in_ok-step-in-None.ensures.end (is_kept c.args.stop.now)

pub go_on-requires-clause-taken : goal.go_on-requires-clause-taken
go_on-requires-clause-taken c =
    let s = c.args.schedule.now in
    let step = c.args.stop.now.step in
    let front = c.in-Some.front in
    let e = c.in-Some.event in
    let again = c.in-Some-2.front in
    let f = c.in-Some-2.event in
    let at = c.in-Some-stopped.at in
    let came : c.in_ok-front.field-0 ≡ Some (front, e) = cc in
    let came_again : c.in_ok-front-2.field-0 ≡ Some (again, f) = cc in
    let h : IsBefore s step front e = subst (λ (o : Option (Front × Event)). ComesTo s step (Ok o)) came c.in_ok-front.ensures in
    let g : IsBefore s step again f = subst (λ (o : Option (Front × Event)). ComesTo s step (Ok o)) came_again c.in_ok-front-2.ensures in
    let stopped : c.in_ok-stopped.stopped ≡ Some at = cc in
    let stops = subst (λ (o : Option StoppedSite). StopsIn e front o) stopped c.in_ok-stopped.ensures.stops in
    taker_again s c.requires.schedule step front e h again f g at.site stops.0

pub go_on-requires-clause-rise : goal.go_on-requires-clause-rise
go_on-requires-clause-rise c =
    let came : c.in_ok-front-2.field-0 ≡ Some (c.in-Some-2.front, c.in-Some-2.event) = cc in
    let g : IsBefore c.args.schedule.now c.args.stop.now.step c.in-Some-2.front c.in-Some-2.event = subst (λ (o : Option (Front × Event)). ComesTo c.args.schedule.now c.args.stop.now.step (Ok o)) came c.in_ok-front-2.ensures in
    all_rise c.args.schedule.now c.requires.schedule c.args.stop.now.step c.in-Some-2.front c.in-Some-2.event g

pub go_on-requires-clause-waits : goal.go_on-requires-clause-waits
go_on-requires-clause-waits c =
    let s = c.args.schedule.now in
    let step = c.args.stop.now.step in
    let came : c.in_ok-front.field-0 ≡ Some (c.in-Some.front, c.in-Some.event) = cc in
    let came_again : c.in_ok-front-2.field-0 ≡ Some (c.in-Some-2.front, c.in-Some-2.event) = cc in
    let h : IsBefore s step c.in-Some.front c.in-Some.event = subst (λ (o : Option (Front × Event)). ComesTo s step (Ok o)) came c.in_ok-front.ensures in
    let g : IsBefore s step c.in-Some-2.front c.in-Some-2.event = subst (λ (o : Option (Front × Event)). ComesTo s step (Ok o)) came_again c.in_ok-front-2.ensures in
    let stopped : c.in_ok-stopped.stopped ≡ Some c.in-Some-stopped.at = cc in
    let stops = subst (λ (o : Option StoppedSite). StopsIn c.in-Some.event c.in-Some.front o) stopped c.in_ok-stopped.ensures.stops in
    waits_again s c.requires.schedule step c.in-Some.front c.in-Some.event h c.in-Some-stopped.at stops c.in-Some-2.front c.in-Some-2.event g

pub returns-in_err-go_on-in-Some-stopped : goal.returns-in_err-go_on-in-Some-stopped
returns-in_err-go_on-in-Some-stopped c =
    let s = c.args.schedule.now in
    let step = c.args.stop.now.step in
    let front = c.in-Some.front in
    let e = c.in-Some.event in
    let again = c.in-Some-2.front in
    let f = c.in-Some-2.event in
    let at = c.in-Some-stopped.at in
    let came : c.in_ok-front.field-0 ≡ Some (front, e) = cc in
    let came_again : c.in_ok-front-2.field-0 ≡ Some (again, f) = cc in
    let h : IsBefore s step front e = subst (λ (o : Option (Front × Event)). ComesTo s step (Ok o)) came c.in_ok-front.ensures in
    let g : IsBefore s step again f = subst (λ (o : Option (Front × Event)). ComesTo s step (Ok o)) came_again c.in_ok-front-2.ensures in
    let stopped : c.in_ok-stopped.stopped ≡ Some at = cc in
    let stops = subst (λ (o : Option StoppedSite). StopsIn e front o) stopped c.in_ok-stopped.ensures.stops in
    let kept : at.left.kept ≡ is_kept c.args.stop.now = subst (λ (o : Option StoppedSite). IfSome o (λ it. it.left.kept ≡ is_kept c.args.stop.now)) stopped c.in_ok-stopped.ensures.kept in
    let goes = c.in_err-go_on-in-Some-stopped.ensures step g.before (same_appender s c.requires.schedule step front e h again f g (Some at.site) (somebody s c.requires.schedule step front e h at stops)) in
    subst (λ kept. RunsStopped s step kept c.from_residual-in_err-go_on-in-Some-stopped.result) kept
    (rest_ends s step at.left c.in_err-go_on-in-Some-stopped.field-0.0 c.from_residual-in_err-go_on-in-Some-stopped.result goes
    (gave_err c.from_residual-in_err-go_on-in-Some-stopped.result c.in_err-go_on-in-Some-stopped.field-0.0 c.from_residual-in_err-go_on-in-Some-stopped.ensures.1))

pub returns : goal.returns
returns c =
    let s = c.args.schedule.now in
    let step = c.args.stop.now.step in
    let front = c.in-Some.front in
    let e = c.in-Some.event in
    let again = c.in-Some-2.front in
    let f = c.in-Some-2.event in
    let at = c.in-Some-stopped.at in
    let came : c.in_ok-front.field-0 ≡ Some (front, e) = cc in
    let came_again : c.in_ok-front-2.field-0 ≡ Some (again, f) = cc in
    let h : IsBefore s step front e = subst (λ (o : Option (Front × Event)). ComesTo s step (Ok o)) came c.in_ok-front.ensures in
    let g : IsBefore s step again f = subst (λ (o : Option (Front × Event)). ComesTo s step (Ok o)) came_again c.in_ok-front-2.ensures in
    let stopped : c.in_ok-stopped.stopped ≡ Some at = cc in
    let stops = subst (λ (o : Option StoppedSite). StopsIn e front o) stopped c.in_ok-stopped.ensures.stops in
    let kept : at.left.kept ≡ is_kept c.args.stop.now = subst (λ (o : Option StoppedSite). IfSome o (λ it. it.left.kept ≡ is_kept c.args.stop.now)) stopped c.in_ok-stopped.ensures.kept in
    let goes = c.in_ok-go_on-in-Some-stopped.ensures step g.before (same_appender s c.requires.schedule step front e h again f g (Some at.site) (somebody s c.requires.schedule step front e h at stops)) in
    subst (λ kept. RunsStopped s step kept (Ok (Some c.in_ok-go_on-in-Some-stopped.field-0))) kept (all_done s step at.left c.in_ok-go_on-in-Some-stopped.field-0 goes (leaves_log s c.requires.schedule step front e h at stops))
