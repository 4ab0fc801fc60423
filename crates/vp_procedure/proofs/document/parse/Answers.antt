use Rattle.std.proofs.Common.{Ok, Err, subst, true, false, Bool}
use Rattle.std.proofs.lemmas.Result.{err_from_is_err_and}
use Rattle.vp_procedure.specs.Drafts.{Adds}
use Rattle.vp_procedure.proofs.Steps.{stands_room, stands_allowed, stands_shorter}
use Rattle.vp_procedure.proofs.Answering.{stands_more}
use Rattle.vp_procedure.proofs.Only.{only, taken, answered_next, answered_add, answered_finish, closed_few}
use Rattle.vp_procedure.proofs.document.parse.Goals as goal

pub next_line-requires-clause-room : goal.next_line-requires-clause-room
next_line-requires-clause-room c = stands_room c.args.text.now c.loop-draft.cursor c.loop-draft.draft c.loop-draft.line c.loop-draft.invariant

pub add-requires-clause-allowed : goal.add-requires-clause-allowed
add-requires-clause-allowed c = stands_allowed c.args.text.now c.loop-draft.cursor c.next_line.new.cursor c.loop-draft.draft c.loop-draft.line c.in_ok-next.next c.loop-draft.invariant c.in_ok-next.ensures

pub loop-draft-smaller : goal.loop-draft-smaller
loop-draft-smaller c = stands_shorter c.args.text.now c.loop-draft.cursor c.next_line.new.cursor c.loop-draft.draft c.loop-draft.line c.in_ok-next.next c.loop-draft.invariant c.in_ok-next.ensures

pub loop-draft-preserved : goal.loop-draft-preserved
loop-draft-preserved c =
    let adds = subst (λ (b : Bool). Adds c.loop-draft.draft c.in_ok-next.next c.loop-draft.line c.add.new.self (Ok b)) c.if-not-branch.false c.in_ok-add.ensures in
    stands_more c.args.text.now c.loop-draft.cursor c.next_line.new.cursor c.loop-draft.draft c.add.new.self c.in_ok-next.next c.loop-draft.line c.loop-draft.invariant c.in_ok-next.ensures adds

pub returns-in_err-next-clause-answer : goal.returns-in_err-next-clause-answer
returns-in_err-next-clause-answer c =
    let p = err_from_is_err_and c.from_residual.result c.from_residual.ensures.1 in
    rw (p.1, p.2) (answered_next c.args.text.now c.loop-draft.cursor c.next_line.new.cursor c.loop-draft.draft c.loop-draft.line c.in_err-next.field-0.0 c.loop-draft.invariant c.in_err-next.ensures)

pub returns-in_err-next-clause-only : goal.returns-in_err-next-clause-only
returns-in_err-next-clause-only c =
    let p = err_from_is_err_and c.from_residual.result c.from_residual.ensures.1 in
    rw (p.1, p.2) (only c.args.text.now (Err c.in_err-next.field-0.0)
    (answered_next c.args.text.now c.loop-draft.cursor c.next_line.new.cursor c.loop-draft.draft c.loop-draft.line c.in_err-next.field-0.0 c.loop-draft.invariant c.in_err-next.ensures))

pub returns-in_err-next-clause-taken : goal.returns-in_err-next-clause-taken
returns-in_err-next-clause-taken c =
    let p = err_from_is_err_and c.from_residual.result c.from_residual.ensures.1 in
    rw (p.1, p.2) (taken c.args.text.now (Err c.in_err-next.field-0.0)
    (answered_next c.args.text.now c.loop-draft.cursor c.next_line.new.cursor c.loop-draft.draft c.loop-draft.line c.in_err-next.field-0.0 c.loop-draft.invariant c.in_err-next.ensures))

pub returns-in_err-add-clause-answer : goal.returns-in_err-add-clause-answer
returns-in_err-add-clause-answer c =
    let p = err_from_is_err_and c.from_residual-in_err-add.result c.from_residual-in_err-add.ensures.1 in
    rw (p.1, p.2) (answered_add c.args.text.now c.loop-draft.cursor c.next_line.new.cursor c.loop-draft.draft c.add.new.self c.in_ok-next.next c.loop-draft.line c.in_err-add.field-0.0 c.loop-draft.invariant c.in_ok-next.ensures c.in_err-add.ensures)

pub returns-in_err-add-clause-only : goal.returns-in_err-add-clause-only
returns-in_err-add-clause-only c =
    let p = err_from_is_err_and c.from_residual-in_err-add.result c.from_residual-in_err-add.ensures.1 in
    rw (p.1, p.2) (only c.args.text.now (Err c.in_err-add.field-0.0)
    (answered_add c.args.text.now c.loop-draft.cursor c.next_line.new.cursor c.loop-draft.draft c.add.new.self c.in_ok-next.next c.loop-draft.line c.in_err-add.field-0.0 c.loop-draft.invariant c.in_ok-next.ensures c.in_err-add.ensures))

pub returns-in_err-add-clause-taken : goal.returns-in_err-add-clause-taken
returns-in_err-add-clause-taken c =
    let p = err_from_is_err_and c.from_residual-in_err-add.result c.from_residual-in_err-add.ensures.1 in
    rw (p.1, p.2) (taken c.args.text.now (Err c.in_err-add.field-0.0)
    (answered_add c.args.text.now c.loop-draft.cursor c.next_line.new.cursor c.loop-draft.draft c.add.new.self c.in_ok-next.next c.loop-draft.line c.in_err-add.field-0.0 c.loop-draft.invariant c.in_ok-next.ensures c.in_err-add.ensures))

pub returns-then-not-branch-clause-answer : goal.returns-then-not-branch-clause-answer
returns-then-not-branch-clause-answer c =
    let adds = subst (λ (b : Bool). Adds c.loop-draft.draft c.in_ok-next.next c.loop-draft.line c.add.new.self (Ok b)) c.if-not-branch.true c.in_ok-add.ensures in
    answered_finish c.args.text.now c.loop-draft.cursor c.next_line.new.cursor c.loop-draft.draft c.add.new.self c.in_ok-next.next c.loop-draft.line c.finish.result c.loop-draft.invariant c.in_ok-next.ensures adds c.finish.ensures

pub returns-then-not-branch-clause-only : goal.returns-then-not-branch-clause-only
returns-then-not-branch-clause-only c =
    let adds = subst (λ (b : Bool). Adds c.loop-draft.draft c.in_ok-next.next c.loop-draft.line c.add.new.self (Ok b)) c.if-not-branch.true c.in_ok-add.ensures in
    only c.args.text.now c.finish.result
    (answered_finish c.args.text.now c.loop-draft.cursor c.next_line.new.cursor c.loop-draft.draft c.add.new.self c.in_ok-next.next c.loop-draft.line c.finish.result c.loop-draft.invariant c.in_ok-next.ensures adds c.finish.ensures)

pub returns-then-not-branch-clause-taken : goal.returns-then-not-branch-clause-taken
returns-then-not-branch-clause-taken c =
    let adds = subst (λ (b : Bool). Adds c.loop-draft.draft c.in_ok-next.next c.loop-draft.line c.add.new.self (Ok b)) c.if-not-branch.true c.in_ok-add.ensures in
    taken c.args.text.now c.finish.result
    (answered_finish c.args.text.now c.loop-draft.cursor c.next_line.new.cursor c.loop-draft.draft c.add.new.self c.in_ok-next.next c.loop-draft.line c.finish.result c.loop-draft.invariant c.in_ok-next.ensures adds c.finish.ensures)

pub finish-requires-clause-few : goal.finish-requires-clause-few
finish-requires-clause-few c =
    let adds = subst (λ (b : Bool). Adds c.loop-draft.draft c.in_ok-next.next c.loop-draft.line c.add.new.self (Ok b)) c.if-not-branch.true c.in_ok-add.ensures in
    closed_few c.args.text.now c.loop-draft.cursor c.next_line.new.cursor c.loop-draft.draft c.add.new.self c.in_ok-next.next c.loop-draft.line c.loop-draft.invariant c.in_ok-next.ensures adds
