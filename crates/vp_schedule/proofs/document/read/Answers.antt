use Rattle.std.proofs.Common.{Ok, Err, sym, ◌∙◌}
use Rattle.std.proofs.lemmas.Result.{err_from_is_err_and}
use Rattle.vp_schedule.specs.Document.{Answered}
use Rattle.vp_schedule.proofs.Steps.{stands_few, stands_room, stands_allowed, stands_shorter}
use Rattle.vp_schedule.proofs.Answering.{answered_next, answered_add, answered_end, stands_more}
use Rattle.vp_schedule.proofs.Only.{only, taken}
use Rattle.vp_schedule.proofs.document.read.Goals as goal
use Rattle.vp_schedule.proofs.document.read.Goals.{After-drop-draft, After-drop-draft-in_err-add}

pub next_line-requires-clause-few : goal.next_line-requires-clause-few
next_line-requires-clause-few c = stands_few c.args.text.now c.loop-cursor.cursor c.loop-cursor.draft c.loop-cursor.line c.loop-cursor.invariant

pub next_line-requires-clause-room : goal.next_line-requires-clause-room
next_line-requires-clause-room c = stands_room c.args.text.now c.loop-cursor.cursor c.loop-cursor.draft c.loop-cursor.line c.loop-cursor.invariant

pub add-requires : goal.add-requires
add-requires c = stands_allowed c.args.text.now c.loop-cursor.cursor c.next_line.new.cursor c.loop-cursor.draft c.loop-cursor.line c.in_ok-next.next c.loop-cursor.invariant c.in_ok-next.ensures

answer_next : (c : After-drop-draft) → Answered c.args.text.now (Err c.in_err-next.field-0.0)
answer_next c = answered_next c.args.text.now c.loop-cursor.cursor c.next_line.new.cursor c.loop-cursor.draft c.loop-cursor.line c.in_err-next.field-0.0 c.loop-cursor.invariant (sym c.owes_line.ensures ∙ c.loop-cursor-test.true) c.in_err-next.ensures

answer_add : (c : After-drop-draft-in_err-add) → Answered c.args.text.now (Err c.in_err-add.field-0.0)
answer_add c = answered_add c.args.text.now c.loop-cursor.cursor c.next_line.new.cursor c.loop-cursor.draft c.add.new.self c.in_ok-next.next c.loop-cursor.line c.in_err-add.field-0.0 c.loop-cursor.invariant c.in_ok-next.ensures c.in_err-add.ensures

pub returns-in_err-next-clause-answer : goal.returns-in_err-next-clause-answer
returns-in_err-next-clause-answer c =
    let p = err_from_is_err_and c.from_residual.result c.from_residual.ensures.1 in
    rw (p.1, p.2) (answer_next c)

pub returns-in_err-next-clause-only : goal.returns-in_err-next-clause-only
returns-in_err-next-clause-only c =
    let p = err_from_is_err_and c.from_residual.result c.from_residual.ensures.1 in
    rw (p.1, p.2) (only c.args.text.now (Err c.in_err-next.field-0.0) (answer_next c))

pub returns-in_err-next-clause-taken : goal.returns-in_err-next-clause-taken
returns-in_err-next-clause-taken c =
    let p = err_from_is_err_and c.from_residual.result c.from_residual.ensures.1 in
    rw (p.1, p.2) (taken c.args.text.now (Err c.in_err-next.field-0.0) (answer_next c))

pub returns-in_err-add-clause-answer : goal.returns-in_err-add-clause-answer
returns-in_err-add-clause-answer c =
    let p = err_from_is_err_and c.from_residual-in_err-add.result c.from_residual-in_err-add.ensures.1 in
    rw (p.1, p.2) (answer_add c)

pub returns-in_err-add-clause-only : goal.returns-in_err-add-clause-only
returns-in_err-add-clause-only c =
    let p = err_from_is_err_and c.from_residual-in_err-add.result c.from_residual-in_err-add.ensures.1 in
    rw (p.1, p.2) (only c.args.text.now (Err c.in_err-add.field-0.0) (answer_add c))

pub returns-in_err-add-clause-taken : goal.returns-in_err-add-clause-taken
returns-in_err-add-clause-taken c =
    let p = err_from_is_err_and c.from_residual-in_err-add.result c.from_residual-in_err-add.ensures.1 in
    rw (p.1, p.2) (taken c.args.text.now (Err c.in_err-add.field-0.0) (answer_add c))

pub loop-cursor-smaller : goal.loop-cursor-smaller
loop-cursor-smaller c = stands_shorter c.args.text.now c.loop-cursor.cursor c.next_line.new.cursor c.loop-cursor.draft c.loop-cursor.line c.in_ok-next.next c.loop-cursor.invariant c.in_ok-next.ensures

pub loop-cursor-preserved : goal.loop-cursor-preserved
loop-cursor-preserved c = stands_more c.args.text.now c.loop-cursor.cursor c.next_line.new.cursor c.loop-cursor.draft c.add.new.self c.in_ok-next.next c.loop-cursor.line c.in_ok-add.field-0 c.loop-cursor.invariant c.in_ok-next.ensures c.in_ok-add.ensures

pub returns-clause-answer : goal.returns-clause-answer
returns-clause-answer c = answered_end c.args.text.now c.loop-cursor.cursor c.loop-cursor.draft c.loop-cursor.line c.loop-cursor.invariant (sym c.owes_line.ensures ∙ c.loop-cursor-test.false)

pub returns-clause-only : goal.returns-clause-only
returns-clause-only c = only c.args.text.now (Ok c.loop-cursor.draft.schedule) (answered_end c.args.text.now c.loop-cursor.cursor c.loop-cursor.draft c.loop-cursor.line c.loop-cursor.invariant (sym c.owes_line.ensures ∙ c.loop-cursor-test.false))

pub returns-clause-taken : goal.returns-clause-taken
returns-clause-taken c = taken c.args.text.now (Ok c.loop-cursor.draft.schedule) (answered_end c.args.text.now c.loop-cursor.cursor c.loop-cursor.draft c.loop-cursor.line c.loop-cursor.invariant (sym c.owes_line.ensures ∙ c.loop-cursor-test.false))
