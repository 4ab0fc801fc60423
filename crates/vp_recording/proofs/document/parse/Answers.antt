use Rattle.std.proofs.Common.{Ok, Err, sym, ◌∙◌}
use Rattle.std.proofs.lemmas.Result.{err_from_is_err_and}
use Rattle.vp_recording.proofs.Steps.{stands_left, stands_room, stands_allowed, stands_shorter}
use Rattle.vp_recording.proofs.Answering.{answered_next, answered_add, answered_end, stands_more}
use Rattle.vp_recording.proofs.Only.{only}
use Rattle.vp_recording.proofs.Nodes.{recorded_nodes}
use Rattle.vp_recording.proofs.document.parse.Goals as goal

pub next_line-requires-clause-left : goal.next_line-requires-clause-left
next_line-requires-clause-left c = stands_left c.args.text.now c.loop-cursor.cursor c.loop-cursor.draft c.loop-cursor.line c.loop-cursor.invariant

pub next_line-requires-clause-room : goal.next_line-requires-clause-room
next_line-requires-clause-room c = stands_room c.args.text.now c.loop-cursor.cursor c.loop-cursor.draft c.loop-cursor.line c.loop-cursor.invariant

pub add-requires-clause-allowed : goal.add-requires-clause-allowed
add-requires-clause-allowed c = stands_allowed c.args.text.now c.loop-cursor.cursor c.next_line.new.cursor c.loop-cursor.draft c.loop-cursor.line c.in_ok-next.next c.loop-cursor.invariant c.in_ok-next.ensures

pub returns-in_err-next-clause-answer : goal.returns-in_err-next-clause-answer
returns-in_err-next-clause-answer c =
    let p = err_from_is_err_and c.from_residual.result c.from_residual.ensures.1 in
    rw (p.1, p.2) (answered_next c.args.text.now c.loop-cursor.cursor c.next_line.new.cursor c.loop-cursor.draft c.loop-cursor.line c.in_err-next.field-0.0 c.loop-cursor.invariant (sym c.owes_line.ensures ∙ c.loop-cursor-test.true) c.in_err-next.ensures)

pub returns-in_err-next-clause-only : goal.returns-in_err-next-clause-only
returns-in_err-next-clause-only c =
    let p = err_from_is_err_and c.from_residual.result c.from_residual.ensures.1 in
    rw (p.1, p.2) (only c.args.text.now (Err c.in_err-next.field-0.0)
    (answered_next c.args.text.now c.loop-cursor.cursor c.next_line.new.cursor c.loop-cursor.draft c.loop-cursor.line c.in_err-next.field-0.0 c.loop-cursor.invariant (sym c.owes_line.ensures ∙ c.loop-cursor-test.true) c.in_err-next.ensures))

pub returns-in_err-add-clause-answer : goal.returns-in_err-add-clause-answer
returns-in_err-add-clause-answer c =
    let p = err_from_is_err_and c.from_residual-in_err-add.result c.from_residual-in_err-add.ensures.1 in
    rw (p.1, p.2) (answered_add c.args.text.now c.loop-cursor.cursor c.next_line.new.cursor c.loop-cursor.draft c.add.new.self c.in_ok-next.next c.loop-cursor.line c.in_err-add.field-0.0 c.loop-cursor.invariant c.in_ok-next.ensures c.in_err-add.ensures)

pub returns-in_err-add-clause-only : goal.returns-in_err-add-clause-only
returns-in_err-add-clause-only c =
    let p = err_from_is_err_and c.from_residual-in_err-add.result c.from_residual-in_err-add.ensures.1 in
    rw (p.1, p.2) (only c.args.text.now (Err c.in_err-add.field-0.0)
    (answered_add c.args.text.now c.loop-cursor.cursor c.next_line.new.cursor c.loop-cursor.draft c.add.new.self c.in_ok-next.next c.loop-cursor.line c.in_err-add.field-0.0 c.loop-cursor.invariant c.in_ok-next.ensures c.in_err-add.ensures))

pub loop-cursor-smaller : goal.loop-cursor-smaller
loop-cursor-smaller c = stands_shorter c.args.text.now c.loop-cursor.cursor c.next_line.new.cursor c.loop-cursor.draft c.loop-cursor.line c.in_ok-next.next c.loop-cursor.invariant c.in_ok-next.ensures

pub loop-cursor-preserved : goal.loop-cursor-preserved
loop-cursor-preserved c = stands_more c.args.text.now c.loop-cursor.cursor c.next_line.new.cursor c.loop-cursor.draft c.add.new.self c.in_ok-next.next c.loop-cursor.line c.in_ok-add.field-0 c.loop-cursor.invariant c.in_ok-next.ensures c.in_ok-add.ensures

pub returns-clause-answer : goal.returns-clause-answer
returns-clause-answer c =
    rw c.in_ok-recorded.ensures
    (answered_end c.args.text.now c.loop-cursor.cursor c.loop-cursor.draft c.loop-cursor.line c.loop-cursor.invariant (sym c.owes_line.ensures ∙ c.loop-cursor-test.false))

pub returns-clause-only : goal.returns-clause-only
returns-clause-only c =
    only c.args.text.now (Ok c.in_ok-recorded.recorded) (rw c.in_ok-recorded.ensures
    (answered_end c.args.text.now c.loop-cursor.cursor c.loop-cursor.draft c.loop-cursor.line c.loop-cursor.invariant (sym c.owes_line.ensures ∙ c.loop-cursor-test.false)))

pub returns-clause-nodes : goal.returns-clause-nodes
returns-clause-nodes c =
    recorded_nodes c.in_ok-recorded.recorded c.args.text.now (rw c.in_ok-recorded.ensures
    (answered_end c.args.text.now c.loop-cursor.cursor c.loop-cursor.draft c.loop-cursor.line c.loop-cursor.invariant (sym c.owes_line.ensures ∙ c.loop-cursor-test.false)))
