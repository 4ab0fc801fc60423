use Rattle.std.proofs.Common.{Ok, sym}
use Rattle.std.proofs.lemmas.Result.{err_from_is_err_and}
use Rattle.vp_catalog.proofs.Steps.{stands_room, stands_allowed, stands_shorter, stands_more, answered_next, answered_add, answered_end}
use Rattle.vp_catalog.proofs.Only.{only}
use Rattle.vp_catalog.proofs.catalog.Catalog.read.Goals as goal

pub next_entry-requires-clause-room : goal.next_entry-requires-clause-room
next_entry-requires-clause-room c = stands_room c.args.text.now c.loop-cursor.cursor c.loop-cursor.catalog c.loop-cursor.line c.loop-cursor.invariant

pub returns-in_err-entry-clause-answer : goal.returns-in_err-entry-clause-answer
returns-in_err-entry-clause-answer c =
    let p = err_from_is_err_and c.from_residual.result c.from_residual.ensures.1 in
    rw (p.1, p.2) (answered_next c.args.text.now c.loop-cursor.cursor c.next_entry.new.cursor c.loop-cursor.catalog c.loop-cursor.line c.in_err-entry.field-0.0 c.loop-cursor.invariant (sym c.loop-cursor-test.ensures) c.in_err-entry.ensures)

pub returns-in_err-entry-clause-only : goal.returns-in_err-entry-clause-only
returns-in_err-entry-clause-only c = only c.args.text.now c.from_residual.result (returns-in_err-entry-clause-answer c)

pub returns-in_err-add-clause-answer : goal.returns-in_err-add-clause-answer
returns-in_err-add-clause-answer c =
    let p = err_from_is_err_and c.from_residual-in_err-add.result c.from_residual-in_err-add.ensures.1 in
    rw (p.1, p.2) (answered_add c.args.text.now c.loop-cursor.cursor c.next_entry.new.cursor c.loop-cursor.catalog c.add.new.self c.in_ok-entry.entry c.loop-cursor.line c.in_err-add.field-0.0 c.loop-cursor.invariant c.in_ok-entry.ensures c.in_err-add.ensures)

pub returns-in_err-add-clause-only : goal.returns-in_err-add-clause-only
returns-in_err-add-clause-only c = only c.args.text.now c.from_residual-in_err-add.result (returns-in_err-add-clause-answer c)

pub loop-cursor-smaller : goal.loop-cursor-smaller
loop-cursor-smaller c = stands_shorter c.args.text.now c.loop-cursor.cursor c.next_entry.new.cursor c.loop-cursor.catalog c.loop-cursor.line c.in_ok-entry.entry c.loop-cursor.invariant c.in_ok-entry.ensures

pub loop-cursor-preserved : goal.loop-cursor-preserved
loop-cursor-preserved c = stands_more c.args.text.now c.loop-cursor.cursor c.next_entry.new.cursor c.loop-cursor.catalog c.add.new.self c.in_ok-entry.entry c.loop-cursor.line c.loop-cursor.invariant c.in_ok-entry.ensures c.in_ok-add.ensures

pub returns-clause-answer : goal.returns-clause-answer
returns-clause-answer c = answered_end c.args.text.now c.loop-cursor.cursor c.loop-cursor.catalog c.loop-cursor.line c.loop-cursor.invariant (sym c.loop-cursor-test.ensures)

pub returns-clause-only : goal.returns-clause-only
returns-clause-only c = only c.args.text.now (Ok c.loop-cursor.catalog) (returns-clause-answer c)

pub add-requires : goal.add-requires
add-requires c = stands_allowed c.args.text.now c.loop-cursor.cursor c.next_entry.new.cursor c.loop-cursor.catalog c.loop-cursor.line c.in_ok-entry.entry c.loop-cursor.invariant c.in_ok-entry.ensures
