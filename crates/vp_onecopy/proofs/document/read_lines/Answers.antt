use Rattle.std.proofs.lemmas.Result.{err_from_is_err_and}
use Rattle.vp_onecopy.proofs.Steps.{stands_names, stands_few, stands_room, stands_shorter, answered_next, answered_add, answered_end, stands_more}
use Rattle.vp_onecopy.proofs.document.read_lines.Goals as goal

pub next_line-requires-clause-names : goal.next_line-requires-clause-names
next_line-requires-clause-names c = stands_names c.args.text.now c.loop-history.cursor c.loop-history.history c.loop-history.line c.loop-history.invariant

pub next_line-requires-clause-few : goal.next_line-requires-clause-few
next_line-requires-clause-few c = stands_few c.args.text.now c.loop-history.cursor c.loop-history.history c.loop-history.line c.loop-history.invariant

pub next_line-requires-clause-room : goal.next_line-requires-clause-room
next_line-requires-clause-room c = stands_room c.args.text.now c.loop-history.cursor c.loop-history.history c.loop-history.line c.requires c.loop-history.invariant

pub returns-in_err-next : goal.returns-in_err-next
returns-in_err-next c =
    let p = err_from_is_err_and c.from_residual.result c.from_residual.ensures.1 in
    rw (p.1, p.2) (answered_next c.args.text.now c.loop-history.cursor c.next_line.new.cursor c.loop-history.history c.loop-history.line c.in_err-next.field-0.0 c.requires c.loop-history.invariant c.in_err-next.ensures)

pub returns-in_err-add : goal.returns-in_err-add
returns-in_err-add c =
    let p = err_from_is_err_and c.from_residual-in_err-add.result c.from_residual-in_err-add.ensures.1 in
    rw (p.1, p.2) (answered_add c.args.text.now c.loop-history.cursor c.next_line.new.cursor c.loop-history.history c.add.new.history c.in_ok-next.next c.loop-history.line c.in_err-add.field-0.0 c.requires c.loop-history.invariant c.in_ok-next.ensures c.in_err-add.ensures)

pub returns-then-not-branch : goal.returns-then-not-branch
returns-then-not-branch c = answered_end c.args.text.now c.loop-history.cursor c.next_line.new.cursor c.loop-history.history c.add.new.history c.in_ok-next.next c.loop-history.line c.in_ok-add.field-0 c.finish.result c.requires c.loop-history.invariant c.in_ok-next.ensures c.in_ok-add.ensures c.if-not-branch.true c.finish.ensures

pub loop-history-smaller : goal.loop-history-smaller
loop-history-smaller c = stands_shorter c.args.text.now c.loop-history.cursor c.next_line.new.cursor c.loop-history.history c.loop-history.line c.in_ok-next.next c.requires c.loop-history.invariant c.in_ok-next.ensures

pub loop-history-preserved : goal.loop-history-preserved
loop-history-preserved c = stands_more c.args.text.now c.loop-history.cursor c.next_line.new.cursor c.loop-history.history c.add.new.history c.in_ok-next.next c.loop-history.line c.in_ok-add.field-0 c.requires c.loop-history.invariant c.in_ok-next.ensures c.in_ok-add.ensures c.if-not-branch.false
