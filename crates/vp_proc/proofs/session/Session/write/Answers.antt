use Rattle.std.proofs.Common.{◌∙◌, sym, arith}
use Rattle.std.proofs.lemmas.Result.{err_from_is_err_and}
use Rattle.std.specs.Prelude.{Some, Ok, Err}
use Rattle.vp_model.specs.Types.op
use Rattle.vp_proc.specs.Scripts.{Script}
use Rattle.vp_proc.proofs.Sessions.{grown, ran_out, asks_write, write_told, write_refused, write_broken}
use Rattle.vp_proc.proofs.session.Session.write.Goals as goal

pub ask-requires-clause-call : goal.ask-requires-clause-call
ask-requires-clause-call g c =
    let number = c.next_number.ensures in (
      record { txn_is = c.requires.txn; some = omega (arith, number); fits = omega (arith, number, c.requires.room) },
      c.requires.name,
      rw c.in_ok-copy_of.ensures c.requires.value,
    )

pub returns-in_err-copy_of-clause-goes : goal.returns-in_err-copy_of-clause-goes
returns-in_err-copy_of-clause-goes g c p old more at =
    let is = err_from_is_err_and c.from_residual.result c.from_residual.ensures.1 in
    rw (is.1, is.2) (ran_out c.args.self.now p old (Script.writes c.args.rec c.args.name c.args.value more) (g.L.Link.state c.args.link.now) at)

pub returns-in_err-answer-clause-goes : goal.returns-in_err-answer-clause-goes
returns-in_err-answer-clause-goes g c p old more at =
    let is = err_from_is_err_and c.from_residual-in_err-answer.result c.from_residual-in_err-answer.ensures.1 in
    let asks = asks_write c.args.self.now c.args.name c.args.value c.in_ok-copy_of.field-0 c.next_number.result (g.L.Link.state c.args.link.now) (g.L.Link.state c.ask.new.link) (Err c.in_err-answer.field-0.0)
    c.next_number.ensures c.in_ok-copy_of.ensures c.in_err-answer.ensures.asks in
    rw (is.1, is.2) (write_broken c.args.self.now p old c.args.rec c.args.name c.args.value more (g.L.Link.state c.args.link.now) (g.L.Link.state c.ask.new.link) at c.in_err-answer.field-0.0 asks)

pub returns-in_err-refuse-clause-goes : goal.returns-in_err-refuse-clause-goes
returns-in_err-refuse-clause-goes g c p old more at =
    let is = err_from_is_err_and c.from_residual-in_err-refuse.result c.from_residual-in_err-refuse.ensures.1 in
    let asks = asks_write c.args.self.now c.args.name c.args.value c.in_ok-copy_of.field-0 c.next_number.result (g.L.Link.state c.args.link.now) (g.L.Link.state c.ask.new.link) (Ok c.in_ok-answer.answer)
    c.next_number.ensures c.in_ok-copy_of.ensures c.in_ok-answer.ensures.asks in
    rw (is.1, is.2) (c.in_err-refuse.ensures.finishes p old (
    write_refused c.args.self.now p old c.args.rec c.args.name c.args.value more (g.L.Link.state c.args.link.now) (g.L.Link.state c.ask.new.link) at c.in_ok-answer.answer asks (sym c.is_written.ensures ∙ c.if-not-is_written.true)))

pub returns-then-not-is_written-clause-goes : goal.returns-then-not-is_written-clause-goes
returns-then-not-is_written-clause-goes g c p old more at =
    let asks = asks_write c.args.self.now c.args.name c.args.value c.in_ok-copy_of.field-0 c.next_number.result (g.L.Link.state c.args.link.now) (g.L.Link.state c.ask.new.link) (Ok c.in_ok-answer.answer)
    c.next_number.ensures c.in_ok-copy_of.ensures c.in_ok-answer.ensures.asks in
    c.in_ok-refuse.ensures.finishes p old (
    write_refused c.args.self.now p old c.args.rec c.args.name c.args.value more (g.L.Link.state c.args.link.now) (g.L.Link.state c.ask.new.link) at c.in_ok-answer.answer asks (sym c.is_written.ensures ∙ c.if-not-is_written.true))

pub returns-in_err-push-clause-goes : goal.returns-in_err-push-clause-goes
returns-in_err-push-clause-goes g c p old more at =
    let is = err_from_is_err_and c.from_residual-in_err-push.result c.from_residual-in_err-push.ensures.1 in
    let asks = asks_write c.args.self.now c.args.name c.args.value c.in_ok-copy_of.field-0 c.next_number.result (g.L.Link.state c.args.link.now) (g.L.Link.state c.ask.new.link) (Ok c.in_ok-answer.answer)
    c.next_number.ensures c.in_ok-copy_of.ensures c.in_ok-answer.ensures.asks in
    rw (is.1, is.2) (ran_out (grown c.args.self.now (op.Write c.args.rec (Some c.args.value))) p old more (g.L.Link.state c.ask.new.link)
    (write_told c.args.self.now p old c.args.rec c.args.name c.args.value more (g.L.Link.state c.args.link.now) (g.L.Link.state c.ask.new.link) at c.in_ok-answer.answer asks (sym c.is_written.ensures ∙ c.if-not-is_written.false)))

pub returns-clause-goes : goal.returns-clause-goes
returns-clause-goes g c p old more at =
    let asks = asks_write c.args.self.now c.args.name c.args.value c.in_ok-copy_of.field-0 c.next_number.result (g.L.Link.state c.args.link.now) (g.L.Link.state c.ask.new.link) (Ok c.in_ok-answer.answer)
    c.next_number.ensures c.in_ok-copy_of.ensures c.in_ok-answer.ensures.asks in
    rw c.in_ok-push.ensures.ok
    (write_told c.args.self.now p old c.args.rec c.args.name c.args.value more (g.L.Link.state c.args.link.now) (g.L.Link.state c.ask.new.link) at c.in_ok-answer.answer asks (sym c.is_written.ensures ∙ c.if-not-is_written.false))
