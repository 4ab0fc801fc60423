use Rattle.std.proofs.Common.{◌∙◌, sym, subst, arith}
use Rattle.std.proofs.lemmas.Result.{err_from_is_err_and}
use Rattle.std.specs.Prelude.{Ok, Err}
use Rattle.vp_model.specs.Types.op
use Rattle.vp_proc.specs.declared.ended.End.TheVariants as ends
use Rattle.vp_proc.specs.Scripts.{Script}
use Rattle.vp_proc.specs.Stepping.{IsAt, IsToAbort}
use Rattle.vp_proc.specs.Walking.{after_read}
use Rattle.vp_proc.proofs.Sessions.{grown, ran_out, asks_read, read_told, read_refused, read_broken, read_number, read_no_number}
use Rattle.vp_proc.proofs.session.Session.read.Goals as goal

pub ask-requires-clause-call : goal.ask-requires-clause-call
ask-requires-clause-call g c =
    let number = c.next_number.ensures in
    (record { txn_is = c.requires.txn; some = omega (arith, number); fits = omega (arith, number, c.requires.room) }, c.requires.name)

pub returns-in_err-answer-clause-goes : goal.returns-in_err-answer-clause-goes
returns-in_err-answer-clause-goes g c p old rest at =
    let is = err_from_is_err_and c.from_residual.result c.from_residual.ensures.1 in
    let w = c.args.walk.now in
    let asks = asks_read c.args.self.now c.args.name c.next_number.result (g.L.Link.state c.args.link.now) (g.L.Link.state c.ask.new.link) (Err c.in_err-answer.field-0.0) c.next_number.ensures c.in_err-answer.ensures.asks in
    rw (is.1, is.2) (
    read_broken c.args.self.now p old c.args.rec c.args.name (after_read w.line w.vars w.mode rest c.args.var) (g.L.Link.state c.args.link.now) (g.L.Link.state c.ask.new.link) at c.in_err-answer.field-0.0 asks)

pub returns-in_err-content-clause-goes : goal.returns-in_err-content-clause-goes
returns-in_err-content-clause-goes g c p old rest at =
    let is = err_from_is_err_and c.from_residual-in_err-content.result c.from_residual-in_err-content.ensures.1 in
    let w = c.args.walk.now in
    let go = after_read w.line w.vars w.mode rest c.args.var in
    let asks = asks_read c.args.self.now c.args.name c.next_number.result (g.L.Link.state c.args.link.now) (g.L.Link.state c.ask.new.link) (Ok c.in_ok-answer.answer) c.next_number.ensures c.in_ok-answer.ensures.asks in
    let content = c.in_err-content.ensures.no_memory in
    rw (is.1, is.2) (ran_out (grown c.args.self.now (op.Read c.args.rec content.0)) p old (go content.0) (g.L.Link.state c.ask.new.link)
    (read_told c.args.self.now p old c.args.rec c.args.name go (g.L.Link.state c.args.link.now) (g.L.Link.state c.ask.new.link) at c.in_ok-answer.answer content.0 asks content.1))

pub returns-in_err-refuse-clause-goes : goal.returns-in_err-refuse-clause-goes
returns-in_err-refuse-clause-goes g c p old rest at =
    let is = err_from_is_err_and c.from_residual-in_err-refuse.result c.from_residual-in_err-refuse.ensures.1 in
    let w = c.args.walk.now in
    let asks = asks_read c.args.self.now c.args.name c.next_number.result (g.L.Link.state c.args.link.now) (g.L.Link.state c.ask.new.link) (Ok c.in_ok-answer.answer) c.next_number.ensures c.in_ok-answer.ensures.asks in
    rw (is.1, is.2) (c.in_err-refuse.ensures.finishes p old (
    read_refused c.args.self.now p old c.args.rec c.args.name (after_read w.line w.vars w.mode rest c.args.var) (g.L.Link.state c.args.link.now) (g.L.Link.state c.ask.new.link) at
    c.in_ok-answer.answer asks (sym c.in_ok-content.ensures.content ∙ c.in_default.is)))

pub returns-in_default-clause-goes : goal.returns-in_default-clause-goes
returns-in_default-clause-goes g c p old rest at =
    let w = c.args.walk.now in
    let asks = asks_read c.args.self.now c.args.name c.next_number.result (g.L.Link.state c.args.link.now) (g.L.Link.state c.ask.new.link) (Ok c.in_ok-answer.answer) c.next_number.ensures c.in_ok-answer.ensures.asks in
    c.in_ok-refuse.ensures.finishes p old (
    read_refused c.args.self.now p old c.args.rec c.args.name (after_read w.line w.vars w.mode rest c.args.var) (g.L.Link.state c.args.link.now) (g.L.Link.state c.ask.new.link) at
    c.in_ok-answer.answer asks (sym c.in_ok-content.ensures.content ∙ c.in_default.is))

pub returns-in_err-push-clause-goes : goal.returns-in_err-push-clause-goes
returns-in_err-push-clause-goes g c p old rest at =
    let is = err_from_is_err_and c.from_residual-in_err-push.result c.from_residual-in_err-push.ensures.1 in
    let w = c.args.walk.now in
    let go = after_read w.line w.vars w.mode rest c.args.var in
    let content = c.in-Some.content in
    let asks = asks_read c.args.self.now c.args.name c.next_number.result (g.L.Link.state c.args.link.now) (g.L.Link.state c.ask.new.link) (Ok c.in_ok-answer.answer) c.next_number.ensures c.in_ok-answer.ensures.asks in
    rw (is.1, is.2) (ran_out (grown c.args.self.now (op.Read c.args.rec content)) p old (go content) (g.L.Link.state c.ask.new.link)
    (read_told c.args.self.now p old c.args.rec c.args.name go (g.L.Link.state c.args.link.now) (g.L.Link.state c.ask.new.link) at c.in_ok-answer.answer content asks (sym c.in_ok-content.ensures.content ∙ c.in-Some.is)))

pub returns-in-Some-number-clause-goes : goal.returns-in-Some-number-clause-goes
returns-in-Some-number-clause-goes g c p old rest at =
    let w = c.args.walk.now in
    let go = after_read w.line w.vars w.mode rest c.args.var in
    let content = c.in-Some.content in
    let asks = asks_read c.args.self.now c.args.name c.next_number.result (g.L.Link.state c.args.link.now) (g.L.Link.state c.ask.new.link) (Ok c.in_ok-answer.answer) c.next_number.ensures c.in_ok-answer.ensures.asks in
    let told = read_told c.args.self.now p old c.args.rec c.args.name go (g.L.Link.state c.args.link.now) (g.L.Link.state c.ask.new.link) at c.in_ok-answer.answer content asks (sym c.in_ok-content.ensures.content ∙ c.in-Some.is) in
    rw (c.in_ok-push.ensures.ok, c.set.ensures)
    (subst (λ (s : Script). IsAt (grown c.args.self.now (op.Read c.args.rec content)) p old s (g.L.Link.state c.ask.new.link))
    (read_number w.line w.vars w.mode rest c.args.var content c.in-Some-number.number (sym c.number_in-number.ensures ∙ c.in-Some-number.is)) told)

pub returns-in_err-stop-in-None-clause-goes : goal.returns-in_err-stop-in-None-clause-goes
returns-in_err-stop-in-None-clause-goes g c p old rest at =
    let is = err_from_is_err_and c.from_residual-in_err-stop-in-None.result c.from_residual-in_err-stop-in-None.ensures.1 in
    let w = c.args.walk.now in
    let go = after_read w.line w.vars w.mode rest c.args.var in
    let content = c.in-Some.content in
    let asks = asks_read c.args.self.now c.args.name c.next_number.result (g.L.Link.state c.args.link.now) (g.L.Link.state c.ask.new.link) (Ok c.in_ok-answer.answer) c.next_number.ensures c.in_ok-answer.ensures.asks in
    let told = read_told c.args.self.now p old c.args.rec c.args.name go (g.L.Link.state c.args.link.now) (g.L.Link.state c.ask.new.link) at c.in_ok-answer.answer content asks (sym c.in_ok-content.ensures.content ∙ c.in-Some.is) in
    let due : IsToAbort (record c.args.self.now { ops = c.push.new.self }) p old (ends.NotNumber w.line) (g.L.Link.state c.ask.new.link) = rw c.in_ok-push.ensures.ok
    (subst (λ (s : Script). IsAt (grown c.args.self.now (op.Read c.args.rec content)) p old s (g.L.Link.state c.ask.new.link))
    (read_no_number w.line w.vars w.mode rest c.args.var content (sym c.number_in-number.ensures ∙ c.in-None.is)) told) in
    rw (is.1, is.2) (c.in_err-stop-in-None.ensures.finishes p old due)

pub returns-clause-goes : goal.returns-clause-goes
returns-clause-goes g c p old rest at =
    let w = c.args.walk.now in
    let go = after_read w.line w.vars w.mode rest c.args.var in
    let content = c.in-Some.content in
    let asks = asks_read c.args.self.now c.args.name c.next_number.result (g.L.Link.state c.args.link.now) (g.L.Link.state c.ask.new.link) (Ok c.in_ok-answer.answer) c.next_number.ensures c.in_ok-answer.ensures.asks in
    let told = read_told c.args.self.now p old c.args.rec c.args.name go (g.L.Link.state c.args.link.now) (g.L.Link.state c.ask.new.link) at c.in_ok-answer.answer content asks (sym c.in_ok-content.ensures.content ∙ c.in-Some.is) in
    let due : IsToAbort (record c.args.self.now { ops = c.push.new.self }) p old (ends.NotNumber w.line) (g.L.Link.state c.ask.new.link) = rw c.in_ok-push.ensures.ok
    (subst (λ (s : Script). IsAt (grown c.args.self.now (op.Read c.args.rec content)) p old s (g.L.Link.state c.ask.new.link))
    (read_no_number w.line w.vars w.mode rest c.args.var content (sym c.number_in-number.ensures ∙ c.in-None.is)) told) in
    c.in_ok-stop-in-None.ensures.finishes p old due
