use Rattle.std.proofs.Common.{◌∙◌, refl, sym, inl}
use Rattle.std.proofs.lemmas.Result.{err_from_is_err_and}
use Rattle.vp_proc.specs.declared.ended.End.TheVariants as ends
use Rattle.vp_proc.proofs.Begun.{fresh_at, fresh_txn, its_end, its_fault}
use Rattle.vp_proc.proofs.Evaluations.{ended_evaluated}
use Rattle.vp_proc.proofs.running.run.Goals as goal

pub returns-in_err-answer-clause-runs : goal.returns-in_err-answer-clause-runs
returns-in_err-answer-clause-runs g c =
    let is = err_from_is_err_and c.from_residual.result c.from_residual.ensures.1 in
    rw (is.1, is.2) (inl c.in_err-answer.ensures.asks)

pub returns-in_err-answer-clause-evaluated : goal.returns-in_err-answer-clause-evaluated
returns-in_err-answer-clause-evaluated g c = let is = err_from_is_err_and c.from_residual.result c.from_residual.ensures.1 in rw is.1 tt

pub returns-in_default-clause-runs : goal.returns-in_default-clause-runs
returns-in_default-clause-runs g c = inl (record { none = c.new.ensures; asks = c.in_ok-answer.ensures.asks; refuses = sym c.begun_in.ensures ∙ c.in_default.is })

pub returns-in_default-clause-evaluated : goal.returns-in_default-clause-evaluated
returns-in_default-clause-evaluated g c =
    ended_evaluated c.args.port c.args.site c.args.turns c.args.procedure.now (g.L.Link.state c.args.link.now) (record { ops = c.new.result; end = ends.Refused c.in_ok-answer.answer }) (g.L.Link.state c.ask.new.link)
    (inl (record { none = c.new.ensures; asks = c.in_ok-answer.ensures.asks; refuses = sym c.begun_in.ensures ∙ c.in_default.is }))

pub play-requires-clause-bound : goal.play-requires-clause-bound
play-requires-clause-bound g c = c.in_ok-answer.ensures.stays.same_bound ∙ c.requires.bound

pub play-requires-clause-txn : goal.play-requires-clause-txn
play-requires-clause-txn g c =
    fresh_txn c.args.port c.args.site c.args.turns c.in-Some.txn c.new-session.result c.new-session.ensures c.in_ok-answer.answer (sym c.begun_in.ensures ∙ c.in-Some.is) c.in_ok-answer.ensures.shaped

pub play-requires-clause-fresh : goal.play-requires-clause-fresh
play-requires-clause-fresh g c = rw c.new-session.ensures refl

pub returns-in_err-end-clause-runs : goal.returns-in_err-end-clause-runs
returns-in_err-end-clause-runs g c =
    let p = c.args.procedure.now in
    let old = g.L.Link.state c.args.link.now in
    let is = err_from_is_err_and c.from_residual-in_err-end.result c.from_residual-in_err-end.ensures.1 in
    let at = fresh_at c.args.port c.args.site c.args.turns c.in-Some.txn c.new-session.result c.new-session.ensures p old (g.L.Link.state c.ask.new.link) c.in_ok-answer.answer (sym c.begun_in.ensures ∙ c.in-Some.is) c.in_ok-answer.ensures.asks in
    rw (is.1, is.2) (
    its_fault c.args.port c.args.site c.args.turns c.in-Some.txn c.new-session.result c.new-session.ensures c.play.new.self c.in_err-end.ensures.same p old (g.L.Link.state c.play.new.link) c.in_err-end.field-0.0
    (c.in_err-end.ensures.finishes old at))

pub returns-in_err-end-clause-evaluated : goal.returns-in_err-end-clause-evaluated
returns-in_err-end-clause-evaluated g c = let is = err_from_is_err_and c.from_residual-in_err-end.result c.from_residual-in_err-end.ensures.1 in rw is.1 tt

pub returns-clause-runs : goal.returns-clause-runs
returns-clause-runs g c =
    let p = c.args.procedure.now in
    let old = g.L.Link.state c.args.link.now in
    let at = fresh_at c.args.port c.args.site c.args.turns c.in-Some.txn c.new-session.result c.new-session.ensures p old (g.L.Link.state c.ask.new.link) c.in_ok-answer.answer (sym c.begun_in.ensures ∙ c.in-Some.is) c.in_ok-answer.ensures.asks in
    rw c.into_ops.ensures (
    its_end c.args.port c.args.site c.args.turns c.in-Some.txn c.new-session.result c.new-session.ensures c.play.new.self c.in_ok-end.ensures.same p old (g.L.Link.state c.play.new.link) c.in_ok-end.end
    (c.in_ok-end.ensures.finishes old at))

pub returns-clause-evaluated : goal.returns-clause-evaluated
returns-clause-evaluated g c =
    let p = c.args.procedure.now in
    let old = g.L.Link.state c.args.link.now in
    let at = fresh_at c.args.port c.args.site c.args.turns c.in-Some.txn c.new-session.result c.new-session.ensures p old (g.L.Link.state c.ask.new.link) c.in_ok-answer.answer (sym c.begun_in.ensures ∙ c.in-Some.is) c.in_ok-answer.ensures.asks in
    rw c.into_ops.ensures (
    ended_evaluated c.args.port c.args.site c.args.turns p old (record { ops = c.play.new.self.ops; end = c.in_ok-end.end }) (g.L.Link.state c.play.new.link)
    (its_end c.args.port c.args.site c.args.turns c.in-Some.txn c.new-session.result c.new-session.ensures c.play.new.self c.in_ok-end.ensures.same p old (g.L.Link.state c.play.new.link) c.in_ok-end.end
    (c.in_ok-end.ensures.finishes old at)))
