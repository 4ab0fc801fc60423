use Rattle.std.proofs.Common.{ℕ, List, refl}
use Rattle.std.proofs.lemmas.Result.{err_from_is_err_and}
use Rattle.vp_gateway.specs.Lines.{line_as}
use Rattle.vp_gateway.proofs.OneLine.{unsaid}
use Rattle.vp_gateway.proofs.answering.answer.Goals as goal

pub returns-in_err-text-clause-answers : goal.returns-in_err-text-clause-answers
returns-in_err-text-clause-answers g c =
    let p = err_from_is_err_and c.from_residual.result c.from_residual.ensures.1 in
    let sink = g.K.Sink.state c.args.sink.now in
    rw (p.1, p.2) (unsaid c.args.port c.args.site c.args.turns (λ (t : List ℕ). t) (line_as c.args.newline c.args.line.now) sink sink
    (g.L.Link.state c.args.link.now) (g.L.Link.state c.said.new.link) c.in_err-text.field-0.0 refl c.in_err-text.ensures.says)
