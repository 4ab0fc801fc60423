use Rattle.std.proofs.Common.{Ok, Err}
use Rattle.vp_gateway.proofs.AllLines.{served}
use Rattle.vp_gateway.proofs.serving.serve.Goals as goal

pub returns-in-Ok-answer_lines-clause-serves : goal.returns-in-Ok-answer_lines-clause-serves
returns-in-Ok-answer_lines-clause-serves g c =
    served c.args.own c.args.site c.args.turns (g.S.Source.state c.args.source.now) (g.S.Source.state c.open.new.source) (g.K.Sink.state c.args.sink.now) (g.L.Link.state c.args.link.now)
    c.open.new.unread c.in-Ok.port c.in-Ok.ensures.opens (g.L.Link.state c.bind.new.self) c.in-Ok-bind.field-0 c.in-Ok-bind.ensures
    (g.S.Source.state c.answer_lines.new.source) (g.K.Sink.state c.answer_lines.new.sink) (g.L.Link.state c.answer_lines.new.link) (Ok c.in-Ok-answer_lines.field-0) c.in-Ok-answer_lines.ensures.answers

pub returns-in-Err-answer_lines-clause-serves : goal.returns-in-Err-answer_lines-clause-serves
returns-in-Err-answer_lines-clause-serves g c =
    served c.args.own c.args.site c.args.turns (g.S.Source.state c.args.source.now) (g.S.Source.state c.open.new.source) (g.K.Sink.state c.args.sink.now) (g.L.Link.state c.args.link.now)
    c.open.new.unread c.in-Ok.port c.in-Ok.ensures.opens (g.L.Link.state c.bind.new.self) c.in-Ok-bind.field-0 c.in-Ok-bind.ensures
    (g.S.Source.state c.answer_lines.new.source) (g.K.Sink.state c.answer_lines.new.sink) (g.L.Link.state c.answer_lines.new.link) (Err c.in-Err-answer_lines.end) c.in-Err-answer_lines.ensures.answers
