use Rattle.std.proofs.Common.{◌≡◌, length, true, ◌+◌}
use Rattle.vp_gateway.proofs.AllLines.{Going}
use Rattle.vp_gateway.proofs.serving.answer_lines.Given as goal

abbrev pub invariant-lines : goal.invariant-lines
invariant-lines g l = record {
  going : Going l.port l.site l.turns l.fn.unread (g.S.Source.state l.fn.source) (g.K.Sink.state l.fn.sink) (g.L.Link.state l.fn.link) (g.S.Source.state l.source) l.unread (g.K.Sink.state l.sink) (g.L.Link.state l.link);
  bound : (g.L.Link.state l.link).bound ≡ true;
}

abbrev pub decreases-lines : goal.decreases-lines
decreases-lines g l = length l.unread.unread + l.unread.credit
