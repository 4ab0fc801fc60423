use Rattle.std.proofs.Common.{length, ◌+◌}
use Rattle.vp_gateway.proofs.Heading.{Heading}
use Rattle.vp_gateway.proofs.head.find_port.Given as goal

abbrev pub invariant-lines : goal.invariant-lines
invariant-lines g l = record { heading : Heading (g.S.Source.state l.fn.source) (g.S.Source.state l.source) l.unread l.head l.number }

abbrev pub decreases-lines : goal.decreases-lines
decreases-lines g l = length l.unread.unread + l.unread.credit
