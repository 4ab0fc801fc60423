use Rattle.vp_lines.proofs.Finding.{SoFar}
use Rattle.vp_lines.proofs.unread.ReadBuffer.next.Given as goal

abbrev pub invariant-loop-whole : goal.invariant-loop-whole
invariant-loop-whole g l = record { so_far : SoFar l.most l.fn.self (g.S.Source.state l.fn.source) l.self l.line.items (g.S.Source.state l.source) }

abbrev pub decreases-loop-whole : goal.decreases-loop-whole
decreases-loop-whole g l = l.self.credit
