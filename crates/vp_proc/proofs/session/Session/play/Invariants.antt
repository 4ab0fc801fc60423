use Rattle.vp_proc.proofs.Playing.{Going}
use Rattle.vp_proc.proofs.session.Session.play.Given as goal

abbrev pub invariant-loop-statement : goal.invariant-loop-statement
invariant-loop-statement g l = Going l.fn.self l.procedure (g.L.Link.state l.fn.link) l.self l.walk (g.L.Link.state l.link) l.statement-index
