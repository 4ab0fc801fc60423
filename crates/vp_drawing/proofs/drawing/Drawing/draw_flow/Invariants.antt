use Rattle.vp_drawing.proofs.Flowing.{Flowing}
use Rattle.vp_drawing.proofs.drawing.Drawing.draw_flow.Given as goal

abbrev pub invariant-loop : goal.invariant-loop
invariant-loop l = Flowing l.number l.count l.fn.world l.fn.self l.counter l.world l.self
