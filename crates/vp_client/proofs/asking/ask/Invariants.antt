use Rattle.vp_client.proofs.Asked.{SoFar}
use Rattle.vp_client.proofs.asking.ask.Given as goal

abbrev pub invariant-loop : goal.invariant-loop
invariant-loop g l = record {
  so_far : SoFar l.port l.site l.call l.counter (g.L.Link.state l.fn.link) (g.L.Link.state l.link);
}
