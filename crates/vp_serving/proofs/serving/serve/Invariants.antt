-- The turns of the datagrams that came were done, and none of them ended the run.
use Rattle.std.proofs.Common.{false}
use Rattle.vp_serving.specs.Serving.{outside}
use Rattle.vp_serving.proofs.Served.{SoFar}
use Rattle.vp_serving.proofs.serving.serve.Given as goal

abbrev pub invariant-loop : goal.invariant-loop
invariant-loop g l = record {
  so_far : SoFar l.catalog l.fn.id l.counter false (outside (g.L.Link.state l.fn.link) (g.L.Link.state l.link) (g.K.Sink.state l.fn.sink) (g.K.Sink.state l.sink) (g.D.Disk.state l.fn.disk) (g.D.Disk.state l.disk)) l.node;
}
