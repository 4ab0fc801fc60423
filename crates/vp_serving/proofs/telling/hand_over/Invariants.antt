use Rattle.std.proofs.Common.{◌≡◌, take}
use Rattle.vp_outside.specs.Links.{HandsNow, StaysBound, GivesNone}
use Rattle.vp_serving.proofs.telling.hand_over.Given as goal

abbrev pub invariant-loop-datagram : goal.invariant-loop-datagram
invariant-loop-datagram g l = record {
  handed : HandsNow (g.L.Link.state l.fn.link) (g.L.Link.state l.link) (take l.datagram-index l.datagrams);
  stays : StaysBound (g.L.Link.state l.fn.link) (g.L.Link.state l.link);
  gives_none : GivesNone (g.L.Link.state l.fn.link) (g.L.Link.state l.link);
  same_faults : (g.L.Link.state l.link).faults ≡ (g.L.Link.state l.fn.link).faults;
}
