use Rattle.vp_cluster.proofs.Begun.{AreBegunTo}
use Rattle.vp_cluster.proofs.hosts.begin_all.Given as goal

abbrev pub invariant-loop-id : goal.invariant-loop-id
invariant-loop-id l = AreBegunTo l.fn.catalog l.fn.catalog.sites l.id-index l.hosts.items
