use Rattle.std.proofs.Common.{◌≡◌, map, take}
use Rattle.vp_cluster.specs.Hosts.{site_log}
use Rattle.vp_cluster.proofs.hosts.logs_of.Given as goal

abbrev pub invariant-loop-host : goal.invariant-loop-host
invariant-loop-host l = l.logs.items ≡ map site_log (take l.host-index l.hosts)
