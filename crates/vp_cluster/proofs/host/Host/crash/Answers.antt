use Rattle.vp_cluster.proofs.Hosting.{parts_crash}
use Rattle.vp_cluster.proofs.host.Host.crash.Goals as goal

pub returns : goal.returns
returns c = parts_crash c.args.catalog.now _ c.args.self.now c.self.view_is c.requires.host
