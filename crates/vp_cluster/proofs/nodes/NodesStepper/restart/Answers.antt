use Rattle.std.proofs.Common.{◌≡◌, sym, subst}
use Rattle.vp_world.specs.Asked.{life_start, IfStarted}
use Rattle.vp_world.proofs.Started.{if_started_weaker}
use Rattle.vp_cluster.specs.Hosts.{Restarts}
use Rattle.vp_cluster.specs.Ports.{HasHost, ChangesOf}
use Rattle.vp_cluster.specs.Nodes.{NodesValue}
use Rattle.vp_cluster.proofs.Starting.{has_host, starts_so}
use Rattle.vp_cluster.proofs.nodes.NodesStepper.restart.Goals as goal

pub restart-requires : goal.restart-requires
restart-requires c =
    subst (λ (nodes : NodesValue). HasHost nodes.catalogue c.args.id nodes.hosts) (sym c.self.view_is) (has_host c.args.arg2.now c.args.id c.requires.0 c.args.self.now c.requires.1)

pub returns-clause-started : goal.returns-clause-started
returns-clause-started c = λ may.
    let nodes = c.args.self.now in
    if_started_weaker c.restart.result (λ site. ChangesOf nodes.catalogue c.args.id (Restarts nodes.catalogue site) nodes.hosts c.restart.new.self.hosts) (λ site. site ≡ life_start c.args.arg2.now c.args.id c.args.arg4.now)
    (starts_so c.args.arg2.now c.args.id c.args.arg4.now nodes c.restart.new.self.hosts may)
    (subst (λ (nodes : NodesValue). IfStarted c.restart.result (λ site. ChangesOf nodes.catalogue c.args.id (Restarts nodes.catalogue site) nodes.hosts c.restart.new.self.hosts)) c.self.view_is c.restart.ensures.restarts)
