use Rattle.vp_cluster.proofs.Found.{nodes_begin}
use Rattle.vp_cluster.proofs.nodes.Nodes.begin.Goals as goal

pub returns : goal.returns
returns c =
    let hosts = c.in_ok-begin.field-0 in
    nodes_begin c.args.catalog (record { catalogue = hosts.catalogue; hosts = hosts.hosts; letters = c.none.result }) c.sites.ensures.so_far c.in_ok-begin.ensures.catalogue c.in_ok-begin.ensures.begun c.none.ensures
