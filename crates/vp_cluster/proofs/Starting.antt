-- The site that the nodes return at a restart.
use Rattle.std.proofs.Common.{◌≡◌, ◌∙◌, ap, sym, ℕ, List}
use Rattle.std.specs.Prelude.{Option, None}
use Rattle.vp_model.specs.Catalogue.{Catalogue}
use Rattle.vp_model.specs.Durable.{DurableState}
use Rattle.vp_model.specs.Site.{SiteState}
use Rattle.vp_runs.specs.Keeping.{durable_in}
use Rattle.vp_world.specs.Asked.{life_start}
use Rattle.vp_cluster.specs.Hosts.{HostValue, Restarts}
use Rattle.vp_cluster.specs.Ports.{HasHost, ChangesOf}
use Rattle.vp_cluster.specs.Nodes.{NodesValue, MayRestart}

pub has_host : (catalogue : Catalogue) (id : ℕ) (site : Option SiteState) (nodes : NodesValue) → MayRestart catalogue id site nodes → HasHost nodes.catalogue id nodes.hosts
has_host catalogue id site nodes may = (may.port, may.host, may.port_is, may.host_is)

-- it is the one that the log of its host starts
pub starts_so : (catalogue : Catalogue) (id : ℕ) (d : DurableState) (old : NodesValue) (new : List HostValue) → MayRestart catalogue id (life_start catalogue id d) old
    → (site : Option SiteState) → ChangesOf old.catalogue id (Restarts old.catalogue site) old.hosts new → site ≡ life_start catalogue id d
starts_so catalogue id d old new may site changes =
    let (after, there, restarts) = (changes.there may.port may.port_is).there may.host may.host_is in
    restarts.site_is may.batches None may.down ∙ ap (λ (i : ℕ). life_start old.catalogue i (durable_in old.catalogue i may.batches)) may.id_is ∙ sym may.site_is
