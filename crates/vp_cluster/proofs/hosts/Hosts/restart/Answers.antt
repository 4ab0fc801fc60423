use Rattle.std.proofs.Common.{◌≡◌, ◌∙◌, ap, sym, subst, None, Some}
use Rattle.std.specs.Prelude.{◌==◌}
use Rattle.std.specs.List.{position, slice_set}
use Rattle.vp_world.specs.Asked.{IfStarted}
use Rattle.vp_cluster.specs.Hosts.{HostValue, Restarts}
use Rattle.vp_cluster.specs.Ports.{HostsValue, HasHost, ChangesOf}
use Rattle.vp_cluster.proofs.Changing.{hosts_still, has_port, has_place, restarted_so}
use Rattle.vp_cluster.proofs.hosts.Hosts.restart.Goals as goal

pub unreachable-requires : goal.unreachable-requires
unreachable-requires c =
    let there : HasHost c.self.inside.catalog c.args.site c.self.inside.items.items = subst (λ (old : HostsValue). HasHost old.catalogue c.args.site old.hosts) (sym c.self.view_is) c.requires in
    has_port c.self.inside.catalog c.args.site c.self.inside.items.items there (sym c.port.ensures ∙ c.in_default.is)

pub unreachable-requires-in_default-index_of : goal.unreachable-requires-in_default-index_of
unreachable-requires-in_default-index_of c =
    let none : position (λ (host : HostValue). host.port == c.in-Some.port) c.self.inside.items.items ≡ None = sym (c.index_of.ensures.place ∙ ap (position (λ (host : HostValue). host.port == c.in-Some.port)) c.deref.ensures.value) ∙ c.in_default-index_of.is in
    let there : HasHost c.self.inside.catalog c.args.site c.self.inside.items.items = subst (λ (old : HostsValue). HasHost old.catalogue c.args.site old.hosts) (sym c.self.view_is) c.requires in
    has_place c.self.inside.catalog c.args.site c.self.inside.items.items there c.in-Some.port (sym c.port.ensures ∙ c.in-Some.is) none

pub returns-clause-restarts : goal.returns-clause-restarts
returns-clause-restarts c =
    let some : position (λ (host : HostValue). host.port == c.in-Some.port) c.self.inside.items.items ≡ Some c.in-Some-index_of.i = sym (c.index_of.ensures.place ∙ ap (position (λ (host : HostValue). host.port == c.in-Some.port)) c.deref.ensures.value) ∙ c.in-Some-index_of.is in
    subst (λ (old : HostsValue). IfStarted c.restart.result (λ it. ChangesOf old.catalogue c.args.site (Restarts old.catalogue it) old.hosts (slice_set c.self.inside.items.items c.in-Some-index_of.i c.restart.new.self))) c.self.view_is
    (restarted_so c.restart.result c.self.inside.catalog c.args.site c.in-Some.port c.self.inside.items.items c.index_mut.result.now c.restart.new.self c.in-Some-index_of.i (sym c.port.ensures ∙ c.in-Some.is) some c.index_mut.ensures.value c.restart.ensures.place
    c.restart.ensures.restarts)

pub invariant_of-self : goal.invariant_of-self
invariant_of-self c =
    let some : position (λ (host : HostValue). host.port == c.in-Some.port) c.self.inside.items.items ≡ Some c.in-Some-index_of.i = sym (c.index_of.ensures.place ∙ ap (position (λ (host : HostValue). host.port == c.in-Some.port)) c.deref.ensures.value) ∙ c.in-Some-index_of.is in
    hosts_still c.in-Some.port (λ host after. Unit {0}) c.self.inside.items.items c.index_mut.result.now c.restart.new.self c.in-Some-index_of.i some c.index_mut.ensures.value c.restart.ensures.place
    c.self.inside.catalog c.self.invariant c.restart.ensures.host

pub returns-clause-hosts : goal.returns-clause-hosts
returns-clause-hosts c =
    let some : position (λ (host : HostValue). host.port == c.in-Some.port) c.self.inside.items.items ≡ Some c.in-Some-index_of.i = sym (c.index_of.ensures.place ∙ ap (position (λ (host : HostValue). host.port == c.in-Some.port)) c.deref.ensures.value) ∙ c.in-Some-index_of.is in
    hosts_still c.in-Some.port (λ host after. Unit {0}) c.self.inside.items.items c.index_mut.result.now c.restart.new.self c.in-Some-index_of.i some c.index_mut.ensures.value c.restart.ensures.place
    c.self.inside.catalog c.self.invariant c.restart.ensures.host
