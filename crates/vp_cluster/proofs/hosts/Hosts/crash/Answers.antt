use Rattle.std.proofs.Common.{◌≡◌, ◌∙◌, ap, sym, subst, None, Some}
use Rattle.std.specs.Prelude.{◌==◌}
use Rattle.std.specs.List.{position, slice_set}
use Rattle.vp_cluster.specs.Hosts.{HostValue, Crashes}
use Rattle.vp_cluster.specs.Ports.{HostsValue, ChangesOf}
use Rattle.vp_cluster.proofs.Changing.{none_changes, one_changes, hosts_still, at_own_port, stays_placed}
use Rattle.vp_cluster.proofs.hosts.Hosts.crash.Goals as goal

pub returns-in-Some-index_of-clause-crashes : goal.returns-in-Some-index_of-clause-crashes
returns-in-Some-index_of-clause-crashes c =
    let some : position (λ (host : HostValue). host.port == c.in-Some.port) c.self.inside.items.items ≡ Some c.in-Some-index_of.i = sym (c.index_of.ensures.place ∙ ap (position (λ (host : HostValue). host.port == c.in-Some.port)) c.deref.ensures.value) ∙ c.in-Some-index_of.is in
    subst (λ (old : HostsValue). ChangesOf old.catalogue c.args.site (Crashes old.catalogue) old.hosts (slice_set c.self.inside.items.items c.in-Some-index_of.i c.crash.new.self)) c.self.view_is
    (at_own_port c.self.inside.catalog c.args.site c.in-Some.port (Crashes c.self.inside.catalog) c.self.inside.items.items _ (sym c.port.ensures ∙ c.in-Some.is)
    (one_changes c.in-Some.port (Crashes c.self.inside.catalog) c.self.inside.items.items c.index_mut.result.now c.crash.new.self c.in-Some-index_of.i some c.index_mut.ensures.value (stays_placed c.self.inside.catalog _ _ c.crash.ensures.stays) c.crash.ensures))

pub invariant_of-self : goal.invariant_of-self
invariant_of-self c =
    let some : position (λ (host : HostValue). host.port == c.in-Some.port) c.self.inside.items.items ≡ Some c.in-Some-index_of.i = sym (c.index_of.ensures.place ∙ ap (position (λ (host : HostValue). host.port == c.in-Some.port)) c.deref.ensures.value) ∙ c.in-Some-index_of.is in
    hosts_still c.in-Some.port (Crashes c.self.inside.catalog) c.self.inside.items.items c.index_mut.result.now c.crash.new.self c.in-Some-index_of.i some c.index_mut.ensures.value (stays_placed c.self.inside.catalog _ _ c.crash.ensures.stays)
    c.self.inside.catalog c.self.invariant c.crash.ensures.stays.host

pub returns-in-Some-index_of-clause-hosts : goal.returns-in-Some-index_of-clause-hosts
returns-in-Some-index_of-clause-hosts c =
    let some : position (λ (host : HostValue). host.port == c.in-Some.port) c.self.inside.items.items ≡ Some c.in-Some-index_of.i = sym (c.index_of.ensures.place ∙ ap (position (λ (host : HostValue). host.port == c.in-Some.port)) c.deref.ensures.value) ∙ c.in-Some-index_of.is in
    hosts_still c.in-Some.port (Crashes c.self.inside.catalog) c.self.inside.items.items c.index_mut.result.now c.crash.new.self c.in-Some-index_of.i some c.index_mut.ensures.value (stays_placed c.self.inside.catalog _ _ c.crash.ensures.stays)
    c.self.inside.catalog c.self.invariant c.crash.ensures.stays.host

pub returns-in_default-index_of-clause-crashes : goal.returns-in_default-index_of-clause-crashes
returns-in_default-index_of-clause-crashes c =
    let none : position (λ (host : HostValue). host.port == c.in-Some.port) c.self.inside.items.items ≡ None = sym (c.index_of.ensures.place ∙ ap (position (λ (host : HostValue). host.port == c.in-Some.port)) c.deref.ensures.value) ∙ c.in_default-index_of.is in
    subst (λ (old : HostsValue). ChangesOf old.catalogue c.args.site (Crashes old.catalogue) old.hosts old.hosts) c.self.view_is
    (at_own_port c.self.inside.catalog c.args.site c.in-Some.port (Crashes c.self.inside.catalog) c.self.inside.items.items _ (sym c.port.ensures ∙ c.in-Some.is)
    (none_changes c.in-Some.port (Crashes c.self.inside.catalog) c.self.inside.items.items none))
