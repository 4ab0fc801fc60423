use Rattle.std.proofs.Common.{◌≡◌, ◌∙◌, ap, sym, subst, ℕ, None, Some}
use Rattle.std.specs.Prelude.{◌==◌, IfOk}
use Rattle.std.specs.List.{position, slice_set}
use Rattle.vp_cluster.specs.Hosts.{HostValue, Takes}
use Rattle.vp_cluster.specs.Letter.{Letter, as_received}
use Rattle.vp_cluster.specs.Ports.{HostsValue, ChangesAt, LendsAt}
use Rattle.vp_cluster.proofs.Changing.{one_changes, hosts_still, lent_somewhere, lent_there, answered_so}
use Rattle.vp_cluster.proofs.hosts.Hosts.handle.Goals as goal

pub unreachable-requires : goal.unreachable-requires
unreachable-requires c =
    let to = c.args.letter.now.to in
    let same : c.letter.inside.to ≡ to = ap (λ (letter : Letter). letter.to) c.letter.view_is in
    let lent : LendsAt c.self.inside.catalog c.args.site to c.self.inside.items.items = subst (λ (old : HostsValue). LendsAt old.catalogue c.args.site to old.hosts) (sym c.self.view_is) c.requires in
    let none : position (λ (host : HostValue). host.port == to) c.self.inside.items.items ≡ None = subst (λ (p : ℕ). position (λ (host : HostValue). host.port == p) c.self.inside.items.items ≡ None) same (sym (c.index_of.ensures.place ∙ ap (position (λ (host : HostValue). host.port == c.letter.inside.to)) c.deref.ensures.value) ∙ c.in_default.is) in
    lent_somewhere to (λ host after. Unit {0}) c.self.inside.items.items c.self.inside.catalog c.args.site lent none

pub handle-requires-clause-lent : goal.handle-requires-clause-lent
handle-requires-clause-lent c =
    let to = c.args.letter.now.to in
    let same : c.letter.inside.to ≡ to = ap (λ (letter : Letter). letter.to) c.letter.view_is in
    let lent : LendsAt c.self.inside.catalog c.args.site to c.self.inside.items.items = subst (λ (old : HostsValue). LendsAt old.catalogue c.args.site to old.hosts) (sym c.self.view_is) c.requires in
    let some : position (λ (host : HostValue). host.port == to) c.self.inside.items.items ≡ Some c.in-Some.i = subst (λ (p : ℕ). position (λ (host : HostValue). host.port == p) c.self.inside.items.items ≡ Some c.in-Some.i) same (sym (c.index_of.ensures.place ∙ ap (position (λ (host : HostValue). host.port == c.letter.inside.to)) c.deref.ensures.value) ∙ c.in-Some.is) in
    lent_there to (λ host after. Unit {0}) c.self.inside.items.items c.self.inside.catalog c.args.site lent c.index_mut.result.now c.in-Some.i some c.index_mut.ensures.value

pub returns-clause-takes : goal.returns-clause-takes
returns-clause-takes c =
    let to = c.args.letter.now.to in
    let same : c.letter.inside.to ≡ to = ap (λ (letter : Letter). letter.to) c.letter.view_is in
    let some : position (λ (host : HostValue). host.port == to) c.self.inside.items.items ≡ Some c.in-Some.i = subst (λ (p : ℕ). position (λ (host : HostValue). host.port == p) c.self.inside.items.items ≡ Some c.in-Some.i) same (sym (c.index_of.ensures.place ∙ ap (position (λ (host : HostValue). host.port == c.letter.inside.to)) c.deref.ensures.value) ∙ c.in-Some.is) in
    subst (λ (old : HostsValue). IfOk c.handle.result (λ it. ChangesAt to (λ host after. Takes old.catalogue (as_received c.args.letter.now) c.args.site host after it.0 it.1) old.hosts (slice_set c.self.inside.items.items c.in-Some.i c.handle.new.self))) c.self.view_is
    (answered_so c.handle.result _ _
    (λ it h. one_changes to (λ host after. Takes c.self.inside.catalog (as_received c.args.letter.now) c.args.site host after it.0 it.1) c.self.inside.items.items c.index_mut.result.now c.handle.new.self c.in-Some.i some c.index_mut.ensures.value c.handle.ensures.place h)
    c.handle.ensures.takes)

pub invariant_of-self : goal.invariant_of-self
invariant_of-self c =
    let to = c.args.letter.now.to in
    let same : c.letter.inside.to ≡ to = ap (λ (letter : Letter). letter.to) c.letter.view_is in
    let some : position (λ (host : HostValue). host.port == to) c.self.inside.items.items ≡ Some c.in-Some.i = subst (λ (p : ℕ). position (λ (host : HostValue). host.port == p) c.self.inside.items.items ≡ Some c.in-Some.i) same (sym (c.index_of.ensures.place ∙ ap (position (λ (host : HostValue). host.port == c.letter.inside.to)) c.deref.ensures.value) ∙ c.in-Some.is) in
    hosts_still to (λ host after. Unit {0}) c.self.inside.items.items c.index_mut.result.now c.handle.new.self c.in-Some.i some c.index_mut.ensures.value c.handle.ensures.place c.self.inside.catalog c.self.invariant c.handle.ensures.host

pub returns-clause-hosts : goal.returns-clause-hosts
returns-clause-hosts c =
    let to = c.args.letter.now.to in
    let same : c.letter.inside.to ≡ to = ap (λ (letter : Letter). letter.to) c.letter.view_is in
    let some : position (λ (host : HostValue). host.port == to) c.self.inside.items.items ≡ Some c.in-Some.i = subst (λ (p : ℕ). position (λ (host : HostValue). host.port == p) c.self.inside.items.items ≡ Some c.in-Some.i) same (sym (c.index_of.ensures.place ∙ ap (position (λ (host : HostValue). host.port == c.letter.inside.to)) c.deref.ensures.value) ∙ c.in-Some.is) in
    hosts_still to (λ host after. Unit {0}) c.self.inside.items.items c.index_mut.result.now c.handle.new.self c.in-Some.i some c.index_mut.ensures.value c.handle.ensures.place c.self.inside.catalog c.self.invariant c.handle.ensures.host
