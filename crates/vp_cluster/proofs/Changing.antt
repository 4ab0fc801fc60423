-- What the change of one host does to the list of all.
use Rattle.std.proofs.Common.{◌≡◌, ◌∙◌, ap, sym, subst, ℕ, ◌<◌, Bool, List, length, get_or, set, Some, None, refl, arith, ◌==◌}
use Rattle.std.specs.Prelude.{Result, Ok, Err, IfOk}
use Rattle.std.specs.List.{position}
use Rattle.std.proofs.lemmas.Bool.Decides.{nat_tests}
use Rattle.std.proofs.lemmas.List.Quantifiers.{position-Some}
use Rattle.vp_lists.proofs.Found.{find_none, find_some}
use Rattle.vp_model.specs.Words.{value_at}
use Rattle.vp_model.specs.Catalogue.{Catalogue}
use Rattle.vp_model.specs.Site.{SiteState}
use Rattle.vp_site.specs.declared.fault.StartFault.{StartFault}
use Rattle.vp_world.specs.Asked.{IfStarted}
use Rattle.vp_world.proofs.Started.{if_started_weaker}
use Rattle.vp_cluster.specs.Hosts.{HostValue, address_of, IsHost, Lends, Stays, Restarts}
use Rattle.vp_cluster.specs.Ports.{AreHosts, HasHost, LendsAt, ChangesAt, ChangesOf, host_at}
use Rattle.vp_cluster.proofs.Replaced.{finds_new, finds_others, maps_same, all_set}

module _ (port : ℕ) (does : HostValue → HostValue → Type 0) (hosts : List HostValue) where
  abbrev at : HostValue → Bool
  at host = host.port == port

  -- there is no host at the port
  pub none_changes : position at hosts ≡ None → ChangesAt port does hosts hosts
  none_changes none = record {
    there = λ host found. absurd (let no = find_none at hosts none in cc);
    others = λ other differs. refl;
  }

  -- a site that is lent to the host at the port has one
  pub lent_somewhere : (catalogue : Catalogue) (site : SiteState) → LendsAt catalogue site port hosts → position at hosts ≡ None → ⊥
  lent_somewhere catalogue site lent none = let no = find_none at hosts none in let yes = lent.1 in cc

  -- and it is the one at its index
  pub lent_there : (catalogue : Catalogue) (site : SiteState) → LendsAt catalogue site port hosts → (before : HostValue) (i : ℕ) → position at hosts ≡ Some i → before ≡ get_or hosts i before → Lends catalogue site before
  lent_there catalogue site lent before i some found =
      let is : lent.0 ≡ get_or hosts i before = (let z = sym lent.1 ∙ find_some at hosts i before some in cc) in
      subst (λ (host : HostValue). Lends catalogue site host) (is ∙ sym found) lent.2

  -- the host at the port is this one
  module _ (before after : HostValue) (i : ℕ) (some : position at hosts ≡ Some i) (is : before ≡ get_or hosts i before) (same : address_of after ≡ address_of before) where
    within : i < length hosts
    within = (position-Some at hosts i before some).0

    own : (get_or hosts i before).port ≡ port
    own = grind (arith, nat_tests, (position-Some at hosts i before some).1)

    still : address_of after ≡ address_of (get_or hosts i before)
    still = same ∙ ap address_of is

    now : after.port ≡ port
    now = ap (λ (p : ℕ × ℕ). p.1) still ∙ own

    it_is : (host : HostValue) → host_at port hosts ≡ Some host → before ≡ host
    it_is host found = let there : get_or hosts i before ≡ host = (let z = sym (find_some at hosts i before some) ∙ found in cc) in is ∙ there

    pub one_changes : does before after → ChangesAt port does hosts (set hosts i after)
    one_changes r = record {
      there = λ host found. (after, finds_new before at after hosts i some (grind (arith, nat_tests, now)), subst (λ (h : HostValue). does h after) (it_is host found) r);
      others = λ other differs. finds_others before (λ (host : HostValue). host.port == other) after hosts i within (grind (arith, nat_tests, own, differs)) (grind (arith, nat_tests, now, differs));
    }

    pub hosts_still : (catalogue : Catalogue) → AreHosts catalogue hosts → IsHost catalogue after → AreHosts catalogue (set hosts i after)
    hosts_still catalogue h is = record { sites_are = maps_same before address_of after hosts i within still ∙ h.sites_are; each = all_set before (IsHost catalogue) after hosts i is h.each }

-- a host that stays as it is keeps its index
pub stays_placed : (catalogue : Catalogue) (old new : HostValue) → Stays catalogue old new → address_of new ≡ address_of old
stays_placed catalogue old new h = ap (λ id. (id, new.port)) h.same_id ∙ ap (λ port. (old.id, port)) h.same_port

-- the same for what is returned
pub answered_so : {T E : Type 0} (r : Result T E) (P Q : T → Type 0) → ((x : T) → P x → Q x) → IfOk r P → IfOk r Q
answered_so (Ok x) P Q f h = f x h
answered_so (Err e) P Q f h = tt

-- ---- the host of a site

-- the port of the site is this one
pub at_own_port : (catalogue : Catalogue) (site port : ℕ) (does : HostValue → HostValue → Type 0) (old new : List HostValue) → value_at site catalogue.sites ≡ Some port → ChangesAt port does old new → ChangesOf catalogue site does old new
at_own_port catalogue site port does old new is h = record {
  there = λ p e. subst (λ p. ChangesAt p does old new) (let z = sym is ∙ e in cc) h;
  nowhere = λ none. absurd (let z = sym is ∙ none in cc);
}

-- a site with a host has a port, and a host at it
pub has_port : (catalogue : Catalogue) (site : ℕ) (hosts : List HostValue) → HasHost catalogue site hosts → value_at site catalogue.sites ≡ None → ⊥
has_port catalogue site hosts (port, host, listed, at) none = let z = sym listed ∙ none in cc

pub has_place : (catalogue : Catalogue) (site : ℕ) (hosts : List HostValue) → HasHost catalogue site hosts → (port : ℕ) → value_at site catalogue.sites ≡ Some port → position (λ (host : HostValue). host.port == port) hosts ≡ None → ⊥
has_place catalogue site hosts (at, host, listed, there) port is none =
    let same : at ≡ port = (let z = sym listed ∙ is in cc) in
    let no = find_none (λ (host : HostValue). host.port == port) hosts none in
    let yes : host_at port hosts ≡ Some host = subst (λ p. host_at p hosts ≡ Some host) same there in
    cc

-- the restart of one host is that of its site
pub restarted_so : (r : Result SiteState StartFault) (catalogue : Catalogue) (site port : ℕ) (hosts : List HostValue) (before after : HostValue) (i : ℕ) → value_at site catalogue.sites ≡ Some port → position (λ (host : HostValue). host.port == port) hosts ≡ Some i
    → before ≡ get_or hosts i before → address_of after ≡ address_of before → IfStarted r (λ it. Restarts catalogue it before after) → IfStarted r (λ it. ChangesOf catalogue site (Restarts catalogue it) hosts (set hosts i after))
restarted_so r catalogue site port hosts before after i listed some is same h =
    if_started_weaker r (λ it. Restarts catalogue it before after) (λ it. ChangesOf catalogue site (Restarts catalogue it) hosts (set hosts i after))
    (λ it restarts. at_own_port catalogue site port (Restarts catalogue it) hosts (set hosts i after) listed (one_changes port (Restarts catalogue it) hosts before after i some is same restarts))
    h
