-- A host for each site of a catalogue, one after the other.
use Rattle.std.proofs.Common.{◌≡◌, ◌∙◌, ap, sym, subst, ℕ, ◌<◌, suc, zero, true, false, List, [], ◌∷◌, ◌++◌, ◌+◌, length, take, get_or, Some, refl, arith, map, ◌==◌}
use Rattle.std.specs.List.{AllByRecursion}
use Rattle.std.proofs.lemmas.Bool.Decides.{nat_tests}
use Rattle.std.proofs.lemmas.List.{map-append}
use Rattle.std.proofs.Math.Seq.{take-suc, take-length}
use Rattle.vp_text.proofs.Items.{all_push}
use Rattle.vp_model.specs.Words.{value_at}
use Rattle.vp_model.specs.Catalogue.{Catalogue}
use Rattle.vp_catalog.specs.Document.{AreSites, IsCatalogueSoFar}
use Rattle.vp_cluster.specs.Hosts.{HostValue, address_of, Begins}
use Rattle.vp_cluster.specs.Ports.{AreBegun}

-- ---- the sites of a catalogue

-- a later site in the list is a higher one
higher : (above : ℕ) (sites : List (ℕ × ℕ)) (d : ℕ × ℕ) → AreSites above sites → (i : ℕ) → i < length sites → above < (get_or sites i d).0
higher above [] d h i l = absurd (omega arith)
higher above (s ∷ sites) d h zero l = h.0.higher
higher above (s ∷ sites) d h (suc i) l =
    let first : above < s.0 = h.0.higher in
    let rest : s.0 < (get_or sites i d).0 = higher s.0 sites d h.1 i (omega (arith, l)) in
    omega (arith, first, rest)

listed_from : (above : ℕ) (sites : List (ℕ × ℕ)) (d : ℕ × ℕ) → AreSites above sites → (i : ℕ) → i < length sites → value_at (get_or sites i d).0 sites ≡ Some (get_or sites i d).1
listed_from above [] d h i l = absurd (omega arith)
listed_from above (s ∷ sites) d h zero l = let same : (s.0 == s.0) ≡ true = grind (arith, nat_tests) in rw same refl
listed_from above (s ∷ sites) d h (suc i) l =
    let rest = listed_from s.0 sites d h.1 i (omega (arith, l)) in
    let later : s.0 < (get_or sites i d).0 = higher s.0 sites d h.1 i (omega (arith, l)) in
    let other : (s.0 == (get_or sites i d).0) ≡ false = grind (arith, nat_tests, later) in
    rw other rest

-- each site is listed with its port
each_listed : (catalogue : Catalogue) (d : ℕ × ℕ) → IsCatalogueSoFar catalogue → (i : ℕ) → i < length catalogue.sites → value_at (get_or catalogue.sites i d).0 catalogue.sites ≡ Some (get_or catalogue.sites i d).1
each_listed catalogue d k i l = listed_from 0 catalogue.sites d k.sites_are i l

-- ---- one after the other

-- the first so many sites have their hosts
pub record AreBegunTo (catalogue : Catalogue) (sites : List (ℕ × ℕ)) (i : ℕ) (hosts : List HostValue) : Type 0 where
  pub sites_are : map address_of hosts ≡ take i sites
  pub each : AllByRecursion (λ (host : HostValue). Begins catalogue host.id host.port host) hosts

pub begun_none : (catalogue : Catalogue) (sites : List (ℕ × ℕ)) (hosts : List HostValue) → hosts ≡ [] → AreBegunTo catalogue sites 0 hosts
begun_none catalogue sites hosts none = rw none (record { sites_are = refl; each = tt })

begun_more : (catalogue : Catalogue) (sites : List (ℕ × ℕ)) (i : ℕ) (hosts more : List HostValue) (host : HostValue) (d : ℕ × ℕ) → i < length sites → AreBegunTo catalogue sites i hosts
    → Begins catalogue (get_or sites i d).0 (get_or sites i d).1 host → more ≡ hosts ++ host ∷ [] → AreBegunTo catalogue sites (i + 1) more
begun_more catalogue sites i hosts more host d l h begins is =
    let id = begins.id_is in
    let port = begins.port_is in
    let next : suc i ≡ i + 1 = omega arith in
    rw is (record {
      sites_are =
          map-append address_of hosts (host ∷ []) ∙ ap (λ front. front ++ address_of host ∷ []) h.sites_are
          ∙ ap (λ (site : ℕ × ℕ). take i sites ++ site ∷ []) (ap (λ id. (id, host.port)) id ∙ ap (λ port. ((get_or sites i d).0, port)) port)
          ∙ sym (take-suc sites i d l) ∙ ap (λ n. take n sites) next;
      each = all_push (λ (host : HostValue). Begins catalogue host.id host.port host) hosts host h.each
          (subst (λ n. Begins catalogue n host.port host) (sym id) (subst (λ p. Begins catalogue (get_or sites i d).0 p host) (sym port) begins));
    })

-- the site at this index of a list
module _ (catalogue : Catalogue) (items : List (ℕ × ℕ)) (i : ℕ) (item : ℕ × ℕ) (same : items ≡ catalogue.sites) (within : i < length items) (is : item ≡ get_or items i item) where
  here : get_or catalogue.sites i item ≡ item
  here = ap (λ sites. get_or sites i item) (sym same) ∙ sym is

  inside : i < length catalogue.sites
  inside = subst (λ sites. i < length sites) same within

  pub item_listed : IsCatalogueSoFar catalogue → value_at item.0 catalogue.sites ≡ Some item.1
  item_listed k = subst (λ (site : ℕ × ℕ). value_at site.0 catalogue.sites ≡ Some site.1) here (each_listed catalogue item k i inside)

  pub item_begun : (hosts more : List HostValue) (host : HostValue) → AreBegunTo catalogue catalogue.sites i hosts → Begins catalogue item.0 item.1 host → more ≡ hosts ++ host ∷ [] → AreBegunTo catalogue catalogue.sites (i + 1) more
  item_begun hosts more host h begins e =
      begun_more catalogue catalogue.sites i hosts more host item inside h (subst (λ (site : ℕ × ℕ). Begins catalogue site.0 site.1 host) (sym here) begins) e

pub begun_all : (catalogue : Catalogue) (i : ℕ) (hosts : List HostValue) → i ≡ length catalogue.sites → AreBegunTo catalogue catalogue.sites i hosts → AreBegun catalogue hosts
begun_all catalogue i hosts e h = record { sites_are = h.sites_are ∙ ap (λ n. take n catalogue.sites) e ∙ take-length catalogue.sites; each = h.each }
