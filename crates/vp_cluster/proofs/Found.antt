-- The hosts of a catalogue: each is found by its port.
use Rattle.std.proofs.Common.{◌≡◌, sym, subst, ℕ, Bool, true, false, cond, List, [], ◌∷◌, Some, refl, arith, map, nat_eq, find, ◌==◌, ap}
use Rattle.std.specs.Prelude.{option_map}
use Rattle.std.specs.List.{AllByRecursion, IsDistinct}
use Rattle.std.proofs.lemmas.Bool.Decides.{nat_tests}
use Rattle.vp_model.specs.Words.{value_at}
use Rattle.vp_model.specs.Catalogue.{Catalogue}
use Rattle.vp_catalog.specs.Document.{IsCatalogueSoFar}
use Rattle.vp_cluster.specs.Hosts.{HostValue, address_of, Begins}
use Rattle.vp_cluster.specs.Ports.{AreBegun, host_at}
use Rattle.vp_cluster.specs.Nodes.{NodesValue, Begin}

-- the ports of hosts with these sites differ
ports_of : (hosts : List HostValue) → map (λ (s : ℕ × ℕ). s.1) (map address_of hosts) ≡ map (λ (host : HostValue). host.port) hosts
ports_of [] = refl
ports_of (host ∷ hosts) = ap (λ rest. host.port ∷ rest) (ports_of hosts)

abbrev Differ : List HostValue → Type 0
Differ hosts = IsDistinct nat_eq (map (λ (host : HostValue). host.port) hosts)

pub hosts_differ : (catalogue : Catalogue) (hosts : List HostValue) → IsCatalogueSoFar catalogue → map address_of hosts ≡ catalogue.sites → Differ hosts
hosts_differ catalogue hosts k e =
    subst (IsDistinct nat_eq) (ports_of hosts) (subst (λ sites. IsDistinct nat_eq (map (λ (s : ℕ × ℕ). s.1) sites)) (sym e) k.ports_differ)

-- a host after another one is found as if that one were not there
following : (host : HostValue) (hosts : List HostValue) → AllByRecursion (λ port. nat_eq host.port port ≡ false) (map (λ (host : HostValue). host.port) hosts) → (all : List HostValue)
    → AllByRecursion (λ (it : HostValue). host_at it.port all ≡ Some it) hosts → AllByRecursion (λ (it : HostValue). host_at it.port (host ∷ all) ≡ Some it) hosts
following host [] h all found = tt
following host (it ∷ hosts) h all found = (go (host.port == it.port) h.0 found.0, following host hosts h.1 all found.1)
  where
    go : (b : Bool) → b ≡ false → host_at it.port all ≡ Some it → cond b (Some host) (host_at it.port all) ≡ Some it
    go false e f = f
    go true e f = absurd cc

pub each_found : (hosts : List HostValue) → Differ hosts → AllByRecursion (λ (it : HostValue). host_at it.port hosts ≡ Some it) hosts
unfolding IsDistinct
each_found [] h = tt
each_found (host ∷ hosts) h = (let same : (host.port == host.port) ≡ true = grind (arith, nat_tests) in rw same refl, following host hosts h.0 hosts (each_found hosts h.1))

-- ---- the first lives

-- a host whose port differs from those of these hosts is not at the port of one that is found among them
other_than : (own : ℕ) (hosts : List HostValue) (port : ℕ) (it : HostValue) → AllByRecursion (λ p. nat_eq own p ≡ false) (map (λ (host : HostValue). host.port) hosts) → host_at port hosts ≡ Some it → (own == port) ≡ false
other_than own [] port it h f = absurd cc
other_than own (x ∷ xs) port it h f = go (x.port == port) refl f (other_than own xs port it h.1)
  where
    go : (b : Bool) → (x.port == port) ≡ b → cond b (Some x) (host_at port xs) ≡ Some it → (host_at port xs ≡ Some it → (own == port) ≡ false) → (own == port) ≡ false
    go true e f rest = let is : x.port ≡ port = grind (arith, nat_tests, e) in subst (λ p. (own == p) ≡ false) is h.0
    go false e f rest = rest f

found_following : (host it : HostValue) (hosts : List HostValue) (port : ℕ) → (host.port == port) ≡ false → host_at port hosts ≡ Some it → host_at port (host ∷ hosts) ≡ Some it
found_following host it hosts port other f = rw other f

abbrev HasBegun : Catalogue → List HostValue → ℕ → ℕ → Type 0
HasBegun catalogue hosts id port = (it : HostValue) × (host_at port hosts ≡ Some it) × Begins catalogue id port it

-- the host of a site is found by the site's port
begun_in : (catalogue : Catalogue) (hosts : List HostValue) → Differ hosts → AllByRecursion (λ (host : HostValue). Begins catalogue host.id host.port host) hosts → (id port : ℕ) → value_at id (map address_of hosts) ≡ Some port → HasBegun catalogue hosts id port
unfolding IsDistinct
begun_in catalogue [] d h id port e = absurd cc
begun_in catalogue (host ∷ hosts) d h id port e = go (host.id == id) refl e (begun_in catalogue hosts d.1 h.1 id port)
  where
    here : host.id ≡ id → host.port ≡ port → HasBegun catalogue (host ∷ hosts) id port
    here same is = (host, (let found : (host.port == port) ≡ true = grind (arith, nat_tests, is) in rw found refl), subst (λ p. Begins catalogue id p host) is (subst (λ n. Begins catalogue n host.port host) same h.0))

    there : HasBegun catalogue hosts id port → HasBegun catalogue (host ∷ hosts) id port
    there (it, found, begins) = (it, found_following host it hosts port (other_than host.port hosts port it d.0 found) found, begins)

    go : (b : Bool) → (host.id == id) ≡ b → option_map (λ (s : ℕ × ℕ). s.1) (cond b (Some (address_of host)) (find (λ (s : ℕ × ℕ). s.0 == id) (map address_of hosts))) ≡ Some port
        → (value_at id (map address_of hosts) ≡ Some port → HasBegun catalogue hosts id port) → HasBegun catalogue (host ∷ hosts) id port
    go true same e rest = here (grind (arith, nat_tests, same)) cc
    go false other e rest = there (rest e)

pub nodes_begin : (catalogue : Catalogue) (nodes : NodesValue) → IsCatalogueSoFar catalogue → nodes.catalogue ≡ catalogue → AreBegun catalogue nodes.hosts → nodes.letters ≡ [] → Begin catalogue nodes
nodes_begin catalogue nodes k same begun none =
    record {
      catalogue_is = same;
      hosts_are = λ id port e. begun_in catalogue nodes.hosts (hosts_differ catalogue nodes.hosts k begun.sites_are) begun.each id port (subst (λ sites. value_at id sites ≡ Some port) (sym begun.sites_are) e);
      letters_are = none;
    }
