-- How a cluster is related to a run of the world, and its processes to the places.
use Rattle.std.proofs.Common.{◌≡◌, ◌≢◌, ◌⊎◌, ◌∙◌, ap, sym, subst, ℕ, arith, Bool, true, false, cond, List, [], ◌∷◌, map, flat_map, refl, ⊎_elim}
use Rattle.std.specs.Prelude.{Option, Some, None, ◌==◌, option_map, option_and_then}
use Rattle.std.proofs.lemmas.Bool.Decides.{nat_tests}
use Rattle.vp_model.specs.Types.{Sent, Reply}
use Rattle.vp_model.specs.Catalogue.{Catalogue, sites_of}
use Rattle.vp_model.specs.Words.{keys}
use Rattle.vp_model.specs.Site.{SiteState}
use Rattle.vp_model.specs.Step.{durable_of}
use Rattle.vp_model.specs.World.{Place, WorldState, Run, place_of, site_of, start_place}
use Rattle.vp_laws.specs.ShapeLaws.{message_frame, reply_frame}
use Rattle.vp_laws.proofs.Lists.Members.{Has}
use Rattle.vp_laws.proofs.Lists.Views.{same_site}
use Rattle.vp_wire.specs.Grammar.{IsFrame, frame_bytes}
use Rattle.vp_outside.specs.declared.datagram.Datagram.{Datagram}
use Rattle.vp_runs.specs.Keeping.{durable_in}
use Rattle.vp_ports.specs.Ports.{site_from}
use Rattle.vp_network.specs.Cluster.{Process, Act, ClusterState, process_of, change_process, running}
use Rattle.vp_network.specs.Schedules.{no_port, without_ports, act_of}

-- ---- finding processes

pub process-other : (s k : ℕ) (f : Process → Process) (ps : List Process) → ((p : Process) → (f p).id ≡ p.id) → k ≢ s → process_of k (change_process s f ps) ≡ process_of k ps
process-other s k f [] same n = refl
process-other s k f (p ∷ ps) same n = let rest = process-other s k f ps same n in grind (arith, nat_tests, rest, same p, n)

pub process-same : (s : ℕ) (f : Process → Process) (ps : List Process) → ((p : Process) → (f p).id ≡ p.id) → process_of s (change_process s f ps) ≡ option_map f (process_of s ps)
process-same s f [] same = refl
process-same s f (p ∷ ps) same = let rest = process-same s f ps same in grind (arith, nat_tests, rest, same p)

pub process-id : (s : ℕ) (ps : List Process) (p : Process) → process_of s ps ≡ Some p → p.id ≡ s
process-id s [] p e = cc
process-id s (q ∷ ps) p e = let rest = process-id s ps p in grind (arith, nat_tests, rest, e)

pub changed_twice : (s : ℕ) (f g : Process → Process) → ((p : Process) → (g p).id ≡ p.id) → (ps : List Process) → change_process s f (change_process s g ps) ≡ change_process s (λ p. f (g p)) ps
changed_twice s f g same [] = refl
changed_twice s f g same (p ∷ ps) = go (p.id == s) refl (changed_twice s f g same ps)
  where
    it : (b : Bool) → (p.id == s) ≡ b → ((g p).id == s) ≡ b
    it b e = ap (λ n. n == s) (same p) ∙ e

    go : (b : Bool) → (p.id == s) ≡ b → change_process s f (change_process s g ps) ≡ change_process s (λ p. f (g p)) ps
        → change_process s f (cond b (g p ∷ ps) (p ∷ change_process s g ps)) ≡ cond b (f (g p) ∷ ps) (p ∷ change_process s (λ p. f (g p)) ps)
    go true e rest = rw (it true e) refl
    go false e rest = rw e (ap (λ qs. p ∷ qs) rest)

-- two changes that do the same to the process give the same list
pub changed_alike : (s : ℕ) (f g : Process → Process) (ps : List Process) (p : Process) → process_of s ps ≡ Some p → f p ≡ g p → change_process s f ps ≡ change_process s g ps
changed_alike s f g [] p at e = refl
changed_alike s f g (q ∷ ps) p at e = go (q.id == s) at (changed_alike s f g ps p)
  where
    go : (b : Bool) → cond b (Some q) (process_of s ps) ≡ Some p → (process_of s ps ≡ Some p → f p ≡ g p → change_process s f ps ≡ change_process s g ps)
        → cond b (f q ∷ ps) (q ∷ change_process s f ps) ≡ cond b (g q ∷ ps) (q ∷ change_process s g ps)
    go true at rest = let same : q ≡ p = cc in ap (λ r. r ∷ ps) (ap f same ∙ e ∙ ap g (sym same))
    go false at rest = ap (λ qs. q ∷ qs) (rest at e)

-- ---- processes and places

pub data Matches (catalogue : Catalogue) (id : ℕ) (p : Process) (place : Place) : Type 0 where
  new : p.batches ≡ [] → p.up ≡ None → place ≡ start_place catalogue id → Matches catalogue id p place
  ran : durable_in catalogue id p.batches ≡ place.durable → place.up ≡ option_map (site_from no_port) p.up → ((x : SiteState) → p.up ≡ Some x → durable_of x ≡ place.durable)
      → ((x : SiteState) → p.up ≡ Some x → keys p.sites ≡ sites_of catalogue) → Matches catalogue id p place

abbrev pub Placed : Catalogue → ℕ → Process → WorldState → Type 0
Placed catalogue id p w = (place : Place) × (place_of id w.places ≡ Some place) × Matches catalogue id p place

abbrev pub AllPlaced : Catalogue → List Process → WorldState → Type 0
AllPlaced catalogue ps w = (id : ℕ) (p : Process) → process_of id ps ≡ Some p → Placed catalogue id p w

mapped : (f : Process → Process) (o : Option Process) (p : Process) → option_map f o ≡ Some p → (q : Process) × (o ≡ Some q) × (f q ≡ p)
mapped f None p e = cc
mapped f (Some q) p e = (q, refl, cc)

module _ (catalogue : Catalogue) (id : ℕ) (f : Process → Process) (same : (p : Process) → (f p).id ≡ p.id) (ps : List Process) (v w : WorldState) where
  -- one process changes, and so does its place
  pub placed_on : AllPlaced catalogue ps v → ((k : ℕ) → k ≢ id → place_of k w.places ≡ place_of k v.places)
      → ((p : Process) → process_of id ps ≡ Some p → Placed catalogue id p v → Placed catalogue id (f p) w) → AllPlaced catalogue (change_process id f ps) w
  placed_on all others own k p at = ⊎_elim here elsewhere (same_site k id)
    where
      here : k ≡ id → Placed catalogue k p w
      here e =
          let at_id : process_of id (change_process id f ps) ≡ Some p = ap (λ n. process_of n (change_process id f ps)) (sym e) ∙ at in
          let m = mapped f (process_of id ps) p (sym (process-same id f ps same) ∙ at_id) in
          subst (λ n. Placed catalogue n p w) (sym e) (subst (λ p. Placed catalogue id p w) m.2 (own m.0 m.1 (all id m.0 m.1)))

      elsewhere : k ≢ id → Placed catalogue k p w
      elsewhere n =
          let was = all k p (sym (process-other id k f ps same n) ∙ at) in
          (was.0, others k n ∙ was.1, was.2)

-- ---- what was handed over

-- the bytes are those of a message that was sent in the world, or of a reply of one of the steps
pub record IsReplied (acts : List Act) (bytes : List ℕ) : Type 0 where
  pub a : Act
  pub has : Has acts a
  pub reply : Reply
  pub gave : Has a.replies reply
  pub framed : IsFrame (reply_frame a.site reply)
  pub is : bytes ≡ frame_bytes (reply_frame a.site reply)

abbrev pub IsKnown : WorldState → List Act → List ℕ → Type 0
IsKnown w acts bytes = ((m : Sent) × Has w.sent m × (bytes ≡ frame_bytes (message_frame m))) ⊎ IsReplied acts bytes

-- ---- the whole

pub record Linked (catalogue : Catalogue) (c : ClusterState) (run : Run) : Type 0 where
  pub acts : flat_map act_of run.moments ≡ map without_ports c.acts
  pub journal : run.world.journal ≡ flat_map (λ (a : Act). a.commits) c.acts
  pub sent : run.world.sent ≡ flat_map (λ (a : Act). a.messages) c.acts
  pub uncut : run.world.cuts ≡ []
  pub processes : AllPlaced catalogue c.processes run.world
  pub handed : (d : Datagram) → Has c.handed d → IsKnown run.world c.acts d.bytes

-- a process that runs is a site that is up
pub record Runs (catalogue : Catalogue) (id : ℕ) (c : ClusterState) (w : WorldState) (x : SiteState) : Type 0 where
  pub p : Process
  pub at : process_of id c.processes ≡ Some p
  pub up : p.up ≡ Some x
  pub place : Place
  pub there : place_of id w.places ≡ Some place
  pub folds : durable_in catalogue id p.batches ≡ place.durable
  pub site_up : place.up ≡ Some (site_from no_port x)
  pub kept : durable_of x ≡ place.durable
  pub alike : keys p.sites ≡ sites_of catalogue

pub runs : (catalogue : Catalogue) (id : ℕ) (c : ClusterState) (w : WorldState) (x : SiteState) → AllPlaced catalogue c.processes w → running id c ≡ Some x → Runs catalogue id c w x
runs catalogue id c w x all r = go (process_of id c.processes) refl r
  where
    matched : (p : Process) (place : Place) → process_of id c.processes ≡ Some p → p.up ≡ Some x → place_of id w.places ≡ Some place → Matches catalogue id p place → Runs catalogue id c w x
    matched p place at up there (Matches.new b d s) = let z = sym d ∙ up in absurd cc
    matched p place at up there (Matches.ran folds same kept alike) = record { p = p; at = at; up = up; place = place; there = there; folds = folds; site_up = same ∙ ap (option_map (site_from no_port)) up; kept = kept x up; alike = alike x up }

    go : (o : Option Process) → process_of id c.processes ≡ o → option_and_then (λ (p : Process). p.up) o ≡ Some x → Runs catalogue id c w x
    go None at r = cc
    go (Some p) at r = let it = all id p at in matched p it.0 at r it.1 it.2

pub site_there : (catalogue : Catalogue) (id : ℕ) (c : ClusterState) (w : WorldState) (x : SiteState) → Runs catalogue id c w x → site_of w id ≡ Some (site_from no_port x)
site_there catalogue id c w x r = ap (option_and_then (λ (place : Place). place.up)) r.there ∙ r.site_up
