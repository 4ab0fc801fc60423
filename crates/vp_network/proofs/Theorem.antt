-- The theorem: whatever happens to the processes of a cluster, there is a schedule with their steps.
use Rattle.std.proofs.Common.{◌≡◌, ◌∙◌, ap, sym, subst, ℕ, Bool, true, false, cond, List, [], ◌∷◌, map, refl}
use Rattle.std.specs.Prelude.{Some, ◌==◌}
use Rattle.std.proofs.lemmas.Bool.{eqb-true}
use Rattle.vp_catalog.specs.Document.{IsCatalogue}
use Rattle.vp_model.specs.Catalogue.{Catalogue, sites_of}
use Rattle.vp_model.specs.World.{Place, start_world, start_place, run_of, run_from}
use Rattle.vp_runs.specs.Keeping.{durable_in}
use Rattle.vp_laws.specs.Catalogues.{IsWhole}
use Rattle.vp_laws.proofs.Lists.Catalogues.{whole_catalogue}
use Rattle.vp_laws.proofs.Lists.Members.{Has, has_none, has_first, has_more, has_of}
use Rattle.vp_timely.proofs.Sound.{all_sound}
use Rattle.vp_runs.proofs.Through.{starts_at}
use Rattle.vp_network.specs.Cluster.{Process, ClusterState, new_process, new_cluster, process_of, cluster}
use Rattle.vp_network.specs.Schedules.{IsAt, IsScheduleOf}
use Rattle.vp_network.specs.Laws.{ClustersAreSchedules, ClustersAreSound}
use Rattle.vp_network.proofs.Extending.{run_over}
use Rattle.vp_network.proofs.Linked.{process-id, Matches, AllPlaced}
use Rattle.vp_network.proofs.Held.{Held, world_is}
use Rattle.vp_network.proofs.Told.{told}
use Rattle.vp_network.proofs.Turned.{all_happen}

-- a process that is found belongs to a site, and has never run
record IsNew (sites : List ℕ) (id : ℕ) (p : Process) : Type 0 where
  listed : Has sites id
  is : new_process id ≡ p

found_new : (sites : List ℕ) (id : ℕ) (p : Process) → process_of id (map new_process sites) ≡ Some p → IsNew sites id p
found_new [] id p e = cc
found_new (s ∷ sites) id p e = go (s == id) refl e (found_new sites id p)
  where
    go : (b : Bool) → (s == id) ≡ b → cond b (Some (new_process s)) (process_of id (map new_process sites)) ≡ Some p → (process_of id (map new_process sites) ≡ Some p → IsNew sites id p) → IsNew (s ∷ sites) id p
    go true t e rest =
        let it : s ≡ id = eqb-true s id t in
        let same : new_process s ≡ p = cc in
        record { listed = subst (λ n. Has (s ∷ sites) n) it (has_first s sites); is = ap new_process (sym it) ∙ same }
    go false t e rest = let r = rest e in record { listed = has_more s sites id r.listed; is = r.is }

module _ (catalogue : Catalogue) where
  begins : Held catalogue (new_cluster catalogue)
  unfolding run_of run_from start_world
  begins = record {
    events = [];
    events_are = tt;
    linked = record {
      acts = refl;
      journal = refl;
      sent = refl;
      uncut = refl;
      processes = placed;
      handed = λ d h. absurd (has_none d h);
    };
  }
    where
      placed : AllPlaced catalogue (map new_process (sites_of catalogue)) (run_over catalogue []).world
      placed id p at =
          let n = found_new (sites_of catalogue) id p at in
          (start_place catalogue id, starts_at catalogue id n.listed, Matches.new (ap (λ (p : Process). p.batches) (sym n.is)) (ap (λ (p : Process). p.up) (sym n.is)) refl)

  is_at : (id : ℕ) (p : Process) (place : Place) → p.id ≡ id → Matches catalogue id p place → IsAt catalogue p place
  is_at id p place e (Matches.new b u is) = IsAt.new b u (is ∙ ap (start_place catalogue) (sym e))
  is_at id p place e (Matches.ran folds up kept alike) = IsAt.ran (subst (λ n. durable_in catalogue n p.batches ≡ place.durable) (sym e) folds) up

  held_is : (k : IsCatalogue catalogue) (c : ClusterState) (h : Held catalogue c) → IsScheduleOf catalogue c (record { catalogue = catalogue; events = h.events })
  held_is k c h = record {
    over = refl;
    events_are = h.events_are;
    acts = h.linked.acts;
    journal = h.linked.journal;
    sent = h.linked.sent;
    told = λ d site a has read. told (record { catalogue = catalogue; events = h.events }) c.acts h.linked.acts (run_over catalogue h.events).world catalogue (world_is catalogue k c h) d.bytes site a (h.linked.handed d (has_of c.handed d has)) read;
    processes = λ id p at. let r = h.linked.processes id p at in (r.0, r.1, is_at id p r.0 (process-id id c.processes p at) r.2);
  }

pub clusters_are_schedules : ClustersAreSchedules
unfolding cluster
clusters_are_schedules catalogue happenings k may =
    let h = all_happen catalogue k happenings (new_cluster catalogue) (begins catalogue) may in
    (record { catalogue = catalogue; events = h.events }, held_is catalogue k (cluster catalogue happenings) h)

pub clusters_are_sound : ClustersAreSound
clusters_are_sound catalogue happenings k may =
    let s = clusters_are_schedules catalogue happenings k may in
    (s.0, s.1, all_sound s.0 (subst IsWhole (sym s.1.over) (whole_catalogue catalogue k.so_far)))
