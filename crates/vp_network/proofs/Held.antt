-- The schedule that a cluster has so far, and what each happening makes of it.
use Rattle.std.proofs.Common.{◌≡◌, ◌≢◌, ◌∙◌, ap, sym, subst, ℕ, zero, suc, ◌+◌, ◌-◌, ◌^◌, Bool, true, false, cond, List, [], ◌∷◌, ◌++◌, flat_map, take, refl, ⊎_elim, append-nil}
use Rattle.std.specs.Prelude.{Option, Some, None, ◌==◌, is_some, option_map}
use Rattle.std.specs.List.{AllByRecursion}
use Rattle.std.proofs.lemmas.Grind.{flat_map-append}
use Rattle.vp_text.proofs.Items.{all_push}
use Rattle.vp_catalog.specs.Document.{IsCatalogue}
use Rattle.vp_model.specs.Types.{LogRecord, Event}
use Rattle.vp_model.specs.Types.event
use Rattle.vp_model.specs.Types.shown
use Rattle.vp_model.specs.Catalogue.{Catalogue, sites_of, start_copies}
use Rattle.vp_model.specs.Durable.{DurableState, empty_durable, apply}
use Rattle.vp_model.specs.Site.{SiteState}
use Rattle.vp_model.specs.Step.{start, start_record, durable_of}
use Rattle.vp_model.specs.World.{Place, WorldState, Moved, Run, place_of, change_place, restart_place, start_place, next, moment, extended, shows}
use Rattle.vp_laws.specs.ShapeLaws.{IsEvent, IsWorld}
use Rattle.vp_laws.proofs.Lists.Members.{Has, has_none, has_first, has_more, has_cons}
use Rattle.vp_laws.proofs.Shapes.Worlds.{last_world}
use Rattle.vp_laws.proofs.Worlds.Scenes.{place-same, place-other, place-id}
use Rattle.vp_laws.proofs.Worlds.Occurs.{counted}
use Rattle.vp_runs.specs.Keeping.{durable_in}
use Rattle.vp_runs.specs.Runs.{start_node}
use Rattle.vp_runs.proofs.Checkpoints.{batch_folds}
use Rattle.vp_runs.proofs.Delivered.{IsSingle}
use Rattle.vp_ports.specs.Ports.{site_from}
use Rattle.vp_ports.proofs.Catalogues.{starts_are_same}
use Rattle.vp_model.specs.Words.{keys}
use Rattle.vp_network.specs.Cluster.{Process, ClusterState, process_of, change_process, running, start_process, end_process, dead, IsLeft}
use Rattle.vp_network.specs.Schedules.{no_port, act_of}
use Rattle.vp_network.proofs.Extending.{run_over, then_run, run_more, crashes, restarts}
use Rattle.vp_network.proofs.Linked.{process-id, Matches, Placed, AllPlaced, placed_on, IsKnown, Linked, Runs, runs, site_there}

-- events with the steps of the cluster
pub record Held (catalogue : Catalogue) (c : ClusterState) : Type 0 where
  pub events : List Event
  pub events_are : AllByRecursion IsEvent events
  pub linked : Linked catalogue c (run_over catalogue events)

pub take_has : {X : Type 0} (n : ℕ) (xs : List X) (x : X) → Has (take n xs) x → Has xs x
take_has zero xs x h = absurd (has_none x h)
take_has (suc n) [] x h = absurd (has_none x h)
take_has (suc n) (y ∷ xs) x h = ⊎_elim (λ (same : y ≡ x). subst (λ z. Has (y ∷ xs) z) same (has_first y xs)) (λ (more : Has (take n xs) x). has_more y xs x (take_has n xs x more)) (has_cons y (take n xs) x h)

pub take_none : {X : Type 0} (n : ℕ) (xs : List X) → xs ≡ [] → take n xs ≡ []
take_none zero xs e = refl
take_none (suc n) [] e = refl
take_none (suc n) (x ∷ xs) e = cc

module _ (catalogue : Catalogue) where
  abbrev pub with_processes : List Process → ClusterState → ClusterState
  with_processes ps c = record c { processes = ps }

  pub world_is : (k : IsCatalogue catalogue) (c : ClusterState) (h : Held catalogue c) → IsWorld catalogue (run_over catalogue h.events).world
  world_is k c h = last_world (record { catalogue = catalogue; events = h.events }) k h.events_are

  -- one more event
  pub more : (c d : ClusterState) (h : Held catalogue c) (e : Event) → IsSingle e → IsEvent e → ((n : ℕ) → Linked catalogue d (then_run catalogue n e (run_over catalogue h.events))) → Held catalogue d
  more c d h e single is l =
      let m = run_more catalogue h.events e single in
      record { events = h.events ++ e ∷ []; events_are = all_push IsEvent h.events e h.events_are is; linked = subst (Linked catalogue d) (sym m.1) (l m.0) }

  -- no event
  pub same : (c : ClusterState) (h : Held catalogue c) (ps : List Process) → AllPlaced catalogue ps (run_over catalogue h.events).world → Held catalogue (with_processes ps c)
  same c h ps all = record { events = h.events; events_are = h.events_are; linked = record { acts = h.linked.acts; journal = h.linked.journal; sent = h.linked.sent; uncut = h.linked.uncut; processes = all; handed = h.linked.handed } }

  -- an event that is no step, and that sends and commits nothing
  record IsQuiet (run : Run) (e : Event) (m : Moved) : Type 0 where
    moved : next catalogue e run.world ≡ m
    no_act : (n : ℕ) → act_of (moment n run.world e m) ≡ []
    journal : m.world.journal ≡ run.world.journal
    sent : m.world.sent ≡ run.world.sent
    cuts : m.world.cuts ≡ run.world.cuts

  quiet : (c : ClusterState) (run : Run) (e : Event) (m : Moved) → Linked catalogue c run → IsQuiet run e m → (ps : List Process) → AllPlaced catalogue ps m.world → (n : ℕ) → Linked catalogue (with_processes ps c) (then_run catalogue n e run)
  quiet c run e m l q ps all n = subst (λ (m : Moved). Linked catalogue (with_processes ps c) (extended (moment n run.world e m) run)) (sym q.moved) (record {
    acts = flat_map-append act_of run.moments (moment n run.world e m ∷ []) ∙ ap (λ acts. flat_map act_of run.moments ++ (acts ++ [])) (q.no_act n) ∙ append-nil (flat_map act_of run.moments) ∙ l.acts;
    journal = q.journal ∙ l.journal;
    sent = q.sent ∙ l.sent;
    uncut = q.cuts ∙ l.uncut;
    processes = all;
    handed = λ d h. subst (λ ms. IsKnown (record m.world { sent = ms }) c.acts d.bytes) (sym q.sent) (l.handed d h);
  })

  -- one process changes, and this holds of it
  pub one_placed : (id : ℕ) (f : Process → Process) → ((p : Process) → (f p).id ≡ p.id) → (ps : List Process) (v w : WorldState) → AllPlaced catalogue ps v → ((k : ℕ) → k ≢ id → place_of k w.places ≡ place_of k v.places)
      → (p : Process) → process_of id ps ≡ Some p → Placed catalogue id (f p) w → AllPlaced catalogue (change_process id f ps) w
  one_placed id f keeps ps v w all others p at own =
      placed_on catalogue id f keeps ps v w all others (λ q there was. let it : p ≡ q = (let z = sym at ∙ there in cc) in subst (λ q. Placed catalogue id (f q) w) it own)

  none_placed : (id : ℕ) (f : Process → Process) → ((p : Process) → (f p).id ≡ p.id) → (ps : List Process) (w : WorldState) → AllPlaced catalogue ps w → process_of id ps ≡ None → AllPlaced catalogue (change_process id f ps) w
  none_placed id f keeps ps w all none = placed_on catalogue id f keeps ps w w all (λ k n. refl) (λ q there was. let z = sym none ∙ there in absurd cc)

  pub keeps_id : (sites : List (ℕ × ℕ)) (p : Process) → (start_process catalogue sites p).id ≡ p.id
  keeps_id sites p = go (is_some p.up) ((durable_in catalogue p.id p.batches).life == 2 ^ 32 - 1)
    where
      node : Process
      node = record p { sites = sites; batches = (start_node (record catalogue { sites = sites }) p.id p.batches).batches; up = Some (start_node (record catalogue { sites = sites }) p.id p.batches).site }

      go : (a b : Bool) → (cond a p (cond b p node)).id ≡ p.id
      go true b = refl
      go false true = refl
      go false false = refl

  -- ---- a process is killed

  module _ (id : ℕ) (c : ClusterState) (h : Held catalogue c) where
    abbrev w : WorldState
    w = (run_over catalogue h.events).world

    module _ (left : List (List LogRecord)) (x : SiteState) (up : running id c ≡ Some x) (is_left : IsLeft catalogue id left x) where
      r : Runs catalogue id c w x
      r = runs catalogue id c w x h.linked.processes up

      pub kill : Held catalogue (dead id left x c)
      kill =
          let m : Moved = shows (record (counted w) { places = change_place id (λ place. record place { up = None }) w.places }) shown.Nothing in
          more c (dead id left x c) h (event.Crash id) tt tt
          (quiet c (run_over catalogue h.events) (event.Crash id) m h.linked (record { moved = crashes catalogue w id (site_from no_port x) (site_there catalogue id c w x r); no_act = λ n. refl; journal = refl; sent = refl; cuts = refl })
          (change_process id (end_process left) c.processes)
          (one_placed id (end_process left) (λ p. refl) c.processes w m.world h.linked.processes (λ k n. place-other id k (λ place. record place { up = None }) w.places (λ p. refl) n) r.p r.at
          (record r.place { up = None }, place-same id (λ place. record place { up = None }) w.places (λ p. refl) ∙ ap (option_map (λ (place : Place). record place { up = None })) r.there, Matches.ran (is_left ∙ r.kept) refl (λ y up. cc) (λ y up. cc))))

    -- ---- a process starts

    module _ (sites : List (ℕ × ℕ)) (given : keys sites ≡ sites_of catalogue) where
      abbrev here : Catalogue
      here = record catalogue { sites = sites }

      abbrev pub begun : ClusterState
      begun = with_processes (change_process id (start_process catalogue sites) c.processes) c

      -- it runs already, or its lives are spent
      stays : (p : Process) → process_of id c.processes ≡ Some p → start_process catalogue sites p ≡ p → Held catalogue begun
      stays p at e =
          same c h (change_process id (start_process catalogue sites) c.processes)
          (one_placed id (start_process catalogue sites) (keeps_id sites) c.processes w w h.linked.processes (λ k n. refl) p at (subst (λ q. Placed catalogue id q w) (sym e) (h.linked.processes id p at)))

      module _ (p : Process) (at : process_of id c.processes ≡ Some p) (none : p.up ≡ None) (left : ((durable_in catalogue p.id p.batches).life == 2 ^ 32 - 1) ≡ false) where
        p_id : p.id ≡ id
        p_id = process-id id c.processes p at

        abbrev node : Process
        node = record p { sites = sites; batches = (start_node (here) p.id p.batches).batches; up = Some (start_node (here) p.id p.batches).site }

        starts_so : start_process catalogue sites p ≡ node
        starts_so = rw (none, left) refl

        abbrev d : DurableState
        d = durable_in catalogue id p.batches

        node_folds : (n : ℕ) → n ≡ id → durable_in catalogue id (start_node here n p.batches).batches ≡ apply (start_record d) d
        node_folds n e = subst (λ n. durable_in catalogue id (start_node here n p.batches).batches ≡ apply (start_record d) d) (sym e) (batch_folds catalogue id (start_record d ∷ []) p.batches)

        node_site : (n : ℕ) → n ≡ id → (start_node here n p.batches).site ≡ start catalogue id d
        node_site n e = ap (λ n. (start_node here n p.batches).site) e ∙ sym (starts_are_same catalogue here (record { sites = sym given; records = refl }) id d)

        plain : (e : DurableState) → site_from no_port (start catalogue id e) ≡ start catalogue id e
        unfolding start
        plain e = refl

        fresh : (e : DurableState) → durable_of (start catalogue id e) ≡ apply (start_record e) e
        unfolding start apply
        fresh e = refl

        -- if a place is up in this life, the process is then where the place is
        matches : (place : Place) → place.durable ≡ apply (start_record d) d → place.up ≡ Some (start catalogue id d) → Matches catalogue id node place
        matches place folds up = Matches.ran
            (node_folds p.id p_id ∙ sym folds)
            (up ∙ ap Some (sym (plain d)) ∙ ap (λ (x : SiteState). Some (site_from no_port x)) (sym (node_site p.id p_id)))
            (λ x e. let it : start catalogue id d ≡ x = (let z = ap Some (sym (node_site p.id p_id)) ∙ e in cc) in ap durable_of (sym it) ∙ fresh d ∙ sym folds)
            (λ x e. given)

        -- the first life is the one that the world starts with
        starts_new : (place : Place) → place_of id w.places ≡ Some place → p.batches ≡ [] → place ≡ start_place catalogue id → Held catalogue begun
        starts_new place there b is =
            let empty = empty_durable (start_copies catalogue id) in
            let d_is : d ≡ empty = ap (durable_in catalogue id) b in
            same c h (change_process id (start_process catalogue sites) c.processes)
            (one_placed id (start_process catalogue sites) (keeps_id sites) c.processes w w h.linked.processes (λ k n. refl) p at
            (subst (λ q. Placed catalogue id q w) (sym starts_so)
            (place, there, matches place (ap (λ (q : Place). q.durable) is ∙ ap (λ (e : DurableState). apply (start_record e) e) (sym d_is)) (ap (λ (q : Place). q.up) is ∙ ap (λ (e : DurableState). Some (start catalogue id e)) (sym d_is)))))

        starts_again : (place : Place) → place_of id w.places ≡ Some place → d ≡ place.durable → place.up ≡ None → Held catalogue begun
        starts_again place there folds down =
            let m : Moved = shows (record (counted w) { places = change_place id (restart_place catalogue) w.places }) (shown.Life (place.durable.life + 1)) in
            let place_is : place.id ≡ id = place-id id w.places place there in
            let life : (place.durable.life == 2 ^ 32 - 1) ≡ false = ap (λ (e : DurableState). e.life == 2 ^ 32 - 1) (sym folds) ∙ ap (λ n. (durable_in catalogue n p.batches).life == 2 ^ 32 - 1) (sym p_id) ∙ left in
            more c begun h (event.Restart id) tt tt
            (quiet c (run_over catalogue h.events) (event.Restart id) m h.linked (record { moved = restarts catalogue w id place there place_is down life; no_act = λ n. refl; journal = refl; sent = refl; cuts = refl })
            (change_process id (start_process catalogue sites) c.processes)
            (one_placed id (start_process catalogue sites) (keeps_id sites) c.processes w m.world h.linked.processes (λ k n. place-other id k (restart_place catalogue) w.places (λ p. refl) n) p at
            (subst (λ q. Placed catalogue id q m.world) (sym starts_so) (
              restart_place catalogue place,
              place-same id (restart_place catalogue) w.places (λ p. refl) ∙ ap (option_map (restart_place catalogue)) there,
              matches (restart_place catalogue place) (ap (λ (e : DurableState). apply (start_record e) e) (sym folds)) (ap (λ n. Some (start catalogue n place.durable)) place_is ∙ ap (λ (e : DurableState). Some (start catalogue id e)) (sym folds)),
            ))))

        begins : Placed catalogue id p w → Held catalogue begun
        begins (place, there, Matches.new b u is) = starts_new place there b is
        begins (place, there, Matches.ran folds up kept alike) = starts_again place there folds (up ∙ ap (option_map (site_from no_port)) none)

      pub starts : Held catalogue begun
      starts = go (process_of id c.processes) refl
        where
          by_life : (p : Process) → process_of id c.processes ≡ Some p → p.up ≡ None → (b : Bool) → ((durable_in catalogue p.id p.batches).life == 2 ^ 32 - 1) ≡ b → Held catalogue begun
          by_life p at none true e = stays p at (rw (none, e) refl)
          by_life p at none false e = begins p at none e (h.linked.processes id p at)

          by_up : (p : Process) → process_of id c.processes ≡ Some p → (u : Option SiteState) → p.up ≡ u → Held catalogue begun
          by_up p at (Some x) e = stays p at (rw e refl)
          by_up p at None e = by_life p at e ((durable_in catalogue p.id p.batches).life == 2 ^ 32 - 1) refl

          go : (o : Option Process) → process_of id c.processes ≡ o → Held catalogue begun
          go None e = same c h (change_process id (start_process catalogue sites) c.processes) (none_placed id (start_process catalogue sites) (keeps_id sites) c.processes w h.linked.processes e)
          go (Some p) e = by_up p e p.up refl
