-- A turn of a process, whole or broken, is events of the schedule.
use Rattle.std.proofs.Common.{◌≡◌, ◌∙◌, ap, sym, subst, ℕ, true, false, List, [], ◌∷◌, ◌++◌, take, refl, append-nil}
use Rattle.std.specs.Prelude.{Option, Some, None, IfSome, option_map, option_and_then}
use Rattle.std.specs.List.{Contains}
use Rattle.vp_catalog.specs.Document.{IsCatalogue}
use Rattle.vp_model.specs.Types.{LogRecord, Input}
use Rattle.vp_model.specs.Words.{keys, for_each, for_some}
use Rattle.vp_model.specs.Catalogue.{Catalogue, sites_of}
use Rattle.vp_model.specs.Durable.{apply_all}
use Rattle.vp_model.specs.Site.{SiteState, Stepped}
use Rattle.vp_model.specs.Step.{step, durable_of}
use Rattle.vp_model.specs.World.{Run}
use Rattle.vp_laws.specs.ShapeLaws.{IsWorld}
use Rattle.vp_laws.proofs.Lists.Members.{Has}
use Rattle.vp_laws.proofs.Table.Durable.{step-folds}
use Rattle.vp_outside.specs.declared.datagram.Datagram.{Datagram}
use Rattle.vp_runs.specs.declared.arrival.Arrival.{Arrival}
use Rattle.vp_runs.specs.declared.arrival.Arrival.TheVariants.{Bad, Stray, Stops, Gives}
use Rattle.vp_runs.specs.Arrivals.{arrival}
use Rattle.vp_runs.specs.Keeping.{durable_in, kept_with}
use Rattle.vp_runs.specs.Turns.{step_turn, turn_on, quiet_turn, datagrams_of}
use Rattle.vp_runs.proofs.Checkpoints.{steps_fold}
use Rattle.vp_ports.specs.Ports.{AreAlike}
use Rattle.vp_ports.proofs.Catalogues.{steps_are_same}
use Rattle.std.specs.Option.{option_map_or}
use Rattle.vp_network.specs.Cluster.{Process, known_catalogue, ClusterState, Happening, process_of, change_process, running, end_process, dead, turn_process, act, acts_on, with_turn, whole_turn, broken_turn, after, IsHonest, IsLeft, May, MayAll}
use Rattle.vp_network.proofs.Extending.{run_over}
use Rattle.vp_network.proofs.Coming.{gives}
use Rattle.vp_network.proofs.Linked.{process-same, changed_twice, changed_alike, Placed, Runs, runs}
use Rattle.vp_network.proofs.Acted.{stands, linked_acted}
use Rattle.vp_network.proofs.Given.{does}
use Rattle.vp_network.proofs.Held.{Held, with_processes, take_has, take_none, world_is, more, same, one_placed, kill, starts}

module _ (catalogue : Catalogue) (k : IsCatalogue catalogue) (id : ℕ) (c : ClusterState) (h : Held catalogue c) (d : Datagram) (honest : IsHonest (known_catalogue catalogue id c) (Contains c.handed) id d) (x : SiteState) (up : running id c ≡ Some x) where
  abbrev run : Run
  run = run_over catalogue h.events

  r : Runs catalogue id c run.world x
  r = runs catalogue id c run.world x h.linked.processes up

  world : IsWorld catalogue run.world
  world = world_is catalogue k c h

  abbrev here : Catalogue
  here = known_catalogue catalogue id c

  alike : AreAlike catalogue here
  alike = record { sites = sym r.alike ∙ ap (λ (o : Option Process). keys (option_map_or (λ (p : Process). p.sites) o [])) (sym r.at); records = refl }

  step_same : (given : Input) → step catalogue x given ≡ step here x given
  step_same given = steps_are_same catalogue here alike x given

  stepped : (given : Input) → arrival here x.id d ≡ Gives given → (left : Process → Process) → ((p : Process) → (left p).id ≡ p.id) → keys (left r.p).sites ≡ sites_of catalogue → (left r.p).up ≡ Some (step catalogue x given).site
      → durable_in catalogue id (left r.p).batches ≡ durable_of (step catalogue x given).site → (datagrams : List Datagram) → ((d : Datagram) → Has datagrams d → Has (datagrams_of here x.id (step catalogue x given).effects) d)
      → Held catalogue (with_turn id left datagrams (act x.id given (step catalogue x given).effects ∷ []) c)
  stepped given comes left left_id left_alike left_up left_folds datagrams of_turn =
      let form = gives here x.id d given comes in
      let at_id : arrival here id d ≡ Gives given = ap (λ n. arrival here n d) (sym (stands catalogue id c run.world x world r).id_is) ∙ comes in
      let e = does catalogue here id c run h.linked world x r d honest given form at_id in
      more catalogue c (with_turn id left datagrams (act x.id given (step catalogue x given).effects ∷ []) c) h e.e e.single e.event_is
      (linked_acted catalogue here k id c run h.linked world x r given form e left left_id left_alike left_up left_folds datagrams of_turn)

  nothing_more : (ps : List Process) (ds : List Datagram) → ds ≡ [] → with_processes catalogue ps c ≡ record { processes = ps; handed = c.handed ++ ds; acts = c.acts ++ [] }
  nothing_more ps ds e = rw (e, append-nil c.handed, append-nil c.acts) refl

  -- a process that does nothing
  unchanged : Held catalogue (with_turn id (turn_process x (quiet_turn x false)) [] [] c)
  unchanged =
      let ps = change_process id (turn_process x (quiet_turn x false)) c.processes in
      subst (Held catalogue) (nothing_more ps [] refl)
      (same catalogue c h ps
      (one_placed catalogue id (turn_process x (quiet_turn x false)) (λ p. refl) c.processes run.world run.world h.linked.processes (λ k n. refl) r.p r.at
      (subst (λ q. Placed catalogue id q run.world) (ap (λ u. record r.p { up = u }) r.up) (h.linked.processes id r.p r.at))))

  -- a process that ends
  ends : Held catalogue (with_turn id (turn_process x (quiet_turn x true)) [] [] c)
  ends =
      let ps = change_process id (turn_process x (quiet_turn x true)) c.processes in
      subst (Held catalogue) (nothing_more ps [] refl)
      (subst (λ qs. Held catalogue (with_processes catalogue qs c)) (same_change r.p r.at) (kill catalogue id c h r.p.batches x up (r.folds ∙ sym r.kept)))
    where
      same_change : (p : Process) → process_of id c.processes ≡ Some p → change_process id (end_process p.batches) c.processes ≡ change_process id (turn_process x (quiet_turn x true)) c.processes
      same_change p at = changed_alike id (end_process p.batches) (turn_process x (quiet_turn x true)) c.processes p at refl

  folds_on : (given : Input) → durable_in catalogue id (kept_with (durable_of (step catalogue x given).site) (step catalogue x given).effects.records r.p.batches) ≡ durable_of (step catalogue x given).site
  folds_on given =
      let o = step catalogue x given in
      steps_fold catalogue id (durable_of o.site) o.effects.records r.p.batches (ap (apply_all o.effects.records) (r.folds ∙ sym r.kept) ∙ step-folds catalogue x given)

  pub whole : Held catalogue (whole_turn here id d x c)
  unfolding turn_on
  whole = go (arrival here x.id d) refl
    where
      go : (what : Arrival) → arrival here x.id d ≡ what → Held catalogue (with_turn id (turn_process x (turn_on here x what)) (turn_on here x what).datagrams (acts_on here x what) c)
      go (Bad at) e = unchanged
      go Stray e = unchanged
      go Stops e = ends
      go (Gives given) e =
          subst (λ (o : Stepped). Held catalogue (with_turn id (turn_process x (step_turn here x.id o)) (datagrams_of here x.id o.effects) (act x.id given o.effects ∷ []) c)) (step_same given)
          (stepped given e (turn_process x (step_turn here x.id (step catalogue x given))) (λ p. refl) r.alike refl (folds_on given) (datagrams_of here x.id (step catalogue x given).effects) (λ d h. h))

  -- ---- a kill within the turn

  module _ (batches : List (List LogRecord)) (sent : ℕ) where
    abbrev alive : SiteState → Process → Process
    alive y p = record p { up = Some y }

    breaks_quiet : durable_in catalogue id batches ≡ durable_of x → Held catalogue (with_turn id (end_process batches) (take sent []) [] c)
    breaks_quiet left = subst (Held catalogue) (nothing_more (change_process id (end_process batches) c.processes) (take sent []) (take_none sent [] refl)) (kill catalogue id c h batches x up left)

    breaks_step : (given : Input) → arrival here x.id d ≡ Gives given → durable_in catalogue id batches ≡ durable_of (step catalogue x given).site
        → Held catalogue (with_turn id (end_process batches) (take sent (datagrams_of here x.id (step catalogue x given).effects)) (act x.id given (step catalogue x given).effects ∷ []) c)
    unfolding turn_on
    breaks_step given e left =
        let o = step catalogue x given in
        let ds = datagrams_of here x.id o.effects in
        let f = turn_process x (step_turn here x.id o) in
        let c1 = with_turn id f (take sent ds) (act x.id given o.effects ∷ []) c in
        let runs_now : running id c1 ≡ Some o.site = ap (option_and_then (λ (p : Process). p.up)) (process-same id f c.processes (λ p. refl) ∙ ap (option_map f) r.at) in
        let killed = kill catalogue id c1 (stepped given e f (λ p. refl) r.alike refl (folds_on given) (take sent ds) (λ d h. take_has sent ds d h)) batches o.site runs_now left in
        subst (Held catalogue) (ap (λ ps. with_processes catalogue ps c1) (changed_twice id (end_process batches) f (λ p. refl) c.processes)) killed

    pub breaks : IsLeft catalogue id batches (turn_on here x (arrival here x.id d)).site → Held catalogue (broken_turn here id d batches sent x c)
    unfolding turn_on
    breaks left = go (arrival here x.id d) refl left
      where
        go : (what : Arrival) → arrival here x.id d ≡ what → durable_in catalogue id batches ≡ durable_of (turn_on here x what).site
            → Held catalogue (with_turn id (end_process batches) (take sent (turn_on here x what).datagrams) (acts_on here x what) c)
        go (Bad at) e left = breaks_quiet left
        go Stray e left = breaks_quiet left
        go Stops e left = breaks_quiet left
        go (Gives given) e left =
            subst (λ (o : Stepped). Held catalogue (with_turn id (end_process batches) (take sent (datagrams_of here x.id o.effects)) (act x.id given o.effects ∷ []) c)) (step_same given)
            (breaks_step given e (left ∙ ap (λ (o : Stepped). durable_of o.site) (sym (step_same given))))

-- ---- every happening

pub happens_on : (catalogue : Catalogue) → IsCatalogue catalogue → (what : Happening) (c : ClusterState) → Held catalogue c → May catalogue what c → Held catalogue (after catalogue what c)
unfolding after
happens_on catalogue k (Happening.Starts id sites) c h may = starts catalogue id c h sites may.0
happens_on catalogue k (Happening.Dies id left) c h may = go (running id c) refl may.0
  where
    go : (o : Option SiteState) → running id c ≡ o → IfSome o (λ site. IsLeft catalogue id left site) → Held catalogue (for_some o (dead id left) c)
    go None e is_left = h
    go (Some x) e is_left = kill catalogue id c h left x e is_left
happens_on catalogue k (Happening.Comes id d) c h may = go (running id c) refl
  where
    go : (o : Option SiteState) → running id c ≡ o → Held catalogue (for_some o (whole_turn (known_catalogue catalogue id c) id d) c)
    go None e = h
    go (Some x) e = whole catalogue k id c h d may.1 x e
happens_on catalogue k (Happening.Breaks id d left sent) c h may = go (running id c) refl may.0
  where
    go : (o : Option SiteState) → running id c ≡ o → IfSome o (λ site. IsLeft catalogue id left (turn_on (known_catalogue catalogue id c) site (arrival (known_catalogue catalogue id c) site.id d)).site) → Held catalogue (for_some o (broken_turn (known_catalogue catalogue id c) id d left sent) c)
    go None e is_left = h
    go (Some x) e is_left = breaks catalogue k id c h d may.1 x e left sent is_left

pub all_happen : (catalogue : Catalogue) → IsCatalogue catalogue → (happenings : List Happening) (c : ClusterState) → Held catalogue c → MayAll catalogue happenings c → Held catalogue (for_each happenings (after catalogue) c)
all_happen catalogue k [] c h may = h
all_happen catalogue k (what ∷ happenings) c h may = all_happen catalogue k happenings (after catalogue what c) (happens_on catalogue k what c h may.0) may.1
