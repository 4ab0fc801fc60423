-- What happened to a process that was killed after some datagrams.
use Rattle.std.proofs.Common.{◌≡◌, ◌∙◌, ap, sym, subst, ℕ, Bool, true, false, List, [], ◌∷◌, ◌++◌, map, refl, take, drop, append-nil}
use Rattle.std.specs.Prelude.{Option, Some, None, IfSome, option_map, option_and_then}
use Rattle.std.specs.List.{AllByRecursion}
use Rattle.std.proofs.lemmas.List.{append_assoc, map-append, take-append-drop}
use Rattle.vp_model.specs.Types.{LogRecord}
use Rattle.vp_model.specs.Words.{keys, for_each, for_some}
use Rattle.vp_model.specs.Catalogue.{Catalogue, sites_of}
use Rattle.vp_model.specs.Site.{SiteState}
use Rattle.vp_model.specs.Step.{durable_of}
use Rattle.vp_outside.specs.declared.datagram.Datagram.{Datagram}
use Rattle.vp_runs.specs.declared.arrival.Arrival.{Arrival}
use Rattle.vp_runs.specs.declared.arrival.Arrival.TheVariants.{Bad, Stray, Stops, Gives}
use Rattle.vp_runs.specs.Arrivals.{arrival}
use Rattle.vp_runs.specs.Keeping.{durable_in}
use Rattle.vp_runs.specs.Turns.{turn_on}
use Rattle.vp_runs.specs.Runs.{NodeState, NodeRun, with_turn, start_of, after_turn, one_turn, node_run}
use Rattle.vp_network.specs.Cluster.{Process, ClusterState, Happening, new_cluster, cluster, process_of, running, known_catalogue, end_process, dead, broken_turn, whose, after, MayAlone, May, MayAll}
use Rattle.vp_network.specs.Lives.{happenings_of_life, Lives}
use Rattle.vp_network.specs.Ends.{RunsBreak, RunsEnd, LivesFollow}
use Rattle.vp_network.specs.Together.{MayAllAlone}
use Rattle.vp_network.proofs.Lives.{goes, stays, runs_happen}
use Rattle.vp_network.proofs.Linked.{process-same}
use Rattle.vp_runs.proofs.Runs.{runs_go_on}
use Rattle.std.specs.Option.{option_map_or}

-- ---- lists of happenings

module _ (catalogue : Catalogue) where
  pub may_front : (xs ys : List Happening) (c : ClusterState) → MayAll catalogue (xs ++ ys) c → MayAll catalogue xs c
  may_front [] ys c h = tt
  may_front (x ∷ xs) ys c h = (h.0, may_front xs ys (after catalogue x c) h.1)

  pub may_then : (xs : List Happening) (y : Happening) (c : ClusterState) → MayAll catalogue xs c → May catalogue y (for_each xs (after catalogue) c) → MayAll catalogue (xs ++ y ∷ []) c
  may_then [] y c h m = (m, tt)
  may_then (x ∷ xs) y c h m = (h.0, may_then xs y (after catalogue x c) h.1 m)

  pub alone_then : (xs : List Happening) (y : Happening) (c : ClusterState) → MayAllAlone catalogue xs c → MayAlone catalogue y (for_each xs (after catalogue) c) → MayAllAlone catalogue (xs ++ y ∷ []) c
  alone_then [] y c h m = (m, tt)
  alone_then (x ∷ xs) y c h m = (h.0, alone_then xs y (after catalogue x c) h.1 m)

  pub then_one : (xs : List Happening) (y : Happening) (c : ClusterState) → for_each (xs ++ y ∷ []) (after catalogue) c ≡ after catalogue y (for_each xs (after catalogue) c)
  then_one [] y c = refl
  then_one (x ∷ xs) y c = then_one xs y (after catalogue x c)

abbrev AreOf : ℕ → List Happening → Type 0
AreOf id happenings = AllByRecursion (λ h. whose h ≡ id) happenings

pub all_then : (id : ℕ) (xs : List Happening) (y : Happening) → AreOf id xs → whose y ≡ id → AreOf id (xs ++ y ∷ [])
all_then id [] y h m = (m, tt)
all_then id (x ∷ xs) y h m = (h.0, all_then id xs y h.1 m)

come_of : (id : ℕ) (arrived : List Datagram) → AreOf id (map (Happening.Comes id) arrived)
come_of id [] = tt
come_of id (d ∷ arrived) = (refl, come_of id arrived)

pub lived_of : (id : ℕ) (sites : List (ℕ × ℕ)) (arrived : List Datagram) → AreOf id (happenings_of_life id sites arrived)
lived_of id sites arrived = (refl, come_of id arrived)

pub lived_front : (catalogue : Catalogue) (id : ℕ) (sites : List (ℕ × ℕ)) (front rest arrived : List Datagram) (c : ClusterState) → arrived ≡ front ++ rest → MayAll catalogue (happenings_of_life id sites arrived) c → MayAll catalogue (happenings_of_life id sites front) c
lived_front catalogue id sites front rest arrived c is h =
    may_front catalogue (happenings_of_life id sites front) (map (Happening.Comes id) rest) c
    (subst (λ (xs : List Happening). MayAll catalogue xs c) (ap (happenings_of_life id sites) is ∙ ap (λ (xs : List Happening). Happening.Starts id sites ∷ xs) (map-append (Happening.Comes id) front rest)) h)

come_alone : (catalogue : Catalogue) (id : ℕ) (arrived : List Datagram) (c : ClusterState) → MayAllAlone catalogue (map (Happening.Comes id) arrived) c
come_alone catalogue id [] c = tt
come_alone catalogue id (d ∷ arrived) c = (tt, come_alone catalogue id arrived (after catalogue (Happening.Comes id d) c))

lived_alone : (catalogue : Catalogue) (id : ℕ) (sites : List (ℕ × ℕ)) (arrived : List Datagram) (c : ClusterState) → keys sites ≡ sites_of catalogue → MayAllAlone catalogue (happenings_of_life id sites arrived) c
lived_alone catalogue id sites arrived c e = (e, come_alone catalogue id arrived (after catalogue (Happening.Starts id sites) c))

-- ---- a run until it stopped

module _ (all : Catalogue) (sites : List (ℕ × ℕ)) where
  abbrev here : Catalogue
  here = record all { sites = sites }

  abbrev over : List Datagram → NodeRun → NodeRun
  over arrived run = for_each arrived (one_turn here) run

  ended_same : (arrived : List Datagram) (run : NodeRun) → run.stopped ≡ true → over arrived run ≡ run
  ended_same [] run e = refl
  ended_same (d ∷ arrived) run e = ap (over arrived) (stays all sites d run e) ∙ ended_same arrived run e

  -- a turn that ends a run leaves all else as it was
  quiet : (node : NodeState) (what : Arrival) → (turn_on here node.site what).stop ≡ true → (after_turn node (turn_on here node.site what) ≡ node) × ((turn_on here node.site what).datagrams ≡ [])
  unfolding turn_on
  quiet node (Bad at) e = cc
  quiet node Stray e = cc
  quiet node Stops e = (refl, refl)
  quiet node (Gives given) e = cc

  -- the run as it was before it stopped
  pub record Settled (arrived : List Datagram) (run : NodeRun) : Type 0 where
    pub front : List Datagram
    pub rest : List Datagram
    pub is : arrived ≡ front ++ rest
    pub going : (over front run).stopped ≡ false
    pub node : (over front run).node ≡ (over arrived run).node
    pub datagrams : (over front run).datagrams ≡ (over arrived run).datagrams

  pub settle : (arrived : List Datagram) (run : NodeRun) → run.stopped ≡ false → Settled arrived run
  settle [] run on = record { front = []; rest = []; is = refl; going = on; node = refl; datagrams = refl }
  settle (d ∷ arrived) run on = go (λ e. settle arrived (one_turn here d run) e) (one_turn here d run).stopped refl
    where
      go : ((one_turn here d run).stopped ≡ false → Settled arrived (one_turn here d run)) → (b : Bool) → (one_turn here d run).stopped ≡ b → Settled (d ∷ arrived) run
      go more false e = let s = more e in record { front = d ∷ s.front; rest = s.rest; is = ap (λ xs. d ∷ xs) s.is; going = s.going; node = s.node; datagrams = s.datagrams }
      go more true e =
          let turn = turn_on here run.node.site (arrival here run.node.site.id d) in
          let is = goes all sites d run on in
          let stop : turn.stop ≡ true = ap (λ (r : NodeRun). r.stopped) (sym is) ∙ e in
          let q = quiet run.node (arrival here run.node.site.id d) stop in
          let same = ended_same arrived (one_turn here d run) e ∙ is in
          record {
            front = [];
            rest = d ∷ arrived;
            is = refl;
            going = on;
            node = sym (ap (λ (r : NodeRun). r.node) same ∙ q.0);
            datagrams = sym (ap (λ (r : NodeRun). r.datagrams) same ∙ ap (λ ds. run.datagrams ++ ds) q.1 ∙ append-nil run.datagrams);
          }

-- ---- killed between two turns

-- a process that is where the run of a node is, is killed
pub dies : (catalogue : Catalogue) (c d : ClusterState) (id : ℕ) (p : Process) (sites : List (ℕ × ℕ)) (run : NodeRun) (left : List (List LogRecord)) → Lives catalogue c id p sites run d → durable_in catalogue id left ≡ durable_of run.node.site
    → MayAlone catalogue (Happening.Dies id left) d × (process_of id (after catalogue (Happening.Dies id left) d).processes ≡ Some (record p { sites = sites; batches = left; up = None })) × ((after catalogue (Happening.Dies id left) d).handed ≡ d.handed)
unfolding after
dies catalogue c d id p sites run left l folds =
    let up : running id d ≡ Some run.node.site = ap (option_and_then (λ (p : Process). p.up)) l.process_is in
    let died : for_some (running id d) (dead id left) d ≡ dead id left run.node.site d = ap (λ (o : Option SiteState). for_some o (dead id left) d) up in (
      subst (λ (o : Option SiteState). IfSome o (λ site. durable_in catalogue id left ≡ durable_of site)) (sym up) folds,
      ap (λ (e : ClusterState). process_of id e.processes) died ∙ process-same id (end_process left) d.processes (λ p. refl) ∙ ap (option_map (end_process left)) l.process_is,
      ap (λ (e : ClusterState). e.handed) died,
    )

pub runs_end : RunsEnd
unfolding node_run
runs_end catalogue c id p sites arrived n left at none lives folds =
    let here = record catalogue { sites = sites } in
    let came = take n arrived in
    let s = settle catalogue sites came (start_of here id p.batches) refl in
    let later = for_each (happenings_of_life id sites s.front) (after catalogue) c in
    let l : Lives catalogue c id p sites (node_run here id p.batches s.front) later = runs_happen catalogue c id p sites s.front at none lives s.going in
    let left_folds : durable_in catalogue id left ≡ durable_of (node_run here id p.batches s.front).node.site = folds ∙ ap (λ (n : NodeState). durable_of n.site) (sym s.node) in
    let d = dies catalogue c later id p sites (node_run here id p.batches s.front) left l left_folds in
    let end = then_one catalogue (happenings_of_life id sites s.front) (Happening.Dies id left) c in
    let is : arrived ≡ s.front ++ (s.rest ++ drop n arrived) = sym (take-append-drop n arrived) ∙ ap (λ ds. ds ++ drop n arrived) s.is ∙ append_assoc s.front s.rest (drop n arrived) in
    record {
      happenings = happenings_of_life id sites s.front ++ Happening.Dies id left ∷ [];
      are_of = all_then id (happenings_of_life id sites s.front) (Happening.Dies id left) (lived_of id sites s.front) refl;
      alone = λ e. alone_then catalogue (happenings_of_life id sites s.front) (Happening.Dies id left) c (lived_alone catalogue id sites s.front c e) d.0;
      may = λ m. may_then catalogue (happenings_of_life id sites s.front) (Happening.Dies id left) c (lived_front catalogue id sites s.front (s.rest ++ drop n arrived) arrived c is m) (d.0, tt);
      p = record p { sites = sites; batches = left; up = None };
      at = ap (λ (e : ClusterState). process_of id e.processes) end ∙ d.1;
      log = refl;
      down = refl;
      handed_is = ap (λ (e : ClusterState). e.handed) end ∙ d.2 ∙ l.handed_is ∙ ap (λ ds. c.handed ++ ds) s.datagrams;
    }

-- ---- killed within a turn

last_may : (catalogue : Catalogue) (xs : List Happening) (y : Happening) (c : ClusterState) → MayAll catalogue (xs ++ y ∷ []) c → May catalogue y (for_each xs (after catalogue) c)
last_may catalogue [] y c h = h.0
last_may catalogue (x ∷ xs) y c h = last_may catalogue xs y (after catalogue x c) h.1

pub breaks : (catalogue : Catalogue) (c d : ClusterState) (id : ℕ) (p : Process) (sites : List (ℕ × ℕ)) (run : NodeRun) (last : Datagram) (left : List (List LogRecord)) (sent : ℕ) → Lives catalogue c id p sites run d
    → let here = record catalogue { sites = sites } in durable_in catalogue id left ≡ durable_of (turn_on here run.node.site (arrival here run.node.site.id last)).site
    → MayAlone catalogue (Happening.Breaks id last left sent) d × (process_of id (after catalogue (Happening.Breaks id last left sent) d).processes ≡ Some (record p { sites = sites; batches = left; up = None }))
    × ((after catalogue (Happening.Breaks id last left sent) d).handed ≡ d.handed ++ take sent (turn_on (record catalogue { sites = sites }) run.node.site (arrival (record catalogue { sites = sites }) run.node.site.id last)).datagrams)
unfolding after
breaks catalogue c d id p sites run last left sent l folds =
    let here : Catalogue = record catalogue { sites = sites } in
    let up : running id d ≡ Some run.node.site = ap (option_and_then (λ (p : Process). p.up)) l.process_is in
    let known_is : known_catalogue catalogue id d ≡ here = ap (λ (o : Option Process). record catalogue { sites = option_map_or (λ (p : Process). p.sites) o [] }) l.process_is in
    let broke : for_some (running id d) (broken_turn (known_catalogue catalogue id d) id last left sent) d ≡ broken_turn here id last left sent run.node.site d =
    ap (λ (o : Option SiteState). for_some o (broken_turn (known_catalogue catalogue id d) id last left sent) d) up ∙ ap (λ (k : Catalogue). broken_turn k id last left sent run.node.site d) known_is in (
      subst (λ (o : Option SiteState). IfSome o (λ site. durable_in catalogue id left ≡ durable_of (turn_on (known_catalogue catalogue id d) site (arrival (known_catalogue catalogue id d) site.id last)).site)) (sym up)
          (subst (λ (k : Catalogue). durable_in catalogue id left ≡ durable_of (turn_on k run.node.site (arrival k run.node.site.id last)).site) (sym known_is) folds),
      ap (λ (e : ClusterState). process_of id e.processes) broke ∙ process-same id (end_process left) d.processes (λ p. refl) ∙ ap (option_map (end_process left)) l.process_is,
      ap (λ (e : ClusterState). e.handed) broke,
    )

pub runs_break : RunsBreak
runs_break catalogue c id p sites front last left sent at none lives going folds =
    let here : Catalogue = record catalogue { sites = sites } in
    let run = node_run here id p.batches front in
    let later = for_each (happenings_of_life id sites front) (after catalogue) c in
    let l : Lives catalogue c id p sites run later = runs_happen catalogue c id p sites front at none lives going in
    let turn : node_run here id p.batches (front ++ last ∷ []) ≡ with_turn last (arrival here run.node.site.id last) (turn_on here run.node.site (arrival here run.node.site.id last)) run = runs_go_on here id p.batches front last ∙ goes catalogue sites last run going in
    let b = breaks catalogue c later id p sites run last left sent l (folds ∙ ap (λ (r : NodeRun). durable_of r.node.site) turn) in
    let end = then_one catalogue (happenings_of_life id sites front) (Happening.Breaks id last left sent) c in
    let more : List Datagram = take sent (turn_on here run.node.site (arrival here run.node.site.id last)).datagrams in
    let all : happenings_of_life id sites (front ++ last ∷ []) ≡ happenings_of_life id sites front ++ Happening.Comes id last ∷ [] = ap (λ (xs : List Happening). Happening.Starts id sites ∷ xs) (map-append (Happening.Comes id) front (last ∷ [])) in
    record {
      happenings = happenings_of_life id sites front ++ Happening.Breaks id last left sent ∷ [];
      are_of = all_then id (happenings_of_life id sites front) (Happening.Breaks id last left sent) (lived_of id sites front) refl;
      alone = λ e. alone_then catalogue (happenings_of_life id sites front) (Happening.Breaks id last left sent) c (lived_alone catalogue id sites front c e) b.0;
      may = λ m.
          let each : MayAll catalogue (happenings_of_life id sites front ++ Happening.Comes id last ∷ []) c = subst (λ (xs : List Happening). MayAll catalogue xs c) all m in
          may_then catalogue (happenings_of_life id sites front) (Happening.Breaks id last left sent) c (may_front catalogue (happenings_of_life id sites front) (Happening.Comes id last ∷ []) c each) (b.0, (last_may catalogue (happenings_of_life id sites front) (Happening.Comes id last) c each).1);
      p = record p { sites = sites; batches = left; up = None };
      at = ap (λ (e : ClusterState). process_of id e.processes) end ∙ b.1;
      log = refl;
      down = refl;
      handed_is = ap (λ (e : ClusterState). e.handed) end ∙ b.2 ∙ ap (λ ds. ds ++ more) l.handed_is ∙ append_assoc c.handed run.datagrams more;
    }

-- ---- one life after the other

alone_both : (catalogue : Catalogue) (xs ys : List Happening) (c : ClusterState) → MayAllAlone catalogue xs c → MayAllAlone catalogue ys (for_each xs (after catalogue) c) → MayAllAlone catalogue (xs ++ ys) c
alone_both catalogue [] ys c h m = m
alone_both catalogue (x ∷ xs) ys c h m = (h.0, alone_both catalogue xs ys (after catalogue x c) h.1 m)

pub lives_follow : LivesFollow
unfolding cluster
lives_follow catalogue lives id sites arrived left handed so_far told life = alone_both catalogue lives life.happenings (new_cluster catalogue) so_far (life.alone told)
