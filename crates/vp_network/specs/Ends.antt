-- The life of a process until it no longer runs, as happenings.
use Rattle.std.specs.Prelude.{◌≡◌, ℕ, ◌-◌, ◌^◌, false, ◌==◌, List, [], ◌∷◌, ◌++◌, take, Some, None}
use Rattle.std.specs.List.{AllByRecursion}
use Rattle.vp_model.specs.Types.{LogRecord}
use Rattle.vp_model.specs.Words.{keys, for_each}
use Rattle.vp_model.specs.Catalogue.{Catalogue, sites_of}
use Rattle.vp_model.specs.Step.{durable_of}
use Rattle.vp_outside.specs.declared.datagram.Datagram.{Datagram}
use Rattle.vp_runs.specs.Arrivals.{arrival}
use Rattle.vp_runs.specs.Keeping.{durable_in}
use Rattle.vp_runs.specs.Turns.{turn_on}
use Rattle.vp_runs.specs.Runs.{node_run}
use Rattle.vp_network.specs.Cluster.{Process, ClusterState, Happening, new_cluster, process_of, whose, after, cluster, MayAll}
use Rattle.vp_network.specs.Lives.{happenings_of_life}
use Rattle.vp_network.specs.Together.{MayAllAlone}

-- What happened to a process that started and got these datagrams, until its end. Its process allows it, and it may happen if they may
-- come. After it the process no longer runs, its log has these batches, and these datagrams have been handed over.
pub record Happened (catalogue : Catalogue) (c : ClusterState) (id : ℕ) (sites : List (ℕ × ℕ)) (arrived : List Datagram) (left : List (List LogRecord)) (handed : List Datagram) : Type 0 where
  pub happenings : List Happening
  pub are_of : AllByRecursion (λ h. whose h ≡ id) happenings
  pub alone : keys sites ≡ sites_of catalogue → MayAllAlone catalogue happenings c
  pub may : MayAll catalogue (happenings_of_life id sites arrived) c → MayAll catalogue happenings c
  pub p : Process
  pub at : process_of id (for_each happenings (after catalogue) c).processes ≡ Some p
  pub log : p.batches ≡ left
  pub down : p.up ≡ None
  pub handed_is : (for_each happenings (after catalogue) c).handed ≡ c.handed ++ handed

-- If datagrams came to a process that didn't run before, and a log is left that folds to the durable part of its site after so many of
-- them, they came, and it was killed after them.
abbrev pub RunsEnd : Type 0
RunsEnd = (catalogue : Catalogue) (c : ClusterState) (id : ℕ) (p : Process) (sites : List (ℕ × ℕ)) (arrived : List Datagram) (n : ℕ) (left : List (List LogRecord)) → process_of id c.processes ≡ Some p → p.up ≡ None
    → ((durable_in catalogue id p.batches).life == 2 ^ 32 - 1) ≡ false → durable_in catalogue id left ≡ durable_of (node_run (record catalogue { sites = sites }) id p.batches (take n arrived)).node.site
    → Happened catalogue c id sites arrived left (node_run (record catalogue { sites = sites }) id p.batches (take n arrived)).datagrams

-- what is handed over if so many datagrams of the last turn were
abbrev pub up_to : Catalogue → ℕ → List (ℕ × ℕ) → List (List LogRecord) → List Datagram → Datagram → ℕ → List Datagram
up_to catalogue id sites batches front last sent =
    let here : Catalogue = record catalogue { sites = sites } in
    let run = node_run here id batches front in
    run.datagrams ++ take sent (turn_on here run.node.site (arrival here run.node.site.id last)).datagrams

-- If the log that is left folds to the durable part of the site after the turn of the last datagram, and so many datagrams of that turn
-- were handed over, the process was killed within that turn.
abbrev pub RunsBreak : Type 0
RunsBreak = (catalogue : Catalogue) (c : ClusterState) (id : ℕ) (p : Process) (sites : List (ℕ × ℕ)) (front : List Datagram) (last : Datagram) (left : List (List LogRecord)) (sent : ℕ) → process_of id c.processes ≡ Some p → p.up ≡ None
    → ((durable_in catalogue id p.batches).life == 2 ^ 32 - 1) ≡ false → (node_run (record catalogue { sites = sites }) id p.batches front).stopped ≡ false
    → durable_in catalogue id left ≡ durable_of (node_run (record catalogue { sites = sites }) id p.batches (front ++ last ∷ [])).node.site
    → Happened catalogue c id sites (front ++ last ∷ []) left (up_to catalogue id sites p.batches front last sent)

-- If what happened to a process so far may happen, whatever the network brings, so may that with its next life.
abbrev pub LivesFollow : Type 0
LivesFollow = (catalogue : Catalogue) (lives : List Happening) (id : ℕ) (sites : List (ℕ × ℕ)) (arrived : List Datagram) (left : List (List LogRecord)) (handed : List Datagram) → MayAllAlone catalogue lives (new_cluster catalogue) → keys sites ≡ sites_of catalogue
    → (life : Happened catalogue (cluster catalogue lives) id sites arrived left handed) → MayAllAlone catalogue (lives ++ life.happenings) (new_cluster catalogue)
