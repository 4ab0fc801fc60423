-- The processes of a cluster, a node for each site of one catalogue, and what happens to them.
use Rattle.std.specs.Prelude.{◌≡◌, ⊤, ℕ, ◌-◌, ◌^◌, ◌==◌, if◌then◌else◌, is_some, List, [], ◌∷◌, ◌++◌, take, map, find, Option, Some, None, IfSome, option_and_then}
use Rattle.std.specs.List.{Contains}
use Rattle.std.specs.Option.{option_map_or}
use Rattle.vp_model.specs.Types.{LogRecord, Input, Commit, Sent, Reply, Message, Effects}
use Rattle.vp_model.specs.Types.input
use Rattle.vp_model.specs.Words.{◌|>◌, keys, for_each, for_some, change_first}
use Rattle.vp_model.specs.Catalogue.{Catalogue, sites_of}
use Rattle.vp_model.specs.Site.{SiteState}
use Rattle.vp_model.specs.Step.{step, durable_of}
use Rattle.vp_outside.specs.declared.datagram.Datagram.{Datagram}
use Rattle.vp_runs.specs.declared.arrival.Arrival.{Arrival}
use Rattle.vp_runs.specs.declared.arrival.Arrival.TheVariants.{Bad, Stray, Stops, Gives}
use Rattle.vp_runs.specs.Arrivals.{arrival}
use Rattle.vp_runs.specs.Keeping.{durable_in}
use Rattle.vp_runs.specs.Turns.{Turn, turn_on}
use Rattle.vp_runs.specs.Runs.{start_node, after_turn}

-- ---- a cluster

-- A site's process: the sites with their ports, as its last start gave them, the batches of its log, and the site of its node while it
-- runs.
pub record Process : Type 0 where
  pub id : ℕ
  pub sites : List (ℕ × ℕ)
  pub batches : List (List LogRecord)
  pub up : Option SiteState

-- a step that a process did: its input and its effects
pub record Act : Type 0 where
  pub site : ℕ
  pub given : Input
  pub commits : List Commit
  pub messages : List Sent
  pub replies : List Reply

-- the processes, what they have handed to the network so far, and their steps, in order
pub record ClusterState : Type 0 where
  pub processes : List Process
  pub handed : List Datagram
  pub acts : List Act

-- no process has ever run, and each log is empty
abbrev pub new_process : ℕ → Process
new_process id = record { id = id; sites = []; batches = []; up = None }

abbrev pub new_cluster : Catalogue → ClusterState
new_cluster catalogue = record { processes = map new_process (sites_of catalogue); handed = []; acts = [] }

abbrev pub process_of : ℕ → List Process → Option Process
process_of id processes = find (λ p. p.id == id) processes

abbrev pub change_process : ℕ → (Process → Process) → List Process → List Process
change_process id f processes = change_first (λ p. p.id == id) f processes

-- the site of the process, while it runs
abbrev pub running : ℕ → ClusterState → Option SiteState
running id c = option_and_then (λ p. p.up) (process_of id c.processes)

-- the catalogue as the process knows it
abbrev pub known_catalogue : Catalogue → ℕ → ClusterState → Catalogue
known_catalogue catalogue id c = record catalogue { sites = option_map_or (λ (p : Process). p.sites) (process_of id c.processes) [] }

-- ---- what happens

pub data Happening : Type 0 where
  -- a process starts from its log, with these ports of the sites
  Starts : ℕ → List (ℕ × ℕ) → Happening
  -- a datagram comes to a process, and its turn is whole
  Comes : ℕ → Datagram → Happening
  -- A process is killed, between two turns or within one whose records are not in its log, so that nothing of that turn was handed over.
  -- Its log is left with these batches.
  Dies : ℕ → List (List LogRecord) → Happening
  -- A process is killed within the turn of this datagram, whose records are in its log, and so many datagrams of the turn were handed
  -- over.
  Breaks : ℕ → Datagram → List (List LogRecord) → ℕ → Happening

-- a process that runs already stays as it is, and so does one whose lives are spent
abbrev pub start_process : Catalogue → List (ℕ × ℕ) → Process → Process
start_process catalogue sites p =
    let node = start_node (record catalogue { sites = sites }) p.id p.batches in
    if is_some p.up
    then p
    else (if (durable_in catalogue p.id p.batches).life == 2 ^ 32 - 1 then p else record p { sites = sites; batches = node.batches; up = Some node.site })

-- the node after a turn; it no longer runs if the turn ends it
abbrev pub turn_process : SiteState → Turn → Process → Process
turn_process site turn p =
    let node = after_turn (record { site = site; batches = p.batches }) turn in
    record p { batches = node.batches; up = if turn.stop then None else Some node.site }

-- the process no longer runs, and its log has these batches
abbrev pub end_process : List (List LogRecord) → Process → Process
end_process left p = record p { batches = left; up = None }

-- the step of a turn that does one
abbrev pub act : ℕ → Input → Effects → Act
act site given e = record { site = site; given = given; commits = e.commits; messages = e.messages; replies = e.replies }

abbrev pub acts_on : Catalogue → SiteState → Arrival → List Act
acts_on catalogue site (Bad at) = []
acts_on catalogue site Stray = []
acts_on catalogue site Stops = []
acts_on catalogue site (Gives given) = act site.id given (step catalogue site given).effects ∷ []

-- a turn leaves the process like this, and hands these datagrams over
abbrev pub with_turn : ℕ → (Process → Process) → List Datagram → List Act → ClusterState → ClusterState
with_turn id left datagrams acts c =
    record { processes = change_process id left c.processes; handed = c.handed ++ datagrams; acts = c.acts ++ acts }

abbrev pub whole_turn : Catalogue → ℕ → Datagram → SiteState → ClusterState → ClusterState
whole_turn catalogue id d site c =
    let what = arrival catalogue site.id d in
    let turn = turn_on catalogue site what in
    with_turn id (turn_process site turn) turn.datagrams (acts_on catalogue site what) c

abbrev pub broken_turn : Catalogue → ℕ → Datagram → List (List LogRecord) → ℕ → SiteState → ClusterState → ClusterState
broken_turn catalogue id d left sent site c =
    let what = arrival catalogue site.id d in
    with_turn id (end_process left) (take sent (turn_on catalogue site what).datagrams) (acts_on catalogue site what) c

abbrev pub dead : ℕ → List (List LogRecord) → SiteState → ClusterState → ClusterState
dead id left site c = record c { processes = change_process id (end_process left) c.processes }

-- nothing comes to a process that doesn't run
unfoldable pub after : Catalogue → Happening → ClusterState → ClusterState
after catalogue (Happening.Starts id sites) c = record c { processes = change_process id (start_process catalogue sites) c.processes }
after catalogue (Happening.Comes id d) c = c |> for_some (running id c) (whole_turn (known_catalogue catalogue id c) id d)
after catalogue (Happening.Dies id left) c = c |> for_some (running id c) (dead id left)
after catalogue (Happening.Breaks id d left sent) c = c |> for_some (running id c) (broken_turn (known_catalogue catalogue id c) id d left sent)

unfoldable pub cluster : Catalogue → List Happening → ClusterState
cluster catalogue happenings = for_each happenings (after catalogue) (new_cluster catalogue)

-- ---- what may happen

-- the site of the process that it happens to
abbrev pub whose : Happening → ℕ
whose (Happening.Starts id sites) = id
whose (Happening.Comes id d) = id
whose (Happening.Dies id left) = id
whose (Happening.Breaks id d left sent) = id

-- the datagram that comes
abbrev pub datagram_of : Happening → Option Datagram
datagram_of (Happening.Starts id sites) = None
datagram_of (Happening.Comes id d) = Some d
datagram_of (Happening.Dies id left) = None
datagram_of (Happening.Breaks id d left sent) = Some d

-- a log that is left with these batches folds to the durable part of the site
abbrev pub IsLeft : Catalogue → ℕ → List (List LogRecord) → SiteState → Type 0
IsLeft catalogue id left site = durable_in catalogue id left ≡ durable_of site

-- What a process itself allows, whatever the network brings: it is started with ports of just the sites of the catalogue, and its disk
-- leaves a log that folds to the durable part of the site, after the turn in which it is killed or before it.
abbrev pub MayAlone : Catalogue → Happening → ClusterState → Type 0
MayAlone catalogue (Happening.Starts id sites) c = keys sites ≡ sites_of catalogue
MayAlone catalogue (Happening.Comes id d) c = ⊤
MayAlone catalogue (Happening.Dies id left) c = IfSome (running id c) (λ site. IsLeft catalogue id left site)
MayAlone catalogue (Happening.Breaks id d left sent) c =
    IfSome (running id c) (λ site. IsLeft catalogue id left (turn_on (known_catalogue catalogue id c) site (arrival (known_catalogue catalogue id c) site.id d)).site)

-- Peers are honest: what a process reads as a message of a site has the bytes of a datagram that was handed over, by any process, to any
-- port, and however often it came before. All else may come, from any port.
abbrev pub IsHonest : Catalogue → (Datagram → Type 0) → ℕ → Datagram → Type 0
IsHonest catalogue IsHanded id d =
    (from : ℕ) (message : Message) → arrival catalogue id d ≡ Gives (input.Message from message) → (sent : Datagram) × IsHanded sent × (sent.bytes ≡ d.bytes)

-- the datagram that comes is honest, if one comes
abbrev pub ComesHonestly : Catalogue → (Datagram → Type 0) → Happening → ClusterState → Type 0
ComesHonestly catalogue IsHanded h c = IfSome (datagram_of h) (λ d. IsHonest (known_catalogue catalogue (whose h) c) IsHanded (whose h) d)

abbrev pub May : Catalogue → Happening → ClusterState → Type 0
May catalogue h c = MayAlone catalogue h c × ComesHonestly catalogue (Contains c.handed) h c

-- each of them may happen once those before it have
abbrev pub MayAll : Catalogue → List Happening → ClusterState → Type 0
MayAll catalogue [] c = ⊤
MayAll catalogue (h ∷ happenings) c = May catalogue h c × MayAll catalogue happenings (after catalogue h c)
