-- A process that is killed while it serves, by the contracts of its node's start and turn.
use Rattle.std.specs.Prelude.{◌≡◌, ℕ, false, List, [], ◌∷◌, ◌++◌, take, Some, None}
use Rattle.vp_outside.specs.Disk.{Halves}
use Rattle.vp_outside.specs.declared.datagram.Datagram.{Datagram}
use Rattle.vp_stable.specs.Halves.{HaveBatches}
use Rattle.vp_runs.specs.Runs.{NodeRun, node_run}
use Rattle.vp_node.specs.Nodes.{NodeValue, HasLifeLeft, Keeps, MayStart, MaySave, turn_of}
use Rattle.vp_network.specs.Cluster.{process_of}
use Rattle.vp_lives.specs.Served.{Life, catalogue_of, Leaves, AllDone}

-- the run of its node over these datagrams
abbrev pub run_on : Life → List Datagram → NodeRun
run_on life arrived = node_run (catalogue_of life) life.id life.process.batches arrived

-- A life was left, these datagrams came, and this is the node after their turns, which goes on.
pub record IsAfter (life : Life) (came : List Datagram) (node : NodeValue) : Type 0 where
  pub lives : HasLifeLeft (catalogue_of life) life.id life.process.batches
  pub site : node.site ≡ (run_on life came).node.site
  pub goes_on : (run_on life came).stopped ≡ false

-- The disk keeps the log of that node: a crash leaves just this.
abbrev pub IsKeptBy : Life → NodeValue → Halves → Type 0
IsKeptBy life node image = Keeps (catalogue_of life) node image (λ left. left ≡ image)

-- Where it was killed: these datagrams had come, those had been handed over, and this is what the crash leaves of its log.
pub data IsKilled (life : Life) (arrived handed : List Datagram) (image : Halves) : Type 0 where
  -- in the start of its node
  starting : (log : Halves) → HaveBatches life.process.batches log → MayStart (catalogue_of life) life.id log image → arrived ≡ [] → handed ≡ [] → IsKilled life arrived handed image
  -- between two turns
  waiting : (node : NodeValue) → IsAfter life arrived node → IsKeptBy life node image → handed ≡ (run_on life arrived).datagrams → IsKilled life arrived handed image
  -- in the turn of the last datagram, of which nothing was handed over yet
  turning : (front : List Datagram) (last : Datagram) (node : NodeValue) (log : Halves) → arrived ≡ front ++ last ∷ [] → IsAfter life front node → MaySave (catalogue_of life) node (turn_of (catalogue_of life) node last) log image
      → handed ≡ (run_on life front).datagrams → IsKilled life arrived handed image
  -- after it, when so many of its datagrams were handed over
  telling : (front : List Datagram) (last : Datagram) (node after : NodeValue) (sent : ℕ) → arrived ≡ front ++ last ∷ [] → IsAfter life front node → after.site ≡ (turn_of (catalogue_of life) node last).site → IsKeptBy life after image
      → handed ≡ (run_on life front).datagrams ++ take sent (turn_of (catalogue_of life) node last).datagrams → IsKilled life arrived handed image

-- Wherever a process is killed while it serves, there are happenings of it, which may happen if the datagrams that came may come; after
-- them its log is what the crash leaves, and it has handed over just what was handed over.
abbrev pub KillsHappen : Type 0
KillsHappen = (life : Life) (arrived handed : List Datagram) (image : Halves) → process_of life.id life.cluster.processes ≡ Some life.process → life.process.up ≡ None → IsKilled life arrived handed image → Leaves life arrived handed AllDone image
