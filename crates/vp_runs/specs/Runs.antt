-- The run of a node: a start from what its log has, and then a turn for each datagram, until one ends it.
use Rattle.std.specs.Prelude.{ℕ, Bool, false, if◌then◌else◌, List, [], ◌∷◌, ◌++◌}
use Rattle.std.specs.List.{concat}
use Rattle.vp_model.specs.Types.{LogRecord, Commit}
use Rattle.vp_model.specs.Words.{for_each}
use Rattle.vp_model.specs.Catalogue.{Catalogue}
use Rattle.vp_model.specs.Site.{SiteState}
use Rattle.vp_model.specs.Step.{start, start_record, durable_of}
use Rattle.vp_outside.specs.declared.datagram.Datagram.{Datagram}
use Rattle.vp_runs.specs.declared.arrival.Arrival.{Arrival}
use Rattle.vp_runs.specs.Arrivals.{arrival}
use Rattle.vp_runs.specs.Keeping.{durable_in, kept_with}
use Rattle.vp_runs.specs.Turns.{Turn, turn_on, turn_lines, start_line}

-- a node between two turns: its site, and the batches of its log
pub record NodeState : Type 0 where
  pub site : SiteState
  pub batches : List (List LogRecord)

-- what a run has given so far: the lines of its recording, and what was handed to the link
pub record NodeRun : Type 0 where
  pub node : NodeState
  pub lines : List (List ℕ)
  pub datagrams : List Datagram
  pub commits : List Commit
  pub stopped : Bool

-- The start forces its record as the first batch of the run.
abbrev pub start_node : Catalogue → ℕ → List (List LogRecord) → NodeState
start_node catalogue id batches =
    record {
      site = start catalogue id (durable_in catalogue id batches);
      batches = batches ++ (start_record (durable_in catalogue id batches) ∷ []) ∷ [];
    }

-- the node after a turn: where a checkpoint is due, one is made
abbrev pub after_turn : NodeState → Turn → NodeState
after_turn node turn = record { site = turn.site; batches = kept_with (durable_of turn.site) turn.batch node.batches }

abbrev pub with_turn : Datagram → Arrival → Turn → NodeRun → NodeRun
with_turn d what turn run =
    record {
      node = after_turn run.node turn;
      lines = run.lines ++ turn_lines d what turn;
      datagrams = run.datagrams ++ turn.datagrams;
      commits = run.commits ++ turn.commits;
      stopped = turn.stop;
    }

-- a datagram comes; after the end of the run none has an effect
unfoldable pub one_turn : Catalogue → Datagram → NodeRun → NodeRun
one_turn catalogue d run =
    let what = arrival catalogue run.node.site.id d in
    if run.stopped then run else with_turn d what (turn_on catalogue run.node.site what) run

abbrev pub start_of : Catalogue → ℕ → List (List LogRecord) → NodeRun
start_of catalogue id batches =
    let node = start_node catalogue id batches in
    record { node = node; lines = start_line node.site.life ∷ []; datagrams = []; commits = []; stopped = false }

-- the run over these datagrams, from a log with these batches
unfoldable pub node_run : Catalogue → ℕ → List (List LogRecord) → List Datagram → NodeRun
node_run catalogue id batches arrived = for_each arrived (one_turn catalogue) (start_of catalogue id batches)

-- the bytes of the recording so far
abbrev pub recorded_bytes : NodeRun → List ℕ
recorded_bytes run = concat run.lines
