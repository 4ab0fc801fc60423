-- What the run of a schedule through nodes leaves.
use Rattle.std.specs.Prelude.{◌≡◌, ℕ, true, List, ◌++◌, map, Some, None, Result, Ok, Err}
use Rattle.std.specs.List.{AllByRecursion}
use Rattle.vp_text.specs.Printing.{is_begun}
use Rattle.vp_model.specs.Catalogue.{sites_of}
use Rattle.vp_model.specs.Limits.{world_limits, limit_reached, trace_text_within}
use Rattle.vp_model.specs.Texts.Trace.{trace_text}
use Rattle.vp_model.specs.World.{Schedule, run_of}
use Rattle.vp_stable.specs.Halves.{HaveBatches}
use Rattle.vp_runs.specs.Kept.{kept}
use Rattle.vp_world.specs.Limits.{limit_of}
use Rattle.vp_world.specs.declared.end.WorldEnd.{WorldEnd}
use Rattle.vp_world.specs.declared.end.WorldEnd.TheVariants as end
use Rattle.vp_cluster.specs.declared.cluster.Ran.{Ran}

-- For each site of the catalogue, ascending, these halves are a log, with the batches that the schedule leaves in it.
pub record AreLogs (s : Schedule) (logs : List (ℕ × List ℕ × List ℕ)) : Type 0 where
  pub sites_are : map (λ (log : ℕ × List ℕ × List ℕ). log.0) logs ≡ sites_of s.catalogue
  pub kept : AllByRecursion (λ (log : ℕ × List ℕ × List ℕ). HaveBatches (kept s log.0) (log.1, log.2)) logs

-- The schedule is run: its trace is appended, and its journal is returned with the logs. Or a limit of the world ends it, and the trace
-- of the steps before is appended. Or memory runs out, and a beginning of that is appended.
abbrev pub Runs : Schedule → Result Ran WorldEnd → List ℕ → List ℕ → Type 0
Runs s (Ok ran) old new =
    (limit_reached world_limits s ≡ None)
    × (new ≡ old ++ trace_text s)
    × (ran.commits ≡ (run_of s).world.journal)
    × AreLogs s ran.logs
Runs s (Err (end.Limit what limit)) old new =
    (limit_reached world_limits s ≡ Some what) × (limit ≡ limit_of what) × (new ≡ old ++ trace_text_within world_limits s)
Runs s (Err end.NoMemory) old new = is_begun old (trace_text_within world_limits s) new ≡ true
