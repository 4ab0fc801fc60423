-- What the run of a schedule becomes that is stopped within a step.
use Rattle.std.specs.Prelude.{◌≡◌, ℕ, ◌-◌, Bool, List, take, Option, Some, None, Result, Ok, Err}
use Rattle.std.specs.Option.{option_map_or}
use Rattle.vp_model.specs.Types.{Counted}
use Rattle.vp_model.specs.Limits.{world_limits, limit_in, limit_reached}
use Rattle.vp_model.specs.World.{Moment, Schedule, moments_of, journal_of}
use Rattle.vp_stable.specs.Halves.{HaveBatches}
use Rattle.vp_stable.specs.Stops.{with_batch}
use Rattle.vp_runs.specs.Kept.{forced_at, kept_in}
use Rattle.vp_runs.specs.Stopped.{moment_of, appender, stopped}
use Rattle.vp_world.specs.Limits.{limit_of}
use Rattle.vp_world.specs.declared.end.WorldEnd.{WorldEnd}
use Rattle.vp_world.specs.declared.end.WorldEnd.TheVariants as end
use Rattle.vp_stopping.specs.declared.stopped.Stopped.{Stopped}

-- the limit that ends the run: of the schedule that it becomes if it stops in that step, else of the schedule's steps until that one
abbrev pub limit_stopped : ℕ → Bool → Schedule → Option Counted
limit_stopped step kept s = option_map_or (limit_reached world_limits) (stopped step kept s) (limit_in world_limits (take step (moments_of s)))

-- The site that appends in this step has left its log: the batches of the steps before are in it, and if `kept` that of this one after
-- them.
pub record LeavesLog (step : ℕ) (kept : Bool) (s : Schedule) (log : ℕ × List ℕ × List ℕ) : Type 0 where
  pub m : Moment
  pub is : moment_of step (moments_of s) ≡ Some m
  pub site_is : appender s.catalogue m ≡ Some log.0
  pub has : HaveBatches (with_batch kept (forced_at s.catalogue log.0 m) (kept_in s.catalogue log.0 (take (step - 1) (moments_of s)))) (log.1, log.2)

-- The run becomes a schedule, whose journal is returned, with the log that was left: the batch of that step is kept or not. Or there is
-- no step to stop in, whatever would be kept. Or a limit of the world ends it. Or memory runs out.
abbrev pub RunsStopped : Schedule → ℕ → Bool → Result (Option Stopped) WorldEnd → Type 0
RunsStopped s step kept (Ok (Some it)) = (stopped step kept s ≡ Some it.schedule) × (limit_stopped step kept s ≡ None) × (it.commits ≡ journal_of it.schedule) × LeavesLog step kept s it.log
RunsStopped s step kept (Ok None) = (any : Bool) → (stopped step any s ≡ None) × (limit_stopped step any s ≡ None)
RunsStopped s step kept (Err (end.Limit what limit)) = (limit ≡ limit_of what) × (limit_stopped step kept s ≡ Some what)
RunsStopped s step kept (Err end.NoMemory) = Unit {0}
