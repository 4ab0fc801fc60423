-- What holds of each run that stops within a step.
use Rattle.std.specs.Prelude.{◌≡◌, ℕ, Bool, Some, List}
use Rattle.vp_model.specs.World.{WorldState, Moment, Schedule, run_of, moments_of}
use Rattle.vp_runs.specs.Stopped.{moment_of, appender, stopped_events, run_after}

-- the worlds differ at most in which messages count as delivered
abbrev pub SameButDelivered : WorldState → WorldState → Type 0
SameButDelivered v w = (numbers : List ℕ) × (v ≡ record w { delivered = numbers })

-- The stopped run and the schedule that it becomes end in the same world, but for which messages count as delivered.
abbrev pub StoppedRunsAreSchedules : Type 0
StoppedRunsAreSchedules =
    (s : Schedule) (step : ℕ) (kept : Bool) (m : Moment) (site : ℕ)
    → moment_of step (moments_of s) ≡ Some m
    → appender s.catalogue m ≡ Some site
    → SameButDelivered (run_after s step kept site m).world (run_of (record { catalogue = s.catalogue; events = stopped_events s step kept site m })).world
