-- The batches that a schedule leaves in the log of each site.
use Rattle.std.specs.Prelude.{ℕ, Bool, false, ◌==◌, if◌then◌else◌, List, [], ◌∷◌, ◌++◌, Option, Some, None, option_map}
use Rattle.vp_model.specs.Types.{LogRecord, Event, Input, Shown}
use Rattle.vp_model.specs.Types.log_record
use Rattle.vp_model.specs.Types.event
use Rattle.vp_model.specs.Types.input
use Rattle.vp_model.specs.Types.shown
use Rattle.vp_model.specs.Words.{for_each, for_some}
use Rattle.vp_model.specs.Catalogue.{Catalogue}
use Rattle.vp_model.specs.Durable.{DurableState}
use Rattle.vp_model.specs.Site.{SiteState}
use Rattle.vp_model.specs.Step.{step}
use Rattle.vp_model.specs.World.{WorldState, Moment, Schedule, place_of, site_of, message_at, moments_of}
use Rattle.vp_model.specs.Justified.{is_step_of}
use Rattle.vp_runs.specs.Keeping.{kept_with}

-- ---- a step

-- what an event gives to the site that it is for
abbrev pub input_of : WorldState → Event → Option Input
input_of w (event.Call site words) = Some (input.Call 0 words)
input_of w (event.Deliver k) = option_map (λ sent. input.Message sent.from sent.message) (message_at w k)
input_of w (event.Tick site) = Some input.Tick
input_of w (event.Probe site) = Some input.Probe
input_of w _ = None

-- the records that the site's step forces
abbrev pub forced_records : Catalogue → Option SiteState → Option Input → List LogRecord
forced_records catalogue (Some site) (Some given) = (step catalogue site given).effects.records
forced_records catalogue _ _ = []

abbrev pub forced_at : Catalogue → ℕ → Moment → List LogRecord
forced_at catalogue id m = forced_records catalogue (site_of m.before id) (input_of m.before m.line.event)

-- the durable part of a site
abbrev pub durable_at : ℕ → WorldState → Option DurableState
durable_at id w = option_map (λ place. place.durable) (place_of id w.places)

-- ---- a restart

abbrev pub is_restart_of : ℕ → Event → Bool
is_restart_of id (event.Restart site) = site == id
is_restart_of id _ = false

-- the start of a life is a batch, and no checkpoint follows it
abbrev pub with_life : ℕ → List (List LogRecord) → List (List LogRecord)
with_life life batches = batches ++ (log_record.Start life ∷ []) ∷ []

abbrev pub with_start : Shown → List (List LogRecord) → List (List LogRecord)
with_start (shown.Life life) batches = with_life life batches
with_start _ batches = batches

-- ---- the batches

-- The log of the site after a moment. The records of its step are a batch; if a checkpoint is due then, one of the site's durable part
-- replaces all of them.
abbrev pub kept_after : Catalogue → ℕ → Moment → List (List LogRecord) → List (List LogRecord)
kept_after catalogue id m batches =
    if is_step_of id m
    then for_some (durable_at id m.after) (λ d. kept_with d (forced_at catalogue id m)) batches
    else (if is_restart_of id m.line.event then with_start m.line.shown batches else batches)

-- the log after these moments, from the start of the first life on
abbrev pub kept_in : Catalogue → ℕ → List Moment → List (List LogRecord)
kept_in catalogue id moments = for_each moments (kept_after catalogue id) (with_life 1 [])

unfoldable pub kept : Schedule → ℕ → List (List LogRecord)
kept s id = kept_in s.catalogue id (moments_of s)
