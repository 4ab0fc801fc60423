-- A run that stops within one of its steps. The site that does the step goes down: the records of the step are in its log or they are
-- not, and nothing that the step sends is handed over. Then the run goes on. It becomes a schedule without flows, with a crash in it.
use Rattle.std.specs.Prelude.{ℕ, ◌+◌, ◌-◌, Bool, not, ◌==◌, ◌&&◌, nat_le, if◌then◌else◌, List, [], ◌∷◌, ◌++◌, length, take, drop, map, filter, slice_get, Option, Some, None, option_map, option_and_then}
use Rattle.std.specs.Option.{option_map_or}
use Rattle.std.specs.List.{range_with_len}
use Rattle.vp_model.specs.Types.{Event}
use Rattle.vp_model.specs.Types.event
use Rattle.vp_model.specs.Words.{is_empty}
use Rattle.vp_model.specs.Catalogue.{Catalogue}
use Rattle.vp_model.specs.Justified.{is_step_of, site_named}
use Rattle.vp_model.specs.World.{WorldState, Moment, Run, Schedule, run_from, moments_of}
use Rattle.vp_runs.specs.Kept.{forced_at}

-- ---- where a run can stop

-- the moment of a step; steps are counted from 1
abbrev pub moment_of : ℕ → List Moment → Option Moment
moment_of step moments = if step == 0 then None else slice_get moments (step - 1)

-- the moment's step forces records at the site, which are appended as one batch
abbrev pub appends : Catalogue → Moment → ℕ → Bool
appends catalogue m site = is_step_of site m && not (is_empty (forced_at catalogue site m))

abbrev pub appender : Catalogue → Moment → Option ℕ
appender catalogue m = option_and_then (λ site. if appends catalogue m site then Some site else None) (site_named m.before m.line.event)

-- ---- the stop

-- what replaces the event: the site crashes, after the step if its records are in the log
abbrev pub stop_at : Bool → ℕ → Event → List Event
stop_at kept site e = if kept then e ∷ event.Crash site ∷ [] else event.Crash site ∷ []

-- how many messages of the step nobody gets, and the number of the first of them
abbrev pub count_lost : Bool → Moment → ℕ
count_lost kept m = if kept then length m.after.sent - length m.before.sent else 0

abbrev pub first_lost : Moment → ℕ
first_lost m = length m.before.sent + 1

-- the message that the step took counts as delivered, and so do those that nobody gets: no flow delivers them
abbrev pub message_taken : Event → List ℕ
message_taken (event.Deliver k) = k ∷ []
message_taken _ = []

abbrev pub passed_numbers : Bool → Moment → List ℕ
passed_numbers kept m = message_taken m.line.event ++ range_with_len (first_lost m) (count_lost kept m)

-- the world where these messages count as delivered too
abbrev pub pass_over : List ℕ → WorldState → WorldState
pass_over numbers w = record w { delivered = w.delivered ++ numbers }

-- a run that begins in this world
abbrev pub run_in : WorldState → Run
run_in w = record { moments = []; world = w }

abbrev pub stopped_world : Catalogue → Bool → ℕ → Moment → WorldState
stopped_world catalogue kept site m =
    pass_over (passed_numbers kept m) (run_from catalogue 1 (stop_at kept site m.line.event) (run_in m.before)).world

-- ---- what follows

-- what is left of an event line after so many of its steps
abbrev pub left_of_line : ℕ → Event → List Event
left_of_line done (event.Flow count) = event.Flow (count - done) ∷ []
left_of_line done _ = []

-- what follows the last of these moments
abbrev pub follow : List Event → List Moment → Moment → List Event
follow events moments m =
    option_map_or (left_of_line (length (filter (λ (other : Moment). other.number == m.number) moments))) (slice_get events (m.number - 1)) []
    ++ drop m.number events

-- a delivery keeps its message, though messages that nobody gets have numbers too
abbrev pub raise_number : ℕ → ℕ → Event → Event
raise_number first count (event.Deliver k) = event.Deliver (if nat_le first k then k + count else k)
raise_number first count e = e

-- the single steps of a run, as events
abbrev pub singles : List Moment → List Event
singles moments = map (λ (m : Moment). m.line.event) moments

-- ---- the whole

-- the run after the stop
abbrev pub run_after : Schedule → ℕ → Bool → ℕ → Moment → Run
run_after s step kept site m =
    run_from s.catalogue 1 (map (raise_number (first_lost m) (count_lost kept m)) (follow s.events (take step (moments_of s)) m)) (run_in (stopped_world s.catalogue kept site m))

abbrev pub stopped_events : Schedule → ℕ → Bool → ℕ → Moment → List Event
stopped_events s step kept site m =
    singles (take (step - 1) (moments_of s)) ++ (stop_at kept site m.line.event ++ singles (run_after s step kept site m).moments)

-- the schedule that the run becomes, if it can stop in that step
unfoldable pub stopped : ℕ → Bool → Schedule → Option Schedule
stopped step kept s =
    option_and_then
    (λ m. option_map (λ site. record { catalogue = s.catalogue; events = stopped_events s step kept site m }) (appender s.catalogue m))
    (moment_of step (moments_of s))
