-- The limits of a world, and what is left of a schedule that a limit ends.
use Rattle.std.specs.Prelude.{ℕ, ◌+◌, nat_lt, Bool, if◌then◌else◌, is_some, List, [], ◌∷◌, ◌++◌, length, drop, map, flat_map, find, Option, Some, None, option_and_then}
use Rattle.std.specs.List.{list_any, before_first}
use Rattle.vp_model.specs.Types.{Event, Line, Counted}
use Rattle.vp_model.specs.Types.counted
use Rattle.vp_model.specs.Catalogue.{Catalogue}
use Rattle.vp_model.specs.World.{WorldState, Moment, Run, Schedule, next, one_event, start_run, moments_of}
use Rattle.vp_model.specs.Texts.Trace.{line_text, own_line}

-- how many steps and messages a world may have
pub record Limits : Type 0 where
  pub steps : ℕ
  pub messages : ℕ

-- the limits of every run of the program
abbrev pub world_limits : Limits
world_limits = record { steps = 100000; messages = 2000000 }

-- the limit that a world exceeds; its steps are tested before its messages
abbrev pub exceeded : Limits → WorldState → Option Counted
exceeded limits w =
    if nat_lt limits.steps w.steps
    then Some counted.Steps
    else (if nat_lt limits.messages (length w.sent) then Some counted.Messages else None)

-- the limit that the event would exceed. A flow is tested delivery by delivery
abbrev pub refused : Limits → Catalogue → Event → WorldState → Option Counted
refused limits catalogue event w = exceeded limits (next catalogue event w).world

-- the step of the moment exceeds a limit, so it is not done
abbrev pub is_over : Limits → Moment → Bool
is_over limits m = is_some (exceeded limits m.after)

-- the first moment whose step is not done, and the limit that it exceeds
abbrev pub first_over : Limits → List Moment → Option Moment
first_over limits moments = find (is_over limits) moments

abbrev pub limit_in : Limits → List Moment → Option Counted
limit_in limits moments = option_and_then (λ (m : Moment). exceeded limits m.after) (first_over limits moments)

-- the limit that ends the schedule
abbrev pub limit_reached : Limits → Schedule → Option Counted
limit_reached limits s = limit_in limits (moments_of s)

-- the lines under each event line, up to the step that exceeds a limit. The line of a flow comes before its deliveries, even where
-- the first of them is refused
unfoldable pub lines_within_from : Limits → Catalogue → ℕ → List Event → Run → List (ℕ × Line)
lines_within_from limits catalogue number [] run = []
lines_within_from limits catalogue number (event ∷ events) run =
    let after = one_event catalogue number event run in
    let steps = drop (length run.moments) after.moments in
    own_line number event
    ++ (map (λ (m : Moment). (m.number, m.line)) (before_first (is_over limits) steps)
    ++ (if list_any (is_over limits) steps then [] else lines_within_from limits catalogue (number + 1) events after))

-- the trace of a schedule that a limit may end
abbrev pub lines_within : Limits → Schedule → List (ℕ × Line)
lines_within limits s = lines_within_from limits s.catalogue 1 s.events (start_run s.catalogue)

abbrev pub trace_text_within : Limits → Schedule → List ℕ
trace_text_within limits s = flat_map (line_text s.catalogue) (lines_within limits s)
