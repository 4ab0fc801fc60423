-- The schedule that is put together of recordings: again and again the lowest site whose next turn can be done takes it.
use Rattle.std.specs.Prelude.{ℕ, zero, suc, ◌==◌, ◌+◌, ◌-◌, Bool, true, false, ◌||◌, ◌&&◌, if◌then◌else◌, is_some, List, [], ◌∷◌, ◌++◌, length, Option, Some, None, option_map, Result, Ok, Err}
use Rattle.std.specs.List.{position_from}
use Rattle.std.specs.Str.{bytes_eq}
use Rattle.vp_model.specs.Types.{Sent, Event, Input, Counted}
use Rattle.vp_model.specs.Types.event
use Rattle.vp_model.specs.Types.input
use Rattle.vp_model.specs.Words.{is_empty}
use Rattle.vp_model.specs.Catalogue.{Catalogue, sites_of}
use Rattle.vp_model.specs.Limits.{Limits, refused}
use Rattle.vp_model.specs.World.{WorldState, start_world, next}
use Rattle.vp_laws.specs.ShapeLaws.{message_frame}
use Rattle.vp_wire.specs.Grammar.{frame_bytes}
use Rattle.vp_runs.specs.declared.arrival.Arrival.{Arrival}
use Rattle.vp_runs.specs.declared.arrival.Arrival.TheVariants.{Bad, Stray, Stops, Gives}
use Rattle.vp_fitting.specs.Asked.{Due, dues_of, outs_of, asks}
use Rattle.vp_fitting.specs.Fitting.{frames_in}
use Rattle.vp_recording.specs.declared.recording.Recording.{Recording}

-- ---- the event of a turn

abbrev pub same_sent : Sent → Sent → Bool
same_sent a b = bytes_eq (frame_bytes (message_frame a)) (frame_bytes (message_frame b))

-- the lowest number under which the message was sent
unfoldable pub lowest : Sent → List Sent → Option ℕ
lowest sent all = position_from (same_sent sent) 1 all

-- the event by which the input comes to the site; none where it is a message that no step has sent
abbrev pub event_of : List Sent → ℕ → Input → Option Event
event_of all site (input.Call port words) = Some (event.Call site words)
event_of all site (input.Message from message) = option_map event.Deliver (lowest (record { from = from; to = site; message = message }) all)
event_of all site input.Tick = Some (event.Tick site)
event_of all site input.Probe = Some (event.Probe site)

-- the turn can be done: its frame isn't a message to the site that no step has sent
abbrev pub is_ready : List Sent → ℕ → Arrival → Bool
is_ready all site (Gives given) = is_some (event_of all site given)
is_ready all site (Bad at) = true
is_ready all site Stray = true
is_ready all site Stops = true

abbrev pub can_take : List Sent → ℕ → Due → Bool
can_take all site d = is_ready all site (asks site d.turn.frame)

-- ---- the events of a turn

abbrev pub events_in : Option Event → List Event
events_in None = []
events_in (Some e) = e ∷ []

abbrev pub own_events : List Sent → ℕ → Arrival → List Event
own_events all site (Gives given) = events_in (event_of all site given)
own_events all site (Bad at) = []
own_events all site Stray = []
own_events all site Stops = []

-- so many crashes and restarts, and then these events
abbrev pub restarts_then : ℕ → ℕ → List Event → List Event
restarts_then site zero events = events
restarts_then site (suc lives) events = event.Crash site ∷ event.Restart site ∷ restarts_then site lives events

-- The crashes and restarts before a life are directly before its first turn.
abbrev pub turn_events : List Sent → ℕ → ℕ → Due → List Event
turn_events all site life d = restarts_then site (d.life - life) (own_events all site (asks site d.turn.frame))

-- what was done so far, and the frames that a turn's events made at its site
pub record Done : Type 0 where
  pub world : WorldState
  pub events : List Event
  pub made : List (List ℕ)

abbrev pub done_with : Catalogue → ℕ → Event → Done → Done
done_with catalogue site e done =
    record { world = (next catalogue e done.world).world; events = done.events ++ e ∷ []; made = done.made ++ frames_in site (next catalogue e done.world).shown }

-- Events are done up to the first one that would exceed a limit.
abbrev pub unless : Option Counted → Result Done Counted → Result Done Counted
unless (Some what) rest = Err what
unless None rest = rest

abbrev pub done_from : Limits → Catalogue → ℕ → List Event → Done → Result Done Counted
done_from limits catalogue site [] done = Ok done
done_from limits catalogue site (e ∷ events) done =
    unless (refused limits catalogue e done.world) (done_from limits catalogue site events (done_with catalogue site e done))

-- ---- what a turn's recording says

-- the datagrams that are recorded are those of the step; where it may be cut short, the first of them
abbrev pub tells : Bool → List (List ℕ) → List (List ℕ) → Bool
tells short [] made = short || is_empty made
tells short (out ∷ outs) [] = false
tells short (out ∷ outs) (frame ∷ made) = bytes_eq out frame && tells short outs made

-- the frame is an input of the site, or stops its node
abbrev pub is_own : Arrival → Bool
is_own (Gives given) = true
is_own Stops = true
is_own (Bad at) = false
is_own Stray = false

abbrev pub is_told : ℕ → Due → List (List ℕ) → Bool
is_told site d made = is_own (asks site d.turn.frame) && tells d.short (outs_of d) made

-- ---- the whole

-- what a site has left: the life that it is in, and the turns that it has to take
pub record Track : Type 0 where
  pub life : ℕ
  pub dues : List Due

pub record Merging : Type 0 where
  pub world : WorldState
  pub events : List Event
  pub left : ℕ → Track

-- a site with its next turn, and the turns after that
pub record Choice : Type 0 where
  pub site : ℕ
  pub due : Due
  pub rest : List Due

abbrev pub choose_due : (ℕ → Due → Bool) → ℕ → List Due → Option Choice → Option Choice
choose_due passes site [] other = other
choose_due passes site (d ∷ dues) other = if passes site d then Some (record { site = site; due = d; rest = dues }) else other

-- the first site of the list whose next turn passes, with that turn
abbrev pub first_of : (ℕ → Due → Bool) → List ℕ → (ℕ → Track) → Option Choice
first_of passes [] left = None
first_of passes (site ∷ sites) left = choose_due passes site (left site).dues (first_of passes sites left)

abbrev pub with_track : ℕ → Track → (ℕ → Track) → ℕ → Track
with_track site track left id = if id == site then track else left id

pub data Merge : Type 0 where
  whole : List Event → Merge
  unsent : ℕ → ℕ → Merge
  unlike : ℕ → ℕ → Merge
  too_long : Counted → Merge

-- No further turn can be done: none is left, or the lowest site with turns left waits in its next one.
abbrev pub merge_end : Merging → Option Choice → Merge
merge_end m None = Merge.whole m.events
merge_end m (Some c) = Merge.unsent c.site c.due.number

abbrev pub end_of : Catalogue → Merging → Merge
end_of catalogue m = merge_end m (first_of (λ site d. true) (sites_of catalogue) m.left)

abbrev pub ready : Catalogue → Merging → Option Choice
ready catalogue m = first_of (can_take m.world.sent) (sites_of catalogue) m.left

-- the turn's events are done
abbrev pub turn_done : Limits → Catalogue → Merging → Choice → Result Done Counted
turn_done limits catalogue m c =
    done_from limits catalogue c.site (turn_events m.world.sent c.site (m.left c.site).life c.due) (record { world = m.world; events = m.events; made = [] })

abbrev pub taken_by : Merging → Choice → Done → Merging
taken_by m c done =
    record { world = done.world; events = done.events; left = with_track c.site (record { life = c.due.life; dues = c.rest }) m.left }

-- the turn is taken and the merge goes on, or it ends here
abbrev pub gone_on : (Merging → Merge) → Merging → Choice → Result Done Counted → Merge
gone_on rest m c (Err what) = Merge.too_long what
gone_on rest m c (Ok done) = if is_told c.site c.due done.made then rest (taken_by m c done) else Merge.unlike c.site c.due.number

abbrev pub by_choice : Limits → Catalogue → (Merging → Merge) → Merging → Option Choice → Merge
by_choice limits catalogue rest m None = end_of catalogue m
by_choice limits catalogue rest m (Some c) = gone_on rest m c (turn_done limits catalogue m c)

-- so many turns are left
unfoldable pub merged_from : ℕ → Limits → Catalogue → Merging → Merge
merged_from zero limits catalogue m = end_of catalogue m
merged_from (suc turns) limits catalogue m = by_choice limits catalogue (merged_from turns limits catalogue) m (ready catalogue m)

abbrev pub turns_left : List ℕ → (ℕ → Track) → ℕ
turns_left [] left = 0
turns_left (site ∷ sites) left = length (left site).dues + turns_left sites left

abbrev pub first_track : List Recording → ℕ → Track
first_track recordings site = record { life = 1; dues = dues_of site recordings }

abbrev pub at_first : Catalogue → List Recording → Merging
at_first catalogue recordings = record { world = start_world catalogue; events = []; left = first_track recordings }

unfoldable pub merged : Limits → Catalogue → List Recording → Merge
merged limits catalogue recordings = merged_from (turns_left (sites_of catalogue) (first_track recordings)) limits catalogue (at_first catalogue recordings)
