-- What a site has left, and what its next turn asks.
use Rattle.std.specs.Prelude.{◌≡◌, ⊤, ℕ, Bool, true, false, is_some, List, [], ◌∷◌, Option, Some, None, IfSome, option_map, Result, Ok, Err}
use Rattle.std.specs.Option.{option_map_or}
use Rattle.vp_base.specs.declared.memory.NoMemory.{NoMemory}
use Rattle.vp_model.specs.Types.{Event, Input}
use Rattle.vp_model.specs.Types.event
use Rattle.vp_model.specs.Types.input
use Rattle.vp_runs.specs.Arrivals.{IsArrival}
use Rattle.vp_runs.specs.declared.arrival.Arrival.{Arrival}
use Rattle.vp_runs.specs.declared.arrival.Arrival.TheVariants.{Bad, Stray, Stops, Gives}
use Rattle.vp_fitting.specs.Asked.{Due, asks}
use Rattle.vp_fitting.specs.Merged.{Track as Left}
use Rattle.vp_merge.specs.Dues.{due_of, dues_left}
use Rattle.vp_merge.specs.Numbers.{as_sent, number_at, place_of}
use Rattle.vp_merge.specs.declared.numbers.FrameNumbers.{FrameNumbers}
use Rattle.vp_merge.specs.declared.track.NextTurn.{NextTurn}
use Rattle.vp_merge.specs.declared.track.Track.{Track}

-- It is known where the turn's frame is as it is sent, and what it asks of the site.
pub record IsNext (numbers : FrameNumbers) (site : ℕ) (n : NextTurn) : Type 0 where
  pub place : n.place ≡ place_of numbers (as_sent n.due.turn.now.frame)
  pub asked : n.asked ≡ asks site n.due.turn.now.frame
  pub form : IsArrival n.asked

-- the turns, of which the first was taken out
abbrev pub dues_with : Option NextTurn → List Due → List Due
dues_with None rest = []
dues_with (Some n) rest = due_of n.due ∷ rest

abbrev pub track_of : Track → Left
track_of t = record { life = t.life; dues = dues_with t.next (dues_left t.rest) }

abbrev pub IsTrack : FrameNumbers → Track → Type 0
IsTrack numbers t = IfSome t.next (IsNext numbers t.site)

-- The next of the turns, with what it asks, was taken from the others.
abbrev pub TakesNext : FrameNumbers → ℕ → Result (Option NextTurn) NoMemory → List Due → List Due → Type 0
TakesNext numbers site (Ok next) old new = (old ≡ dues_with next new) × IfSome next (IsNext numbers site)
TakesNext numbers site (Err e) old new = ⊤

-- ---- the event of a turn

-- the event by which the input comes to the site, a message by the number of its frame, which is at this place
abbrev pub event_by : FrameNumbers → ℕ → Option ℕ → Input → Option Event
event_by numbers site place (input.Call port words) = Some (event.Call site words)
event_by numbers site place (input.Message from message) = option_map event.Deliver (number_at numbers place)
event_by numbers site place input.Tick = Some (event.Tick site)
event_by numbers site place input.Probe = Some (event.Probe site)

abbrev pub own_event : FrameNumbers → ℕ → Option ℕ → Arrival → Option Event
own_event numbers site place (Gives given) = event_by numbers site place given
own_event numbers site place (Bad at) = None
own_event numbers site place Stray = None
own_event numbers site place Stops = None

abbrev pub is_ready_by : FrameNumbers → ℕ → Option ℕ → Arrival → Bool
is_ready_by numbers site place (Gives given) = is_some (event_by numbers site place given)
is_ready_by numbers site place (Bad at) = true
is_ready_by numbers site place Stray = true
is_ready_by numbers site place Stops = true

-- the site has a next turn, and it can be done
abbrev pub can_go : FrameNumbers → Track → Bool
can_go numbers t = option_map_or (λ (n : NextTurn). is_ready_by numbers t.site n.place n.asked) t.next false
