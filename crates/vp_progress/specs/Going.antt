-- How a schedule goes on, and which events mend it or serve a client.
use Rattle.std.specs.Prelude.{◌≡◌, ⊤, ℕ, ◌<◌, Bool, true, false, not, ◌==◌, ◌&&◌, List, [], ◌∷◌, ◌++◌, length, Option, Some, None}
use Rattle.std.specs.List.{AllByRecursion}
use Rattle.vp_model.specs.Types.{Sent, Call, Event}
use Rattle.vp_model.specs.Types.call
use Rattle.vp_model.specs.Types.event
use Rattle.vp_model.specs.Words.{has, for_each}
use Rattle.vp_model.specs.Catalogue.{Catalogue}
use Rattle.vp_model.specs.World.{WorldState, Schedule, message_at, next}

-- the schedule, and then these events
abbrev pub goes_on : Schedule → List Event → Schedule
goes_on s more = record s { events = s.events ++ more }

-- the world after these events, none of them a flow
abbrev pub world_after : Catalogue → List Event → WorldState → WorldState
world_after catalogue events w = for_each events (λ e w. (next catalogue e w).world) w

-- each of these events passes the test in the world in which it comes
abbrev pub EachPasses : Catalogue → (WorldState → Event → Bool) → WorldState → List Event → Type 0
EachPasses catalogue test w [] = ⊤
EachPasses catalogue test w (e ∷ more) = (test w e ≡ true) × EachPasses catalogue test (next catalogue e w).world more

-- If it is a delivery, then of a message that was sent after the first so many.
abbrev pub IsFresh : ℕ → Event → Type 0
IsFresh told (event.Deliver k) = told < k
IsFresh told e = ⊤

-- None of these events delivers a message that had been sent in this world: the network may have lost all of them. What is delivered the
-- events themselves have sent.
abbrev pub AreFresh : WorldState → List Event → Type 0
AreFresh w events = AllByRecursion (IsFresh (length w.sent)) events

-- the message goes from one of these sites to one of them
abbrev pub is_within : List ℕ → Option Sent → Bool
is_within sites None = false
is_within sites (Some m) = has sites m.from && has sites m.to

abbrev pub is_regroup : Call → Bool
is_regroup call.Regroup = true
is_regroup words = false

-- what mends these sites: a pair of them is healed, one starts again, one invites to a view, one gets a tick, or a message from one to
-- another is delivered; but no crash, no cut, no call of a client, no probe, and nothing at another site
abbrev pub mends : List ℕ → WorldState → Event → Bool
mends sites w (event.Heal a b) = has sites a && has sites b
mends sites w (event.Restart site) = has sites site
mends sites w (event.Call site words) = has sites site && is_regroup words
mends sites w (event.Tick site) = has sites site
mends sites w (event.Deliver k) = is_within sites (message_at w k)
mends sites w e = false

-- what serves a client at a site: its calls there, and messages between these sites. Nothing mends, and nothing fails
abbrev pub serves : ℕ → List ℕ → WorldState → Event → Bool
serves q sites w (event.Call site words) = (site == q) && not (is_regroup words)
serves q sites w (event.Deliver k) = is_within sites (message_at w k)
serves q sites w e = false
