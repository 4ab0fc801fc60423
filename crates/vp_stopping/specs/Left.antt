-- The events of a schedule that are left, and their next single step.
use Rattle.std.specs.Prelude.{zero, suc, ◌≤◌, List, [], ◌∷◌, Option, Some, None}
use Rattle.std.specs.Option.{option_map_or}
use Rattle.vp_model.specs.Types.{Event}
use Rattle.vp_model.specs.Types.event
use Rattle.vp_model.specs.World.{WorldState, flowing}

-- the next single step in this world
abbrev pub next_single : WorldState → List Event → Option Event
next_single w [] = None
next_single w (event.Flow zero ∷ events) = next_single w events
next_single w (event.Flow (suc count) ∷ events) = option_map_or (λ k. Some (event.Deliver k)) (flowing w) (next_single w events)
next_single w (e ∷ events) = Some e

-- what is left after it
abbrev pub left_then : WorldState → List Event → List Event
left_then w [] = []
left_then w (event.Flow zero ∷ events) = left_then w events
left_then w (event.Flow (suc count) ∷ events) = option_map_or (λ k. event.Flow count ∷ events) (flowing w) (left_then w events)
left_then w (e ∷ events) = events

-- a delivery's number can rise by as many as there may be messages
abbrev pub CanRise : Event → Type 0
CanRise (event.Deliver k) = k ≤ 2000000
CanRise e = Unit {0}
