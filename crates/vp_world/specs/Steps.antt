-- What a step of a site gives the world, and which site does one.
use Rattle.std.specs.Prelude.{ℕ, ◌+◌, if◌then◌else◌, is_some, [], ◌∷◌, ◌++◌, length, Option, Some, None, IfSome, option_map, option_and_then, option_to_list}
use Rattle.std.specs.Option.{option_map_or}
use Rattle.vp_model.specs.Types.{Sent, Event, Input}
use Rattle.vp_model.specs.Types.event
use Rattle.vp_model.specs.Types.input
use Rattle.vp_model.specs.Types.shown
use Rattle.vp_model.specs.Catalogue.{Catalogue}
use Rattle.vp_model.specs.World.{WorldState, Moved, shows, place_of, site_of, message_at, is_cut, next}
use Rattle.vp_model.specs.Justified.{site_named}
use Rattle.vp_model.specs.Told.{is_step}
use Rattle.vp_world.specs.declared.place.PlaceEffects.{PlaceEffects}
use Rattle.vp_world.specs.Asked.{Asked, restart_asked}
use Rattle.vp_world.specs.Places.{Did}

-- the world with what a step of a site gives
abbrev pub takes_in : PlaceEffects → WorldState → Moved
takes_in t w =
    record {
      world = record w {
        agreed = w.agreed ++ option_to_list t.agreed;
        sent = w.sent ++ t.effects.messages;
        journal = w.journal ++ t.effects.commits;
      };
      shown = shown.Step t.effects.commits (length w.sent + 1) t.effects.messages t.effects.replies;
    }

-- the same, where the step was done; where it was not, the site is down
abbrev pub line_of : ℕ → Option PlaceEffects → WorldState → Moved
line_of id taken w = option_map_or (λ t. takes_in t w) taken (shows w (shown.Down id))

-- the site whose step the event is in this world
abbrev pub taker : Catalogue → Event → WorldState → Option ℕ
taker catalogue e w = option_and_then (λ site. if is_step (next catalogue e w).shown then Some site else None) (site_named w e)

-- the site, if it is up
abbrev pub if_up : WorldState → ℕ → Option ℕ
if_up w site = if is_some (site_of w site) then Some site else None

abbrev pub receiver : WorldState → ℕ → Option ℕ
receiver w k = option_and_then (λ (sent : Sent). if is_cut w sent.from sent.to then None else if_up w sent.to) (message_at w k)

abbrev pub taker_now : Event → WorldState → Option ℕ
taker_now (event.Call site words) w = if_up w site
taker_now (event.Deliver k) w = receiver w k
taker_now (event.Tick site) w = if_up w site
taker_now (event.Probe site) w = if_up w site
taker_now _ w = None

-- what the event asks of this site with this input, if the site is up
abbrev pub step_at : WorldState → Event → ℕ → Input → Option Asked
step_at w e id given = option_map (λ site. Asked.steps e site given) (site_of w id)

abbrev pub step_by : WorldState → Event → Sent → Option Asked
step_by w e sent = if is_cut w sent.from sent.to then None else step_at w e sent.to (input.Message sent.from sent.message)

-- what the event asks now of the stepper
abbrev pub asked_of : Catalogue → Event → WorldState → Option Asked
asked_of catalogue (event.Call site words) w = step_at w (event.Call site words) site (input.Call 0 words)
asked_of catalogue (event.Deliver k) w = option_and_then (step_by w (event.Deliver k)) (message_at w k)
asked_of catalogue (event.Tick site) w = step_at w (event.Tick site) site input.Tick
asked_of catalogue (event.Probe site) w = step_at w (event.Probe site) site input.Probe
asked_of catalogue (event.Crash site) w = option_map (λ _. Asked.crashes site) (site_of w site)
asked_of catalogue (event.Restart site) w = option_and_then (restart_asked catalogue) (place_of site w.places)
asked_of catalogue _ w = None

-- the stepper may be asked for that
abbrev pub IsReady : {S : Type 0} → (Catalogue → Asked → S → Type 0) → Catalogue → Event → WorldState → S → Type 0
IsReady may catalogue e w stepper = IfSome (asked_of catalogue e w) (λ a. may catalogue a stepper)

-- the stepper has done that
abbrev pub DoesEvent : {S : Type 0} → (Asked → S → S → Type 0) → Catalogue → Event → WorldState → S → S → Type 0
DoesEvent did catalogue e w old new = Did did (asked_of catalogue e w) old new

-- the world where this message counts as delivered too
abbrev pub passed_over : ℕ → WorldState → WorldState
passed_over k w = record w { delivered = w.delivered ++ k ∷ [] }
