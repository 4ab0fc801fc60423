-- Schedules that fit recordings: what each site does in them is a beginning of what its recordings ask of it.
use Rattle.std.specs.Prelude.{◌≡◌, ⊤, ℕ, zero, suc, ◌-◌, ◌==◌, Bool, false, if◌then◌else◌, List, [], ◌∷◌, ◌++◌, flat_map, map, Option, Some, None}
use Rattle.std.specs.List.{AllByRecursion, Contains}
use Rattle.vp_model.specs.Types.{Input, Event, Shown, Sent, Reply}
use Rattle.vp_model.specs.Types.event
use Rattle.vp_model.specs.Types.shown
use Rattle.vp_model.specs.Catalogue.{sites_of}
use Rattle.vp_model.specs.Justified.{is_step_of}
use Rattle.vp_model.specs.World.{Moment, Schedule, moments_of}
use Rattle.vp_laws.specs.ShapeLaws.{message_frame, reply_frame}
use Rattle.vp_wire.specs.Grammar.{frame_bytes}
use Rattle.vp_runs.specs.declared.arrival.Arrival.{Arrival}
use Rattle.vp_runs.specs.declared.arrival.Arrival.TheVariants.{Bad, Stray, Stops, Gives}
use Rattle.vp_runs.specs.Kept.{input_of, is_restart_of}
use Rattle.vp_fitting.specs.Asked.{Due, dues_of, asks}
use Rattle.vp_recording.specs.declared.recording.Recording.{Recording}

-- ---- what a site does

pub data Deed : Type 0 where
  takes : Input → Deed
  crashes : Deed
  restarts : Deed

abbrev pub is_crash_of : ℕ → Event → Bool
is_crash_of id (event.Crash site) = site == id
is_crash_of id _ = false

abbrev pub input_deeds : Option Input → List Deed
input_deeds None = []
input_deeds (Some given) = Deed.takes given ∷ []

abbrev pub crash_deeds : Shown → List Deed
crash_deeds shown.Nothing = Deed.crashes ∷ []
crash_deeds _ = []

abbrev pub restart_deeds : Shown → List Deed
restart_deeds (shown.Life life) = Deed.restarts ∷ []
restart_deeds _ = []

-- what the site does in a moment; an event that nothing comes of is none of its deeds
abbrev pub deeds_at : ℕ → Moment → List Deed
deeds_at id m =
    if is_step_of id m then input_deeds (input_of m.before m.line.event)
    else (if is_crash_of id m.line.event then crash_deeds m.line.shown
    else (if is_restart_of id m.line.event then restart_deeds m.line.shown else []))

abbrev pub deeds_of : ℕ → List Moment → List Deed
deeds_of id moments = flat_map (deeds_at id) moments

-- ---- what it is asked to do

-- so many times it crashes and starts again, and then this
abbrev pub again_then : ℕ → List Deed → List Deed
again_then zero more = more
again_then (suc lives) more = Deed.crashes ∷ Deed.restarts ∷ again_then lives more

-- what the turn's frame asks, and then this; after a frame that is none of the site's nothing is asked
abbrev pub asked_then : Arrival → List Deed → List Deed
asked_then (Gives given) more = Deed.takes given ∷ more
asked_then Stops more = more
asked_then (Bad at) more = []
asked_then Stray more = []

-- From that life on: it crashes and starts again until its life is that of the next turn, and then takes the turn's input.
abbrev pub asked_from : ℕ → ℕ → List Due → List Deed
asked_from site life [] = []
asked_from site life (d ∷ dues) = again_then (d.life - life) (asked_then (asks site d.turn.frame) (asked_from site d.life dues))

abbrev pub asked_of : ℕ → List Recording → List Deed
asked_of site recordings = asked_from site 1 (dues_of site recordings)

-- ---- fitting

-- no pair is cut or joined, and no flow delivers
abbrev pub IsSingle : Event → Type 0
IsSingle (event.Cut a b) = ⊥
IsSingle (event.Heal a b) = ⊥
IsSingle (event.Flow count) = ⊥
IsSingle e = ⊤

-- What each site does is a beginning of what it is asked.
pub record IsFitting (s : Schedule) (recordings : List Recording) : Type 0 where
  pub singles : AllByRecursion IsSingle s.events
  pub each : (id : ℕ) → Contains (sites_of s.catalogue) id → (rest : List Deed) × (deeds_of id (moments_of s) ++ rest ≡ asked_of id recordings)

-- It does all of that.
pub record FitsWhole (s : Schedule) (recordings : List Recording) : Type 0 where
  pub singles : AllByRecursion IsSingle s.events
  pub each : (id : ℕ) → Contains (sites_of s.catalogue) id → deeds_of id (moments_of s) ≡ asked_of id recordings

-- ---- what a site gives

-- the frames of a step's messages and then of its replies
abbrev pub frames_in : ℕ → Shown → List (List ℕ)
frames_in id (shown.Step commits first messages replies) =
    map (λ (sent : Sent). frame_bytes (message_frame sent)) messages ++ map (λ (reply : Reply). frame_bytes (reply_frame id reply)) replies
frames_in id _ = []

-- the frames of each step of the site
abbrev pub given_at : ℕ → Moment → List (List (List ℕ))
given_at id m = if is_step_of id m then frames_in id m.line.shown ∷ [] else []

abbrev pub given_by : ℕ → List Moment → List (List (List ℕ))
given_by id moments = flat_map (given_at id) moments
