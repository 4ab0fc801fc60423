-- What an observer sees as the events of a schedule are played.
use Rattle.std.specs.Prelude.{◌≡◌, ◌⊎◌, ℕ, false, List, [], ◌∷◌, ◌++◌, map, Some, None, Result, Ok, Err}
use Rattle.std.specs.List.{list_any, before_first}
use Rattle.vp_model.specs.Types.{Event, Line}
use Rattle.vp_model.specs.Catalogue.{Catalogue}
use Rattle.vp_model.specs.World.{WorldState, Moment, Run, Schedule, run_of}
use Rattle.vp_model.specs.Limits.{world_limits, is_over, limit_in, limit_reached, lines_within}
use Rattle.vp_world.specs.Asked.{Asked}
use Rattle.vp_world.specs.Known.{Known}
use Rattle.vp_world.specs.Steps.{DoesEvent, IsReady}
use Rattle.vp_world.specs.Limits.{limit_of}
use Rattle.vp_world.specs.declared.end.WorldEnd.{WorldEnd}
use Rattle.vp_world.specs.declared.end.WorldEnd.TheVariants as end

abbrev pub schedule_of : Catalogue → List Event → Schedule
schedule_of catalogue events = record { catalogue = catalogue; events = events }

-- a run that begins in this world
abbrev pub run_in : WorldState → Run
run_in w = record { moments = []; world = w }

-- the lines of some moments
abbrev pub lines_in : List Moment → List (ℕ × Line)
lines_in moments = map (λ (m : Moment). (m.number, m.line)) moments

-- an observer before and after it has seen these lines, one after the other; the same for any other things that come one after the other
abbrev pub SeesAll : {A S : Type 0} → (A → S → S → Type 0) → List A → S → S → Type 0
SeesAll sees [] old new = new ≡ old
SeesAll {A} {S} sees (a ∷ rest) old new = (mid : S) × sees a old mid × SeesAll sees rest mid new

-- an observer that has seen some of these lines, the first ones, and perhaps a part of the next
abbrev pub SeesSome : {S : Type 0} → (sees begins : ℕ × Line → S → S → Type 0) → List (ℕ × Line) → S → S → Type 0
SeesSome sees begins [] old new = new ≡ old
SeesSome {S} sees begins (line ∷ lines) old new = (new ≡ old) ⊎ (begins line old new ⊎ ((mid : S) × sees line old mid × SeesSome sees begins lines mid new))

-- the stepper before and after it has done what these moments ask
abbrev pub StepsAll : {S : Type 0} → (Asked → S → S → Type 0) → Catalogue → List Moment → S → S → Type 0
StepsAll did catalogue moments old new = SeesAll (λ (m : Moment). DoesEvent did catalogue m.line.event m.before) moments old new

-- the stepper may be asked for what each of these moments asks, once it has done what those before ask
abbrev pub IsReadyFor : {S : Type 0} → (may : Catalogue → Asked → S → Type 0) → (did : Asked → S → S → Type 0) → Catalogue → List Moment → S → Type 0
IsReadyFor {S} may did catalogue moments old = (before rest : List Moment) (m : Moment) (now : S) → moments ≡ before ++ m ∷ rest → StepsAll did catalogue before old now → IsReady may catalogue m.line.event m.before now

-- The steps of the run are done, and the observer has seen the event's own lines and then theirs; or a limit ends them, and it has seen
-- the event's own lines and those of the steps before; or memory runs out, and it has seen some of these.
abbrev pub Sees : {S : Type 0} → (sees begins : Catalogue → ℕ × Line → S → S → Type 0) → Catalogue → List (ℕ × Line) → Run → Result Known WorldEnd → S → S → Type 0
Sees sees begins catalogue own run (Ok known) old new =
    (list_any (is_over world_limits) run.moments ≡ false)
    × (known ≡ record { catalogue = catalogue; world = run.world })
    × SeesAll (sees catalogue) (own ++ lines_in run.moments) old new
Sees sees begins catalogue own run (Err (end.Limit what limit)) old new =
    (limit_in world_limits run.moments ≡ Some what)
    × (limit ≡ limit_of what)
    × SeesAll (sees catalogue) (own ++ lines_in (before_first (is_over world_limits) run.moments)) old new
Sees sees begins catalogue own run (Err end.NoMemory) old new =
    SeesSome (sees catalogue) (begins catalogue) (own ++ lines_in (before_first (is_over world_limits) run.moments)) old new

-- The whole schedule is played and the observer has seen its trace; or a limit ends it, and it has seen what that leaves of the trace;
-- or memory runs out, and it has seen some of that.
abbrev pub Plays : {S : Type 0} → (sees begins : Catalogue → ℕ × Line → S → S → Type 0) → Schedule → Result Known WorldEnd → S → S → Type 0
Plays sees begins s (Ok known) old new =
    (limit_reached world_limits s ≡ None)
    × (known ≡ record { catalogue = s.catalogue; world = (run_of s).world })
    × SeesAll (sees s.catalogue) (lines_within world_limits s) old new
Plays sees begins s (Err (end.Limit what limit)) old new =
    (limit_reached world_limits s ≡ Some what)
    × (limit ≡ limit_of what)
    × SeesAll (sees s.catalogue) (lines_within world_limits s) old new
Plays sees begins s (Err end.NoMemory) old new = SeesSome (sees s.catalogue) (begins s.catalogue) (lines_within world_limits s) old new
