-- The texts of schedules, and the places of their faults.
use Rattle.std.specs.Prelude.{◌≡◌, ◌≢◌, ⊤, ℕ, ◌+◌, ◌-◌, ◌≤◌, List, length, Bool, ◌||◌, not, nat_lt, Result, Ok, Err}
use Rattle.std.specs.List.{AllByRecursion}
use Rattle.vp_text.specs.Documents.{IsBadLine, IsFaultyLine}
use Rattle.vp_model.specs.Catalogue.{sites_of}
use Rattle.vp_model.specs.World.{Schedule}
use Rattle.vp_model.specs.Texts.Schedule.{schedule_text}
use Rattle.vp_catalog.specs.Document.{IsCatalogue}
use Rattle.vp_schedule.specs.declared.line.ScheduleLine.{ScheduleLine}
use Rattle.vp_schedule.specs.declared.draft.ScheduleDraft.{ScheduleDraft}
use Rattle.vp_schedule.specs.declared.fault.ScheduleFault.{ScheduleFault}
use Rattle.vp_schedule.specs.declared.fault.ScheduleFault.TheVariants as faults
use Rattle.vp_schedule.specs.Events.{IsEvent}
use Rattle.vp_schedule.specs.Drafts.{blank, after, LineText, Onward, Repeats, Exceeds}
use Rattle.vp_schedule.specs.LineReading.{line_at}

-- A catalogue, and at most 100,000 events over its sites.
pub record IsSchedule (s : Schedule) : Type 0 where
  pub catalogue_is : IsCatalogue s.catalogue
  pub events_are : AllByRecursion (λ e. IsEvent (sites_of s.catalogue) e) s.events
  pub few : length s.events ≤ 100000

abbrev pub IsScheduleText : Schedule → List ℕ → Type 0
IsScheduleText s text = IsSchedule s × (schedule_text s ≡ text)

-- What is returned for a text.
abbrev pub Answered : List ℕ → Result Schedule ScheduleFault → Type 0
Answered text (Ok s) = IsScheduleText s text
Answered text (Err (faults.BadLine line at)) = IsBadLine blank after LineText Onward text line at × ((s : Schedule) → IsScheduleText s text → ⊥)
Answered text (Err (faults.Twice line)) = IsFaultyLine blank after LineText Onward Repeats text line
Answered text (Err (faults.TooMany line limit)) = IsFaultyLine blank after LineText Onward (Exceeds limit) text line
Answered text (Err faults.NoMemory) = ⊤

-- Only one result is possible for a text, apart from want of memory.
abbrev pub IsOnly : List ℕ → Result Schedule ScheduleFault → Type 0
IsOnly text result = (other : Result Schedule ScheduleFault) → Answered text other → result ≢ Err faults.NoMemory → other ≢ Err faults.NoMemory → other ≡ result

-- Where memory suffices, the text of a schedule is read as this schedule.
abbrev pub IsTaken : List ℕ → Result Schedule ScheduleFault → Type 0
IsTaken text result = (s : Schedule) → IsScheduleText s text → result ≢ Err faults.NoMemory → result ≡ Ok s

-- ---- the steps of the reader

-- the next line was read, or its fault is at this place in the text

abbrev pub NextLine : ScheduleDraft → ℕ → List ℕ → List ℕ → Result ScheduleLine ScheduleFault → Type 0
NextLine draft number old new (Ok line) = line_at draft old ≡ Ok (line, new)
NextLine draft number old new (Err (faults.BadLine line at)) = (line ≡ number) × (left : ℕ) × (line_at draft old ≡ Err left) × (at ≡ length old - left + 1)
NextLine draft number old new (Err (faults.Twice line)) = ⊥
NextLine draft number old new (Err (faults.TooMany line limit)) = ⊥
NextLine draft number old new (Err faults.NoMemory) = ⊤

-- another line has to come
abbrev pub is_owed : List ℕ → ScheduleDraft → Bool
is_owed rest draft = nat_lt 0 (length rest) || not draft.opened
