-- What a command that plays schedules prints for its input.
use Rattle.std.specs.Prelude.{◌≡◌, ◌⊎◌, ℕ, List, Ok, Err}
use Rattle.vp_model.specs.World.{Schedule}
use Rattle.vp_schedule.specs.Document.{Answered, IsOnly}
use Rattle.vp_schedule.specs.declared.fault.ScheduleFault.{ScheduleFault}
use Rattle.vp_schedule.specs.declared.fault.ScheduleFault.TheVariants as faults
use Rattle.vp_status.specs.Refused.{bad_line_text, twice_text, limit_text}
use Rattle.vp_status.specs.declared.status.Status.{Status}
use Rattle.vp_status.specs.declared.status.Status.TheVariants as status

-- the bytes are the text of this schedule and of no other, and this is printed for it
pub record IsPlayed (prints : Schedule → Status → List ℕ → Type 0) (bytes : List ℕ) (end : Status) (text : List ℕ) : Type 0 where
  pub schedule : Schedule
  pub spelled : Answered bytes (Ok schedule)
  pub only : IsOnly bytes (Ok schedule)
  pub gives : prints schedule end text

-- the status and the text of a fault
abbrev pub Tells : ScheduleFault → Status → List ℕ → Type 0
Tells (faults.BadLine line at) status.BadLine text = text ≡ bad_line_text line at
Tells (faults.Twice line) status.BadLine text = text ≡ twice_text line
Tells (faults.TooMany line limit) status.Limit text = text ≡ limit_text limit
Tells _ _ text = ⊥

-- the bytes are no such text: this is their one fault, in the first line that has one
pub record IsRefused (bytes : List ℕ) (end : Status) (text : List ℕ) : Type 0 where
  pub fault : ScheduleFault
  pub answered : Answered bytes (Err fault)
  pub only : IsOnly bytes (Err fault)
  pub told : Tells fault end text

-- The text that is defined at each status for the input of a command that plays a schedule, by what it prints for a schedule; no other
-- status is possible.
abbrev pub IsPlayAnswer : (Schedule → Status → List ℕ → Type 0) → List ℕ → Status → List ℕ → Type 0
IsPlayAnswer prints bytes status.Done text = IsPlayed prints bytes status.Done text
IsPlayAnswer prints bytes status.BadLine text = IsRefused bytes status.BadLine text
IsPlayAnswer prints bytes status.Limit text = IsPlayed prints bytes status.Limit text ⊎ IsRefused bytes status.Limit text
IsPlayAnswer prints bytes _ text = ⊥
