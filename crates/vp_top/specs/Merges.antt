-- What `merge` prints of recordings.
use Rattle.std.specs.Prelude.{◌≡◌, ◌⊎◌, ℕ, List, None, Result, Ok, Err}
use Rattle.vp_model.specs.Types.{Counted, Event}
use Rattle.vp_model.specs.Limits.{limit_reached, world_limits}
use Rattle.vp_model.specs.World.{Schedule}
use Rattle.vp_model.specs.Texts.Schedule.{schedule_text}
use Rattle.vp_schedule.specs.Document.{IsScheduleText}
use Rattle.vp_replay.specs.Replayed.{limit_of}
use Rattle.vp_recording.specs.Document.{Answered, IsOnly}
use Rattle.vp_recording.specs.declared.draft.RecordingSet.{RecordingSet}
use Rattle.vp_recording.specs.declared.fault.RecordingFault.{RecordingFault}
use Rattle.vp_recording.specs.declared.fault.RecordingFault.TheVariants as faults
use Rattle.vp_fitting.specs.Laws.{IsNeverSent, MatchesAll, over}
use Rattle.vp_fitting.specs.Merged.{Merge, merged}
use Rattle.vp_merge.specs.declared.fault.MergeFault.{MergeFault}
use Rattle.vp_merge.specs.declared.fault.MergeFault.TheVariants as ends
use Rattle.vp_status.specs.Lines.{turn_differs_text, unsent_text}
use Rattle.vp_status.specs.Refused.{bad_line_text, limit_text, twice_text}
use Rattle.vp_status.specs.declared.status.Status.{Status}
use Rattle.vp_status.specs.declared.status.Status.TheVariants as status

-- ---- what comes of recordings

module _ (it : RecordingSet) where
  -- what is put together of them
  abbrev pub merge_of : Merge
  merge_of = merged world_limits it.catalog it.recordings

  -- No schedule does all that they ask and gives what they say.
  abbrev pub AreUnmatched : Type 0
  AreUnmatched = (s : Schedule) → s.catalogue ≡ it.catalog → MatchesAll s it.recordings → ⊥

  -- The text is that of the schedule that is put together. It does all that they ask and gives what they say, and no limit is reached in it.
  pub record IsPutTogether (text : List ℕ) : Type 0 where
    pub events : List Event
    pub merges : merge_of ≡ Merge.whole events
    pub matches : MatchesAll (over it.catalog events) it.recordings
    pub within : limit_reached world_limits (over it.catalog events) ≡ None
    pub spelled : IsScheduleText (over it.catalog events) text

  -- No further turn can be done: the lowest site with turns left waits in this one for a message that no fitting schedule sends.
  pub record IsUnsent (text : List ℕ) : Type 0 where
    pub site : ℕ
    pub turn : ℕ
    pub merges : merge_of ≡ Merge.unsent site turn
    pub never : IsNeverSent it.catalog it.recordings site turn
    pub unmatched : AreUnmatched
    pub printed : text ≡ unsent_text site turn

  -- This turn is the first one that is taken and isn't as it is recorded.
  pub record IsUnlike (text : List ℕ) : Type 0 where
    pub site : ℕ
    pub turn : ℕ
    pub merges : merge_of ≡ Merge.unlike site turn
    pub unmatched : AreUnmatched
    pub printed : text ≡ turn_differs_text site turn

  -- The next event would exceed this limit of the world.
  pub record IsTooLong (text : List ℕ) : Type 0 where
    pub counted : Counted
    pub merges : merge_of ≡ Merge.too_long counted
    pub printed : text ≡ limit_text (limit_of counted)

  -- the text of `merge` for recordings, at each status
  abbrev pub MergeGives : Status → List ℕ → Type 0
  MergeGives status.Done text = IsPutTogether text
  MergeGives status.Unsent text = IsUnsent text
  MergeGives status.TurnDiffers text = IsUnlike text
  MergeGives status.Limit text = IsTooLong text
  MergeGives _ text = ⊥

-- the status and the text of what a merge answers
abbrev pub TellsMerge : Result Schedule MergeFault → Status → List ℕ → Type 0
TellsMerge (Ok s) status.Done text = text ≡ schedule_text s
TellsMerge (Err (ends.Unsent site turn)) status.Unsent text = text ≡ unsent_text site turn
TellsMerge (Err (ends.Differs site turn)) status.TurnDiffers text = text ≡ turn_differs_text site turn
TellsMerge (Err (ends.Limit what limit)) status.Limit text = text ≡ limit_text limit
TellsMerge _ _ text = ⊥

-- ---- the input

-- the bytes are the text of these recordings and of no others, and this is printed of them
pub record IsMerged (bytes : List ℕ) (end : Status) (text : List ℕ) : Type 0 where
  pub recorded : RecordingSet
  pub spelled : Answered bytes (Ok recorded)
  pub only : IsOnly bytes (Ok recorded)
  pub gives : MergeGives recorded end text

-- the status and the text of a fault
abbrev pub TellsRecording : RecordingFault → Status → List ℕ → Type 0
TellsRecording (faults.BadLine line at) status.BadLine text = text ≡ bad_line_text line at
TellsRecording (faults.Twice line) status.BadLine text = text ≡ twice_text line
TellsRecording (faults.TooMany line limit) status.Limit text = text ≡ limit_text limit
TellsRecording _ _ text = ⊥

-- the bytes are no such text: this is their one fault, in the first line that has one
pub record IsUnrecorded (bytes : List ℕ) (end : Status) (text : List ℕ) : Type 0 where
  pub fault : RecordingFault
  pub answered : Answered bytes (Err fault)
  pub only : IsOnly bytes (Err fault)
  pub told : TellsRecording fault end text

-- The text that is defined for an input of `merge` at each status; no other status is possible.
abbrev pub IsMergeAnswer : List ℕ → Status → List ℕ → Type 0
IsMergeAnswer bytes status.Done text = IsMerged bytes status.Done text
IsMergeAnswer bytes status.Unsent text = IsMerged bytes status.Unsent text
IsMergeAnswer bytes status.TurnDiffers text = IsMerged bytes status.TurnDiffers text
IsMergeAnswer bytes status.BadLine text = IsUnrecorded bytes status.BadLine text
IsMergeAnswer bytes status.Limit text = IsMerged bytes status.Limit text ⊎ IsUnrecorded bytes status.Limit text
IsMergeAnswer bytes _ text = ⊥
