-- How a run of the program ends.
use Rattle.std.specs.Prelude.{◌≡◌, ◌≤◌, ◌<◌, ◌⊎◌, ℕ, List, length, codes, Some, None}
use Rattle.std.specs.Io.KnownBytes.{Appends}
use Rattle.vp_outside.specs.Causes.{Rose}
use Rattle.vp_outside.specs.Input.{SourceState, IsEnded, Took}
use Rattle.vp_outside.specs.Output.{SinkState, AppendsPrefix}
use Rattle.vp_pictures.specs.declared.sheet.Part.{Part}
use Rattle.vp_status.specs.declared.status.Status.{Status}
use Rattle.vp_status.specs.declared.status.Status.TheVariants as status
use Rattle.vp_drawing.specs.Answers.{IsDrawn}
use Rattle.vp_drawing.specs.Words.{part_of, usage_text}

-- the most bytes that an input may have
abbrev pub most_bytes : ℕ
most_bytes = 16777216

-- the words ask for a picture
abbrev pub IsAsked : List (List ℕ) → Type 0
IsAsked words = (part : Part) × (part_of words ≡ Some part)

-- ---- the input

-- These bytes were the whole input, and this is printed for them.
pub record IsRead (part : Part) (source source' : SourceState) (end : Status) (text : List ℕ) : Type 0 where
  pub bytes : List ℕ
  pub took : Took bytes source source'
  pub ended : IsEnded source'
  pub fits : length bytes ≤ most_bytes
  pub drawn : IsDrawn part bytes end text

-- The input is too long.
pub record IsTooLong (source source' : SourceState) (text : List ℕ) : Type 0 where
  pub bytes : List ℕ
  pub took : Took bytes source source'
  pub long : most_bytes < length bytes
  pub text_is : text ≡ codes "limit bytes 16777216\n"

-- the text for an input, at each status
abbrev pub Reads : Part → SourceState → SourceState → Status → List ℕ → Type 0
Reads part source source' status.Limit text = IsTooLong source source' text ⊎ IsRead part source source' status.Limit text
Reads part source source' end text = IsRead part source source' end text

-- the words ask for a picture, and this is the text for the input
abbrev pub IsAnswered : List (List ℕ) → SourceState → SourceState → Status → List ℕ → Type 0
IsAnswered words source source' end text = (part : Part) × (part_of words ≡ Some part) × Reads part source source' end text

-- The text that the program defines for its words and its input, at each status.
abbrev pub Defines : List (List ℕ) → SourceState → SourceState → Status → List ℕ → Type 0
Defines words source source' status.Usage text = (part_of words ≡ None) × (source' ≡ source) × (text ≡ usage_text)
Defines words source source' end text = IsAnswered words source source' end text

-- ---- what is printed

module _ (words : List (List ℕ)) (source source' : SourceState) (sink sink' : SinkState) where
  -- all of the text that is defined went to the sink
  pub record IsPrinted (end : Status) : Type 0 where
    pub text : List ℕ
    pub defines : Defines words source source' end text
    pub appended : Appends sink.held sink'.held text

  -- a prefix of a text that is defined went to the sink
  pub record IsCut : Type 0 where
    pub end : Status
    pub text : List ℕ
    pub defines : Defines words source source' end text
    pub appended : AppendsPrefix sink.held sink'.held text

  -- the sink was not called
  abbrev pub IsSilent : Type 0
  IsSilent = sink' ≡ sink

  -- what the status says
  abbrev pub Ends : Status → Type 0
  Ends status.SourceFault = IsAsked words × Rose source.faults source'.faults × IsSilent
  Ends status.SinkFault = Rose sink.faults sink'.faults × IsCut
  Ends status.NoMemory = IsCut ⊎ IsSilent
  Ends end = IsPrinted end
