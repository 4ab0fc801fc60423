-- The texts of recordings, and the places of their faults.
use Rattle.std.specs.Prelude.{◌≡◌, ◌≢◌, ◌⊎◌, ⊤, ℕ, ◌+◌, ◌-◌, List, length, Bool, true, false, ◌||◌, not, nat_lt, is_some, option_map, Result, Ok, Err}
use Rattle.vp_text.specs.Documents.{IsBadLine, IsFaultyLine, LinesText, reached}
use Rattle.vp_recording.specs.declared.draft.RecordingDraft.{RecordingDraft}
use Rattle.vp_recording.specs.declared.draft.RecordingSet.{RecordingSet}
use Rattle.vp_recording.specs.declared.fault.RecordingFault.{RecordingFault}
use Rattle.vp_recording.specs.declared.fault.RecordingFault.TheVariants as faults
use Rattle.vp_recording.specs.declared.line.RecordingLine.{RecordingLine}
use Rattle.vp_recording.specs.Drafts.{blank, after, LineText, Onward, Spends, Repeats, Overfills, with_block, with_turn}
use Rattle.vp_recording.specs.LineReading.{line_at}

-- what the lines say, where no more come
abbrev pub recorded_of : RecordingDraft → RecordingSet
recorded_of d = record { catalog = d.head.catalog; recordings = with_block false (option_map (with_turn d.turn) d.block) d.recordings }

-- The text is lines that say this, the line `recordings` among them, and the last of them isn't `node`.
pub record IsRecordedText (it : RecordingSet) (text : List ℕ) : Type 0 where
  pub lines : List RecordingLine
  pub lines_are : LinesText blank after LineText Onward lines text
  pub says : recorded_of (reached blank after LineText Onward lines) ≡ it
  pub opened : (reached blank after LineText Onward lines).head.opened ≡ true
  pub unnamed : is_some (reached blank after LineText Onward lines).named ≡ false

-- No line that is allowed is there; or the line before it names a site that has no life left, so that none is allowed.
abbrev pub IsBadPlace : List ℕ → ℕ → ℕ → Type 0
IsBadPlace text line at = IsBadLine blank after LineText Onward text line at ⊎ ((before : ℕ) × (line ≡ before + 1) × (at ≡ 1) × IsFaultyLine blank after LineText Onward Spends text before)

-- What is answered of a text.
abbrev pub Answered : List ℕ → Result RecordingSet RecordingFault → Type 0
Answered text (Ok it) = IsRecordedText it text
Answered text (Err (faults.BadLine line at)) = IsBadPlace text line at × ((it : RecordingSet) → IsRecordedText it text → ⊥)
Answered text (Err (faults.Twice line)) = IsFaultyLine blank after LineText Onward Repeats text line
Answered text (Err (faults.TooMany line limit)) = (limit ≡ 256) × IsFaultyLine blank after LineText Onward Overfills text line
Answered text (Err faults.NoMemory) = ⊤

-- Nothing else can be answered of the text, but for want of memory.
abbrev pub IsOnly : List ℕ → Result RecordingSet RecordingFault → Type 0
IsOnly text result = (other : Result RecordingSet RecordingFault) → Answered text other → result ≢ Err faults.NoMemory → other ≢ Err faults.NoMemory → other ≡ result

-- ---- the steps of the reader

-- the next line was read, or this is its place in the text
abbrev pub NextLine : RecordingDraft → ℕ → List ℕ → List ℕ → Result RecordingLine RecordingFault → Type 0
NextLine draft number old new (Ok line) = line_at draft old ≡ Ok (line, new)
NextLine draft number old new (Err (faults.BadLine line at)) = (line ≡ number) × (left : ℕ) × (line_at draft old ≡ Err left) × (at ≡ length old - left + 1)
NextLine draft number old new (Err (faults.Twice line)) = ⊥
NextLine draft number old new (Err (faults.TooMany line limit)) = ⊥
NextLine draft number old new (Err faults.NoMemory) = ⊤

-- another line has to come
abbrev pub is_owed : List ℕ → RecordingDraft → Bool
is_owed rest draft = nat_lt 0 (length rest) || (not draft.head.opened || is_some draft.named)
