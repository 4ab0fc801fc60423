-- The text of a history, and the places of its faults.
use Rattle.std.specs.Prelude.{◌≡◌, ℕ, ◌+◌, ◌-◌, ⊤, Bool, true, false, List, [], ◌∷◌, ◌++◌, length, Result, Ok, Err, ◌⊎◌}
use Rattle.vp_text.specs.Documents.{reached, LinesText, IsBadLine, IsFaultyLine}
use Rattle.vp_base.specs.Words.{IsPlace}
use Rattle.vp_model.specs.Types.{ViewId, Commit}
use Rattle.vp_model.specs.Words.{opening}
use Rattle.vp_onecopy.specs.Lines.{Before, LineText}
use Rattle.vp_onecopy.specs.Reading.{line_at}
use Rattle.vp_onecopy.specs.declared.line.HistoryLine.{HistoryLine}
use Rattle.vp_onecopy.specs.declared.line.HistoryLine.TheVariants as kind
use Rattle.vp_onecopy.specs.declared.map.History.{History}
use Rattle.vp_onecopy.specs.declared.fault.HistoryFault.{HistoryFault}
use Rattle.vp_onecopy.specs.declared.fault.HistoryFault.TheVariants as faults

-- the view of the last commit line, from the view before
abbrev pub last_from : ViewId → List Commit → ViewId
last_from view [] = view
last_from view (commit ∷ commits) = last_from commit.view commits

abbrev pub before : History → Before
before h = record { names = h.names; last = last_from opening h.commits; commits = length h.commits }

abbrev pub empty : History
empty = record { names = []; start = []; commits = [] }

-- what a line adds
abbrev pub after : History → HistoryLine → History
after h (kind.Start name value) = record { names = h.names ++ name ∷ []; start = h.start ++ value ∷ []; commits = h.commits }
after h (kind.Commit commit) = record { names = h.names; start = h.start; commits = h.commits ++ commit ∷ [] }
after h kind.End = h

-- The line may follow what the history says, and this is its text.
abbrev pub Allowed : History → HistoryLine → List ℕ → Type 0
Allowed h line text = LineText (before h) line text

-- Some start line has the name.
abbrev pub IsNamed : List (List ℕ) → List ℕ → Type 0
IsNamed names name = (i : ℕ) × IsPlace names i name

-- Another line may follow: this is not the end line, and not a start line of a name that has one.
abbrev pub Onward : History → HistoryLine → Type 0
Onward h (kind.Start name value) = IsNamed h.names name → ⊥
Onward h (kind.Commit commit) = ⊤
Onward h kind.End = ⊥

-- a start line of a name that has one
abbrev pub NamesAgain : History → HistoryLine → Type 0
NamesAgain h (kind.Start name value) = IsNamed h.names name
NamesAgain h (kind.Commit commit) = ⊥
NamesAgain h kind.End = ⊥

-- The lines after the line `history`, and then the end line.
pub record IsHistory (h : History) (text : List ℕ) : Type 0 where
  pub lines : List HistoryLine
  pub front : List ℕ
  pub last : List ℕ
  pub lines_are : LinesText empty after Allowed Onward lines front
  pub says : reached empty after Allowed Onward lines ≡ h
  pub last_is : Allowed h kind.End last
  pub parts : text ≡ front ++ last

-- More follows the end line.
pub record IsTooLong (text : List ℕ) (line at : ℕ) : Type 0 where
  pub lines : List HistoryLine
  pub front : List ℕ
  pub last : List ℕ
  pub rest : List ℕ
  pub lines_are : LinesText empty after Allowed Onward lines front
  pub last_is : Allowed (reached empty after Allowed Onward lines) kind.End last
  pub parts : text ≡ front ++ (last ++ rest)
  pub more : length rest ≡ 0 → ⊥
  pub number : length lines + 2 ≡ line
  pub first : at ≡ 1

-- what is returned for the lines after the line `history`
abbrev pub Answered : List ℕ → Result History HistoryFault → Type 0
Answered text (Ok h) = IsHistory h text
Answered text (Err (faults.BadLine line at)) = IsBadLine empty after Allowed Onward text line at ⊎ IsTooLong text line at
Answered text (Err (faults.Twice line)) = IsFaultyLine empty after Allowed Onward NamesAgain text line
Answered text (Err faults.NoMemory) = ⊤

-- ---- the steps of the reader

-- the next line was read, or its fault is at this place in the text
abbrev pub NextLine : History → ℕ → List ℕ → List ℕ → Result HistoryLine HistoryFault → Type 0
NextLine h number old new (Ok line) = line_at (before h) old ≡ Ok (line, new)
NextLine h number old new (Err (faults.BadLine line at)) = (line ≡ number) × (left : ℕ) × (line_at (before h) old ≡ Err left) × (at ≡ length old - left + 1)
NextLine h number old new (Err (faults.Twice line)) = ⊥
NextLine h number old new (Err faults.NoMemory) = ⊤

-- the line was added, or it is the end line, or it repeats a name
abbrev pub Adds : History → HistoryLine → ℕ → History → Result Bool HistoryFault → Type 0
Adds old line number new (Ok true) = (new ≡ after old line) × Onward old line
Adds old line number new (Ok false) = (new ≡ old) × (line ≡ kind.End)
Adds old line number new (Err (faults.BadLine l at)) = ⊥
Adds old line number new (Err (faults.Twice l)) = (l ≡ number) × NamesAgain old line
Adds old line number new (Err faults.NoMemory) = ⊤

-- nothing is left, or the next line is one too many
abbrev pub Finishes : History → ℕ → List ℕ → Result History HistoryFault → Type 0
Finishes history number rest (Ok h) = (h ≡ history) × (length rest ≡ 0)
Finishes history number rest (Err (faults.BadLine line at)) = (line ≡ number + 1) × (at ≡ 1) × (length rest ≡ 0 → ⊥)
Finishes history number rest (Err (faults.Twice line)) = ⊥
Finishes history number rest (Err faults.NoMemory) = ⊥
