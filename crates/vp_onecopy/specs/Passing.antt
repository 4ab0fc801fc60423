-- The lines before the line `history`.
use Rattle.std.specs.Prelude.{◌≡◌, ◌≢◌, ◌+◌, ⊤, ℕ, zero, suc, List, [], ◌++◌, length, codes, Result, Ok, Err, ◌⊎◌}
use Rattle.vp_text.specs.Documents.{HasNoNewline, IsLine, IsBadLine, IsFaultyLine}
use Rattle.vp_model.specs.Texts.History.{history_lines}
pub use Rattle.vp_onecopy.specs.Whole.{IsWhole}
use Rattle.vp_onecopy.specs.declared.map.History.{History}
use Rattle.vp_onecopy.specs.declared.fault.HistoryFault.{HistoryFault}
use Rattle.vp_onecopy.specs.declared.fault.HistoryFault.TheVariants as faults
use Rattle.vp_onecopy.specs.History.{empty, after, Allowed, Onward, NamesAgain, IsHistory, IsTooLong}

abbrev pub history_line : List ℕ
history_line = codes "history\n"

-- that many lines, none of which is the line `history`
abbrev pub Passed : ℕ → List ℕ → Type 0
Passed zero text = text ≡ []
Passed (suc n) text = (front : List ℕ) × (line : List ℕ) × Passed n front × IsLine line × (line ≡ history_line → ⊥) × (text ≡ front ++ line)

-- The first line `history` comes after that many lines; or there is none, and only that many lines end with a newline.
abbrev pub Passes : List ℕ → List ℕ → Result ℕ ℕ → Type 0
Passes old new (Ok n) = (front : List ℕ) × Passed n front × (old ≡ front ++ (history_line ++ new))
Passes old new (Err n) = (front : List ℕ) × Passed n front × (old ≡ front ++ new) × HasNoNewline new

-- What is returned where the rest comes after that many lines and the line `history`: its lines are counted on from there.
abbrev pub Following : ℕ → List ℕ → Result History HistoryFault → Type 0
Following n rest (Ok h) = IsHistory h rest
Following n rest (Err (faults.BadLine line at)) = (l : ℕ) × (line ≡ n + 1 + l) × (IsBadLine empty after Allowed Onward rest l at ⊎ IsTooLong rest l at)
Following n rest (Err (faults.Twice line)) = (l : ℕ) × (line ≡ n + 1 + l) × IsFaultyLine empty after Allowed Onward NamesAgain rest l
Following n rest (Err faults.NoMemory) = ⊤

-- Where no line is `history`, the fault is after the last byte.
abbrev pub IsMissing : ℕ → List ℕ → Result History HistoryFault → Type 0
IsMissing n rest (Ok h) = ⊥
IsMissing n rest (Err (faults.BadLine line at)) = (line ≡ n + 1) × (at ≡ length rest + 1) × HasNoNewline rest
IsMissing n rest (Err (faults.Twice line)) = ⊥
IsMissing n rest (Err faults.NoMemory) = ⊥

-- What is returned for the whole text: it has that many lines before the first line `history`, or has no such line.
abbrev pub AnsweredAll : List ℕ → Result History HistoryFault → Type 0
AnsweredAll text result = (n : ℕ) × (front : List ℕ) × (rest : List ℕ) × Passed n front
    × (((text ≡ front ++ (history_line ++ rest)) × Following n rest result) ⊎ ((text ≡ front ++ rest) × IsMissing n rest result))

-- Only one result is possible for a text, apart from want of memory.
abbrev pub IsOnly : List ℕ → Result History HistoryFault → Type 0
IsOnly text result =
    (other : Result History HistoryFault) → AnsweredAll text other → result ≢ Err faults.NoMemory → other ≢ Err faults.NoMemory → other ≡ result

-- After lines other than the line `history`, the text is that of the history, and ends with it.
abbrev pub IsPrintedIn : List ℕ → History → Type 0
IsPrintedIn text h = (n : ℕ) × (front : List ℕ) × Passed n front × (text ≡ front ++ history_lines h.names h.start h.commits)

-- Where memory suffices, such a text of a whole history is read as this history.
abbrev pub IsTaken : List ℕ → Result History HistoryFault → Type 0
IsTaken text result = (h : History) → IsWhole h → IsPrintedIn text h → result ≢ Err faults.NoMemory → result ≡ Ok h

-- The text that is printed of the history is the text of exactly this history.
abbrev pub IsReadBack : History → Type 0
IsReadBack h = AnsweredAll (history_lines h.names h.start h.commits) (Ok h)
