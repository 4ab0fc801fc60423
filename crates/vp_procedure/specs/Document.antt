-- The texts of procedures, and the places of their faults.
use Rattle.std.specs.Prelude.{◌≡◌, ◌≢◌, ◌⊎◌, ⊤, ℕ, ◌+◌, ◌-◌, ◌<◌, List, length, Result, Ok, Err}
use Rattle.vp_text.specs.Documents.{IsBadLine, IsFaultyLine}
use Rattle.vp_procedure.specs.declared.draft.ProcedureDraft.{ProcedureDraft}
use Rattle.vp_procedure.specs.declared.draft.ProcedureInput.{ProcedureInput}
use Rattle.vp_procedure.specs.declared.fault.ProcedureFault.{ProcedureFault}
use Rattle.vp_procedure.specs.declared.fault.ProcedureFault.TheVariants as faults
use Rattle.vp_procedure.specs.declared.line.ProcedureLine.{ProcedureLine}
use Rattle.vp_procedure.specs.Procedures.{IsProcedureOf, procedure_text}
use Rattle.vp_procedure.specs.Drafts.{blank, after, LineText, Onward, Closes, Overruns, Repeats, Overfills, input_of}
use Rattle.vp_procedure.specs.LineReading.{line_at}

abbrev pub IsProcedureText : ProcedureInput → List ℕ → Type 0
IsProcedureText it text = IsProcedureOf it.catalog it.procedure × (procedure_text it.catalog it.procedure ≡ text)

-- More comes after the line `result`, which is the line of this number.
abbrev pub IsTooLong : List ℕ → ℕ → Type 0
IsTooLong text line = (f : IsFaultyLine blank after LineText Onward Closes text line) × (0 < length f.rest)

-- No line that is allowed is there; or none can be, since 256 statements came before it without a `result`, or since `result` did.
abbrev pub IsBadPlace : List ℕ → ℕ → ℕ → Type 0
IsBadPlace text line at =
    IsBadLine blank after LineText Onward text line at
    ⊎ ((before : ℕ) × (line ≡ before + 1) × (at ≡ 1) × (IsFaultyLine blank after LineText Onward Overruns text before ⊎ IsTooLong text before))

-- What is returned for a text.
abbrev pub Answered : List ℕ → Result ProcedureInput ProcedureFault → Type 0
Answered text (Ok it) = IsProcedureText it text
Answered text (Err (faults.BadLine line at)) = IsBadPlace text line at × ((it : ProcedureInput) → IsProcedureText it text → ⊥)
Answered text (Err (faults.Twice line)) = IsFaultyLine blank after LineText Onward Repeats text line
Answered text (Err (faults.TooMany line limit)) = (limit ≡ 256) × IsFaultyLine blank after LineText Onward Overfills text line
Answered text (Err faults.NoMemory) = ⊤

-- Only one result is possible for a text, apart from want of memory.
abbrev pub IsOnly : List ℕ → Result ProcedureInput ProcedureFault → Type 0
IsOnly text result = (other : Result ProcedureInput ProcedureFault) → Answered text other → result ≢ Err faults.NoMemory → other ≢ Err faults.NoMemory → other ≡ result

-- If memory suffices, the text of a procedure is read as this procedure.
abbrev pub IsTaken : List ℕ → Result ProcedureInput ProcedureFault → Type 0
IsTaken text result = (it : ProcedureInput) → IsProcedureText it text → result ≢ Err faults.NoMemory → result ≡ Ok it

-- ---- the steps of the reader

-- the next line was read, or its fault is at this place in the text
abbrev pub NextLine : ProcedureDraft → ℕ → List ℕ → List ℕ → Result ProcedureLine ProcedureFault → Type 0
NextLine draft number old new (Ok line) = line_at draft old ≡ Ok (line, new)
NextLine draft number old new (Err (faults.BadLine line at)) = (line ≡ number) × (left : ℕ) × (line_at draft old ≡ Err left) × (at ≡ length old - left + 1)
NextLine draft number old new (Err (faults.Twice line)) = ⊥
NextLine draft number old new (Err (faults.TooMany line limit)) = ⊥
NextLine draft number old new (Err faults.NoMemory) = ⊤

-- nothing is left, or the next line is one too many
abbrev pub Finishes : ProcedureDraft → ℕ → List ℕ → Result ProcedureInput ProcedureFault → Type 0
Finishes draft number rest (Ok it) = (it ≡ input_of draft) × (length rest ≡ 0)
Finishes draft number rest (Err (faults.BadLine line at)) = (line ≡ number + 1) × (at ≡ 1) × (0 < length rest)
Finishes draft number rest (Err fault) = ⊥
