-- The lines of a procedure's input, each allowed by the lines before it.
use Rattle.std.specs.Prelude.{◌≡◌, ⊤, ℕ, ◌+◌, ◌<◌, ◌≤◌, true, false, [], ◌∷◌, ◌++◌, List, length, Bool, Result, Ok, Err}
use Rattle.vp_catalog.specs.declared.fault.CatalogFault.{CatalogFault}
use Rattle.vp_catalog.specs.declared.fault.CatalogFault.TheVariants as catalog_faults
use Rattle.vp_heads.specs.Heads as heads
use Rattle.vp_procedure.specs.declared.line.ProcedureLine.{ProcedureLine}
use Rattle.vp_procedure.specs.declared.line.ProcedureLine.TheVariants as kind
use Rattle.vp_procedure.specs.declared.draft.ProcedureDraft.{ProcedureDraft}
use Rattle.vp_procedure.specs.declared.draft.ProcedureInput.{ProcedureInput}
use Rattle.vp_procedure.specs.declared.fault.ProcedureFault.{ProcedureFault}
use Rattle.vp_procedure.specs.declared.fault.ProcedureFault.TheVariants as faults
use Rattle.vp_procedure.specs.Procedures.{key, statement_line, IsStatement, IsInPlace, opened_by, is_result}

-- ---- the lines

-- The statements come after the line `procedure`, and that after the lines of the catalogue.
abbrev pub LineText : ProcedureDraft → ProcedureLine → List ℕ → Type 0
LineText d (kind.Head line) text = heads.LineText key d.head line text
LineText d (kind.Statement s) text = (d.head.opened ≡ true) × IsStatement d.head.catalog s × IsInPlace d.ifs s × (text ≡ statement_line s)

-- The lines before it allow the line to be added.
abbrev pub Allows : ProcedureDraft → ProcedureLine → Type 0
Allows d (kind.Head line) = heads.Allows d.head line
Allows d (kind.Statement s) = ⊤

-- ---- from one line to the next

abbrev pub blank : ProcedureDraft
blank = record { head = heads.blank; statements = []; ifs = [] }

abbrev pub after : ProcedureDraft → ProcedureLine → ProcedureDraft
after d (kind.Head line) = record d { head = heads.after d.head line }
after d (kind.Statement s) = record d { statements = d.statements ++ s ∷ []; ifs = opened_by s d.ifs }

-- It is the line `result`: the text ends with it.
abbrev pub Closes : ProcedureDraft → ProcedureLine → Type 0
Closes d (kind.Head line) = ⊥
Closes d (kind.Statement s) = is_result s ≡ true

-- It is the last of 256 statements, and not `result`: no line can follow it, though one has to.
abbrev pub Overruns : ProcedureDraft → ProcedureLine → Type 0
Overruns d (kind.Head line) = ⊥
Overruns d (kind.Statement s) = (is_result s ≡ false) × (256 ≤ length d.statements + 1)

-- A line may follow this one.
abbrev pub Onward : ProcedureDraft → ProcedureLine → Type 0
Onward d (kind.Head line) = heads.Onward d.head line
Onward d (kind.Statement s) = (is_result s ≡ false) × (length d.statements + 1 < 256)

-- It repeats a port or a name.
abbrev pub Repeats : ProcedureDraft → ProcedureLine → Type 0
Repeats d (kind.Head line) = heads.Repeats d.head line
Repeats d (kind.Statement s) = ⊥

-- It is a record line after 256 records.
abbrev pub Overfills : ProcedureDraft → ProcedureLine → Type 0
Overfills d (kind.Head line) = heads.Overfills d.head line
Overfills d (kind.Statement s) = ⊥

abbrev pub fault_of : CatalogFault → ProcedureFault
fault_of (catalog_faults.BadLine line at) = faults.BadLine line at
fault_of (catalog_faults.Twice line) = faults.Twice line
fault_of (catalog_faults.TooMany line limit) = faults.TooMany line limit
fault_of catalog_faults.NoMemory = faults.NoMemory

-- The line of this number was added, and another one may follow, or none.
abbrev pub Adds : ProcedureDraft → ProcedureLine → ℕ → ProcedureDraft → Result Bool ProcedureFault → Type 0
Adds old line number new (Ok true) = (new ≡ after old line) × Onward old line
Adds old line number new (Ok false) = (new ≡ after old line) × Closes old line
Adds old line number new (Err (faults.BadLine l at)) = (l ≡ number + 1) × (at ≡ 1) × Overruns old line
Adds old line number new (Err (faults.Twice l)) = (l ≡ number) × Repeats old line
Adds old line number new (Err (faults.TooMany l limit)) = (l ≡ number) × (limit ≡ 256) × Overfills old line
Adds old line number new (Err faults.NoMemory) = ⊤

-- what the lines say, after the last one
abbrev pub input_of : ProcedureDraft → ProcedureInput
input_of d = record {
  catalog = d.head.catalog;
  procedure = record { first = length d.head.catalog.sites + length d.head.catalog.records + 2; statements = d.statements };
}
