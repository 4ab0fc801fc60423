-- The steps of the walk over the statements.
use Rattle.std.specs.Prelude.{◌≡◌, ⊤, ℕ, ◌+◌, ◌≤◌, List, ◌∷◌, length, Option}
use Rattle.vp_model.specs.Catalogue.{Catalogue}
use Rattle.vp_procedure.specs.declared.procedure.Statement.{Statement}
use Rattle.vp_base.specs.Words.{IsName, IsValue}
use Rattle.vp_catalog.specs.Document.{IsCatalogue}
use Rattle.vp_procedure.specs.Procedures.{IsLetter, IsStatement}
use Rattle.vp_proc.specs.declared.ended.End.{End}
use Rattle.vp_proc.specs.declared.ended.End.TheVariants as ends
use Rattle.vp_proc.specs.declared.walk.Mode.{Mode}
use Rattle.vp_proc.specs.declared.walk.Mode.TheVariants as mode
use Rattle.vp_proc.specs.declared.walk.Step.{Step}
use Rattle.vp_proc.specs.declared.walk.Step.TheVariants as steps
use Rattle.vp_proc.specs.declared.walk.Walk.{Walk}
use Rattle.vp_proc.specs.Scripts.{Script, Variables, script_from, with_number, with_variable, number_in}

-- a statement over some catalogue
abbrev pub IsSome : Statement → Type 0
IsSome s = (catalogue : Catalogue) × IsCatalogue catalogue × IsStatement catalogue s

-- It is an end without a result to which a statement comes.
abbrev pub IsFailure : End → Type 0
IsFailure (ends.Done number) = ⊥
IsFailure (ends.Refused a) = ⊥
IsFailure end = ⊤

-- The letter is one, and the call of the step may be sent.
abbrev pub IsStep : Step → Type 0
IsStep (steps.Read var name rec) = IsLetter var × IsName name name
IsStep (steps.Write name rec value) = IsName name name × IsValue value value
IsStep (steps.Stop end) = IsFailure end
IsStep step = ⊤

abbrev pub depth_of : Mode → ℕ
depth_of mode.Doing = 0
depth_of (mode.Passing to_else depth) = depth

-- what is left after a read was told this content
abbrev pub after_read : ℕ → Variables → Mode → List Statement → ℕ → Option (List ℕ) → Script
after_read line vars m rest var content = with_number (ends.NotNumber line) (number_in content) (λ n. script_from (line + 1) rest (with_variable var n vars) m)

-- what a step and the statements after it are
abbrev pub comes_to : ℕ → Variables → Mode → List Statement → Step → Script
comes_to line vars m rest steps.Next = script_from (line + 1) rest vars m
comes_to line vars m rest (steps.Read var name rec) = Script.reads rec name (after_read line vars m rest var)
comes_to line vars m rest (steps.Write name rec value) = Script.writes rec name value (script_from (line + 1) rest vars m)
comes_to line vars m rest (steps.Give n) = Script.gives n
comes_to line vars m rest (steps.Stop end) = Script.stops end

-- This is the step for the statement, and the walk is at the same line after it.
pub record StepsSo (old : Walk) (s : Statement) (new : Walk) (step : Step) : Type 0 where
  pub line : new.line ≡ old.line
  pub is : (rest : List Statement) → script_from old.line (s ∷ rest) old.vars old.mode ≡ comes_to old.line new.vars new.mode rest step
  pub step_is : IsStep step
  pub depth : depth_of new.mode ≤ depth_of old.mode + 1
  pub vars : length new.vars ≡ 26
