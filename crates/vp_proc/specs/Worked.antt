-- Worked procedures, each as it comes out on one copy of one record.
use Rattle.std.specs.Prelude.{ℕ, List, [], ◌∷◌, codes, Option}
use Rattle.vp_model.specs.Types.{Op}
use Rattle.vp_model.specs.OneCopy.{Values}
use Rattle.vp_procedure.specs.declared.procedure.Term.TheVariants as term
use Rattle.vp_procedure.specs.declared.procedure.Expr.{Expr}
use Rattle.vp_procedure.specs.declared.procedure.Expr.TheVariants as expr
use Rattle.vp_procedure.specs.declared.procedure.Statement.{Statement}
use Rattle.vp_procedure.specs.declared.procedure.Statement.TheVariants as statement
use Rattle.vp_procedure.specs.declared.procedure.Procedure.{Procedure}
use Rattle.vp_proc.specs.declared.ended.End.{End}
use Rattle.vp_proc.specs.Scripts.{Evaluated}

-- the statements come after a site line, a record line and the line `procedure`
abbrev pub procedure : List Statement → Procedure
procedure statements = record { first = 4; statements = statements }

abbrev pub one : Option (List ℕ) → Values
one content = content ∷ []

abbrev pub a : Expr
a = expr.Just (term.Var 97)

abbrev pub n : ℕ → Expr
n value = expr.Just (term.Number value)

abbrev pub x : List ℕ
x = codes "x"

abbrev pub reads_x : Statement
reads_x = statement.Read 97 x 0

abbrev pub comes_out : List Op → Option (List ℕ) → End → Evaluated
comes_out ops content end = record { ops = ops; last = one content; end = end }

-- one more than x
abbrev pub counter : Procedure
counter = procedure (reads_x ∷ statement.Set 97 (expr.Sum (term.Var 97) (term.Number 1)) ∷ statement.Write x 0 a ∷ statement.Give a ∷ [])

-- fails if x is less than 20
abbrev pub floor : Procedure
floor = procedure (reads_x ∷ statement.IfLess a (n 20) ∷ statement.Fail 7 ∷ statement.End ∷ statement.Give a ∷ [])

-- 5 if x is 10, within which an `if` is passed over, and 6 else
abbrev pub nested : Procedure
nested = procedure (
    reads_x ∷ statement.IfEqual a (n 10) ∷ statement.Set 97 (n 5) ∷ statement.IfLess (n 1) (n 0) ∷ statement.Fail 1 ∷ statement.Else ∷ statement.End
    ∷ statement.Else ∷ statement.IfLess (n 0) (n 1) ∷ statement.Set 97 (n 6) ∷ statement.End ∷ statement.End ∷ statement.Give a ∷ [])

-- less than 0
abbrev pub below : Procedure
below = procedure (statement.Set 97 (expr.Difference (term.Number 0) (term.Number 1)) ∷ statement.Give a ∷ [])
