-- The lines of a procedure, and which procedures there are over a catalogue.
use Rattle.std.specs.Prelude.{◌≡◌, ⊤, ℕ, ◌+◌, ◌-◌, ◌≤◌, ◌<◌, ◌^◌, Bool, true, false, not, List, [], ◌∷◌, ◌++◌, length, map, flat_map, codes}
use Rattle.std.specs.Fmt.{decimal}
use Rattle.vp_base.specs.Words.{IsPlace}
use Rattle.vp_model.specs.Catalogue.{Catalogue}
use Rattle.vp_model.specs.Texts.Schedule.{catalogue_text}
use Rattle.vp_catalog.specs.Document.{IsCatalogue}
use Rattle.vp_procedure.specs.declared.procedure.Term.{Term}
use Rattle.vp_procedure.specs.declared.procedure.Term.TheVariants as term
use Rattle.vp_procedure.specs.declared.procedure.Expr.{Expr}
use Rattle.vp_procedure.specs.declared.procedure.Expr.TheVariants as expr
use Rattle.vp_procedure.specs.declared.procedure.Statement.{Statement}
use Rattle.vp_procedure.specs.declared.procedure.Statement.TheVariants as statement
use Rattle.vp_procedure.specs.declared.procedure.Procedure.{Procedure}

-- ---- texts

abbrev pub term_text : Term → List ℕ
term_text (term.Var letter) = letter ∷ []
term_text (term.Number value) = decimal value

abbrev pub expr_text : Expr → List ℕ
expr_text (expr.Just a) = term_text a
expr_text (expr.Sum a b) = term_text a ++ (codes " + " ++ term_text b)
expr_text (expr.Difference a b) = term_text a ++ (codes " - " ++ term_text b)

-- the line of a statement, its newline included
abbrev pub statement_line : Statement → List ℕ
statement_line (statement.Read var name rec) = codes "read " ++ var ∷ 32 ∷ (name ++ 10 ∷ [])
statement_line (statement.Set var e) = codes "set " ++ var ∷ 32 ∷ (expr_text e ++ 10 ∷ [])
statement_line (statement.Write name rec e) = codes "write " ++ (name ++ 32 ∷ (expr_text e ++ 10 ∷ []))
statement_line (statement.IfLess a b) = codes "if " ++ (expr_text a ++ (codes " < " ++ (expr_text b ++ 10 ∷ [])))
statement_line (statement.IfEqual a b) = codes "if " ++ (expr_text a ++ (codes " = " ++ (expr_text b ++ 10 ∷ [])))
statement_line statement.Else = codes "else\n"
statement_line statement.End = codes "end\n"
statement_line (statement.Fail code) = codes "fail " ++ (decimal code ++ 10 ∷ [])
statement_line (statement.Give e) = codes "result " ++ (expr_text e ++ 10 ∷ [])

-- ---- single statements

abbrev pub IsLetter : ℕ → Type 0
IsLetter letter = (97 ≤ letter) × (letter ≤ 122)

abbrev pub IsTerm : Term → Type 0
IsTerm (term.Var letter) = IsLetter letter
IsTerm (term.Number value) = value ≤ 2 ^ 64 - 1

abbrev pub IsExpr : Expr → Type 0
IsExpr (expr.Just a) = IsTerm a
IsExpr (expr.Sum a b) = IsTerm a × IsTerm b
IsExpr (expr.Difference a b) = IsTerm a × IsTerm b

abbrev pub names_of : Catalogue → List (List ℕ)
names_of catalogue = map (λ entry. entry.name) catalogue.records

-- It names records of the catalogue, each with its place there.
abbrev pub IsStatement : Catalogue → Statement → Type 0
IsStatement catalogue (statement.Read var name rec) = IsLetter var × IsPlace (names_of catalogue) rec name
IsStatement catalogue (statement.Set var e) = IsLetter var × IsExpr e
IsStatement catalogue (statement.Write name rec e) = IsPlace (names_of catalogue) rec name × IsExpr e
IsStatement catalogue (statement.IfLess a b) = IsExpr a × IsExpr b
IsStatement catalogue (statement.IfEqual a b) = IsExpr a × IsExpr b
IsStatement catalogue statement.Else = ⊤
IsStatement catalogue statement.End = ⊤
IsStatement catalogue (statement.Fail code) = code ≤ 255
IsStatement catalogue (statement.Give e) = IsExpr e

-- ---- in their places

-- the innermost open `if` has no `else` yet. Of open `if`s the innermost is the first, and true says that its `else` has come
abbrev pub may_else : List Bool → Bool
may_else [] = false
may_else (has_else ∷ ifs) = not has_else

abbrev pub with_else : List Bool → List Bool
with_else [] = []
with_else (has_else ∷ ifs) = true ∷ ifs

abbrev pub without_first : List Bool → List Bool
without_first [] = []
without_first (has_else ∷ ifs) = ifs

-- the `if`s that are open after a statement
abbrev pub opened_by : Statement → List Bool → List Bool
opened_by (statement.IfLess a b) ifs = false ∷ ifs
opened_by (statement.IfEqual a b) ifs = false ∷ ifs
opened_by statement.Else ifs = with_else ifs
opened_by statement.End ifs = without_first ifs
opened_by _ ifs = ifs

-- The open `if`s allow it: `if` is nested to 16, each `else` or `end` belongs to the innermost one, and `result` is in none.
abbrev pub IsInPlace : List Bool → Statement → Type 0
IsInPlace ifs (statement.IfLess a b) = length ifs < 16
IsInPlace ifs (statement.IfEqual a b) = length ifs < 16
IsInPlace ifs statement.Else = may_else ifs ≡ true
IsInPlace ifs statement.End = 0 < length ifs
IsInPlace ifs (statement.Give e) = length ifs ≡ 0
IsInPlace ifs _ = ⊤

abbrev pub is_result : Statement → Bool
is_result (statement.Give e) = true
is_result _ = false

-- The statements come to the line `result`, which is the last one.
abbrev pub AreStatements : Catalogue → List Bool → List Statement → Type 0
AreStatements catalogue ifs [] = ⊥
AreStatements catalogue ifs (s ∷ []) = IsStatement catalogue s × IsInPlace ifs s × (is_result s ≡ true)
AreStatements catalogue ifs (s ∷ t ∷ rest) = IsStatement catalogue s × IsInPlace ifs s × (is_result s ≡ false) × AreStatements catalogue (opened_by s ifs) (t ∷ rest)

-- ---- procedures

-- A procedure over the records of this catalogue. Its lines come after those of the catalogue and the line `procedure`.
pub record IsProcedureOf (catalogue : Catalogue) (p : Procedure) : Type 0 where
  pub catalogue_is : IsCatalogue catalogue
  pub first_is : p.first ≡ length catalogue.sites + length catalogue.records + 2
  pub statements_are : AreStatements catalogue [] p.statements
  pub few : length p.statements ≤ 256

-- An input in the grammar spells it.
abbrev pub IsProcedure : Procedure → Type 0
IsProcedure p = (catalogue : Catalogue) × IsProcedureOf catalogue p

abbrev pub key : List ℕ
key = codes "procedure\n"

abbrev pub procedure_text : Catalogue → Procedure → List ℕ
procedure_text catalogue p = catalogue_text catalogue ++ (key ++ flat_map statement_line p.statements)
