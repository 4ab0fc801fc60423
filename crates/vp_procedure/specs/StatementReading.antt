-- Reading statements from left to right, each with its newline.
use Rattle.std.specs.Prelude.{ℕ, true, false, List, [], ◌∷◌, length, slice_index_or, Result, Ok, Err}
use Rattle.vp_text.specs.Reading.{◌>>=◌, literal_at, number_at}
use Rattle.vp_base.specs.Reading.{among_at}
use Rattle.vp_procedure.specs.declared.procedure.Expr.{Expr}
use Rattle.vp_procedure.specs.declared.procedure.Statement.{Statement}
use Rattle.vp_procedure.specs.declared.procedure.Statement.TheVariants as statement
use Rattle.vp_procedure.specs.declared.keyword.Keyword.{Keyword}
use Rattle.vp_procedure.specs.declared.keyword.Keyword.TheVariants as kw
use Rattle.vp_procedure.specs.ExprReading.{letter_at, expr_at}

abbrev pub Read : Type 0
Read = Result (Statement × List ℕ) ℕ

-- one of the names, with its place
unfoldable pub record_at : List (List ℕ) → List ℕ → Result ((List ℕ × ℕ) × List ℕ) ℕ
record_at names bytes = do
  place ← among_at names bytes
  Ok ((slice_index_or names place.0 [], place.0), place.1)

-- ---- what follows the first word

unfoldable pub read_at : List (List ℕ) → List ℕ → Read
read_at names bytes = do
  var ← letter_at bytes
  space ← literal_at (32 ∷ []) var.1
  rec ← record_at names space.1
  end ← literal_at (10 ∷ []) rec.1
  Ok (statement.Read var.0 rec.0.0 rec.0.1, end.1)

unfoldable pub set_at : List ℕ → Read
set_at bytes = do
  var ← letter_at bytes
  space ← literal_at (32 ∷ []) var.1
  e ← expr_at false space.1
  Ok (statement.Set var.0 e.0.0, e.1)

unfoldable pub write_at : List (List ℕ) → List ℕ → Read
write_at names bytes = do
  rec ← record_at names bytes
  space ← literal_at (32 ∷ []) rec.1
  e ← expr_at false space.1
  Ok (statement.Write rec.0.0 rec.0.1 e.0.0, e.1)

-- the `if` that compares so
abbrev pub comparison : Keyword → Expr → Expr → Statement
comparison kw.Less a b = statement.IfLess a b
comparison _ a b = statement.IfEqual a b

unfoldable pub if_at : List ℕ → Read
if_at bytes = do
  a ← expr_at true bytes
  b ← expr_at false a.1
  Ok (comparison a.0.1 a.0.0 b.0.0, b.1)

unfoldable pub fail_at : List ℕ → Read
fail_at bytes = do
  code ← number_at 0 255 bytes
  end ← literal_at (10 ∷ []) code.1
  Ok (statement.Fail code.0, end.1)

unfoldable pub result_at : List ℕ → Read
result_at bytes = do
  e ← expr_at false bytes
  Ok (statement.Give e.0.0, e.1)

abbrev pub fields_at : List (List ℕ) → Keyword → List ℕ → Read
fields_at names kw.Read bytes = read_at names bytes
fields_at names kw.Set bytes = set_at bytes
fields_at names kw.Write bytes = write_at names bytes
fields_at names kw.If bytes = if_at bytes
fields_at names kw.Else bytes = Ok (statement.Else, bytes)
fields_at names kw.End bytes = Ok (statement.End, bytes)
fields_at names kw.Fail bytes = fail_at bytes
fields_at names kw.Result bytes = result_at bytes
fields_at names _ bytes = Err (length bytes)
