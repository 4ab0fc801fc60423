-- Reading the lines of a procedure's input from left to right.
use Rattle.std.specs.Prelude.{ℕ, Bool, true, false, cond, filter, nat_lt, ◌==◌, List, [], ◌∷◌, length, Result, Ok}
use Rattle.vp_text.specs.Reading.{◌>>=◌}
use Rattle.vp_heads.specs.HeadReading.{head_at}
use Rattle.vp_procedure.specs.declared.draft.ProcedureDraft.{ProcedureDraft}
use Rattle.vp_procedure.specs.declared.line.ProcedureLine.{ProcedureLine}
use Rattle.vp_procedure.specs.declared.line.ProcedureLine.TheVariants as kind
use Rattle.vp_procedure.specs.declared.keyword.Keyword.{Keyword}
use Rattle.vp_procedure.specs.declared.keyword.Keyword.TheVariants as kw
use Rattle.vp_procedure.specs.Procedures.{key, names_of, may_else}
use Rattle.vp_procedure.specs.Keywords.{keyword_at}
use Rattle.vp_procedure.specs.StatementReading.{fields_at}

-- a statement that begins so may come next. One that names a record needs one in the catalogue
abbrev pub may_begin : ProcedureDraft → Keyword → Bool
may_begin d kw.Read = nat_lt 0 (length d.head.catalog.records)
may_begin d kw.Set = true
may_begin d kw.Write = nat_lt 0 (length d.head.catalog.records)
may_begin d kw.If = nat_lt (length d.ifs) 16
may_begin d kw.Else = may_else d.ifs
may_begin d kw.End = nat_lt 0 (length d.ifs)
may_begin d kw.Fail = true
may_begin d kw.Result = length d.ifs == 0
may_begin d _ = false

abbrev pub all_first_words : List Keyword
all_first_words = kw.Read ∷ kw.Set ∷ kw.Write ∷ kw.If ∷ kw.Else ∷ kw.End ∷ kw.Fail ∷ kw.Result ∷ []

abbrev pub first_words : ProcedureDraft → List Keyword
first_words d = filter (may_begin d) all_first_words

unfoldable pub statement_line_at : ProcedureDraft → List ℕ → Result (ProcedureLine × List ℕ) ℕ
statement_line_at d bytes = do
  keyword ← keyword_at (first_words d) bytes
  s ← fields_at (names_of d.head.catalog) keyword.0 keyword.1
  Ok (kind.Statement s.0, s.1)

unfoldable pub head_line_at : ProcedureDraft → List ℕ → Result (ProcedureLine × List ℕ) ℕ
head_line_at d bytes = do
  line ← head_at key d.head.catalog bytes
  Ok (kind.Head line.0, line.1)

unfoldable pub line_at : ProcedureDraft → List ℕ → Result (ProcedureLine × List ℕ) ℕ
line_at d bytes = cond d.head.opened (statement_line_at d bytes) (head_line_at d bytes)
