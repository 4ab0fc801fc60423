-- Reading variables, terms and expressions from left to right.
use Rattle.std.specs.Prelude.{ℕ, ◌^◌, ◌-◌, ◌&&◌, nat_le, if◌then◌else◌, Bool, List, [], ◌∷◌, length, Result, Ok, Err}
use Rattle.vp_text.specs.Reading.{◌>>=◌, number_at, either}
use Rattle.vp_procedure.specs.declared.procedure.Term.{Term}
use Rattle.vp_procedure.specs.declared.procedure.Term.TheVariants as term
use Rattle.vp_procedure.specs.declared.procedure.Expr.{Expr}
use Rattle.vp_procedure.specs.declared.procedure.Expr.TheVariants as expr
use Rattle.vp_procedure.specs.declared.keyword.Keyword.{Keyword}
use Rattle.vp_procedure.specs.declared.keyword.Keyword.TheVariants as kw
use Rattle.vp_procedure.specs.Keywords.{ends_of, signs_of, keyword_at}

-- ---- terms

abbrev pub letter_at : List ℕ → Result (ℕ × List ℕ) ℕ
letter_at [] = Err 0
letter_at (c ∷ bytes) = if nat_le 97 c && nat_le c 122 then Ok (c, bytes) else Err (length (c ∷ bytes))

unfoldable pub variable_at : List ℕ → Result (Term × List ℕ) ℕ
variable_at bytes = do
  letter ← letter_at bytes
  Ok (term.Var letter.0, letter.1)

unfoldable pub constant_at : List ℕ → Result (Term × List ℕ) ℕ
constant_at bytes = do
  n ← number_at 0 (2 ^ 64 - 1) bytes
  Ok (term.Number n.0, n.1)

unfoldable pub term_at : List ℕ → Result (Term × List ℕ) ℕ
term_at bytes = either (variable_at bytes) (constant_at bytes)

-- ---- expressions, each with the word after it: what compares it with another one, or the end of its line

abbrev pub ReadExpr : Type 0
ReadExpr = Result ((Expr × Keyword) × List ℕ) ℕ

unfoldable pub sum_at : Term → Bool → List ℕ → ReadExpr
sum_at a compared bytes = do
  b ← term_at bytes
  end ← keyword_at (ends_of compared) b.1
  Ok ((expr.Sum a b.0, end.0), end.1)

unfoldable pub difference_at : Term → Bool → List ℕ → ReadExpr
difference_at a compared bytes = do
  b ← term_at bytes
  end ← keyword_at (ends_of compared) b.1
  Ok ((expr.Difference a b.0, end.0), end.1)

-- after the first term and this word
abbrev pub after_term_at : Term → Bool → Keyword → List ℕ → ReadExpr
after_term_at a compared kw.Plus bytes = sum_at a compared bytes
after_term_at a compared kw.Minus bytes = difference_at a compared bytes
after_term_at a compared end bytes = Ok ((expr.Just a, end), bytes)

unfoldable pub expr_at : Bool → List ℕ → ReadExpr
expr_at compared bytes = do
  a ← term_at bytes
  sign ← keyword_at (signs_of compared) a.1
  after_term_at a.0 compared sign.0 sign.1
