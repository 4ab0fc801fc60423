-- The fixed words of statements.
use Rattle.std.specs.Prelude.{ℕ, Bool, true, false, List, [], ◌∷◌, codes, Result}
use Rattle.vp_text.specs.Reading.{word_among}
use Rattle.vp_procedure.specs.declared.keyword.Keyword.{Keyword}
use Rattle.vp_procedure.specs.declared.keyword.Keyword.TheVariants as kw

abbrev pub word : Keyword → List ℕ
word kw.Read = codes "read "
word kw.Set = codes "set "
word kw.Write = codes "write "
word kw.If = codes "if "
word kw.Else = codes "else\n"
word kw.End = codes "end\n"
word kw.Fail = codes "fail "
word kw.Result = codes "result "
word kw.Plus = codes " + "
word kw.Minus = codes " - "
word kw.Less = codes " < "
word kw.Equal = codes " = "
word kw.Newline = codes "\n"

-- what may come after an expression: what compares it with another one, or the end of the line
abbrev pub ends_of : Bool → List Keyword
ends_of true = kw.Less ∷ kw.Equal ∷ []
ends_of false = kw.Newline ∷ []

-- what may come after its first term
abbrev pub signs_of : Bool → List Keyword
signs_of compared = kw.Plus ∷ kw.Minus ∷ ends_of compared

-- ---- reading

-- the word of one of the keywords
abbrev pub keyword_at : List Keyword → List ℕ → Result (Keyword × List ℕ) ℕ
keyword_at = word_among word
