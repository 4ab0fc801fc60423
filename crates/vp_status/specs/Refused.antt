-- The lines that refuse an input.
use Rattle.std.specs.Prelude.{ℕ, List, [], ◌∷◌, ◌++◌, ◌==◌, if◌then◌else◌, codes}
use Rattle.std.specs.Fmt.{decimal}

-- the first line at fault, and the byte
abbrev pub bad_line_text : ℕ → ℕ → List ℕ
bad_line_text line at = codes "bad line " ++ (decimal line ++ (codes " at " ++ (decimal at ++ 10 ∷ [])))

-- the line that repeats what an earlier one has
abbrev pub twice_text : ℕ → List ℕ
twice_text line = codes "twice line " ++ (decimal line ++ 10 ∷ [])

-- what the limit counts
abbrev pub limit_words : ℕ → List ℕ
limit_words limit = if limit == 256 then codes "records " else (if limit == 2000000 then codes "messages " else codes "events ")

abbrev pub limit_text : ℕ → List ℕ
limit_text limit = codes "limit " ++ (limit_words limit ++ (decimal limit ++ 10 ∷ []))
