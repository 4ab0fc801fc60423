-- Texts of lines, where the lines before a line decide whether it is allowed: the state is `first` at the beginning, `Line s e
-- text` means that the line e is allowed in the state s and has this text, `after s e` is the state after it, and `Onward s e`
-- means that another line may follow.
use Rattle.std.specs.Prelude.{◌≡◌, ℕ, ◌+◌, List, [], ◌∷◌, ◌++◌, length, ◌==◌, if◌then◌else◌}
use Rattle.std.specs.List.{AllByRecursion}
use Rattle.vp_text.specs.Meaning.{IsLongest}

abbrev pub HasNoNewline : List ℕ → Type 0
HasNoNewline bytes = AllByRecursion (λ c. c ≡ 10 → ⊥) bytes

-- bytes without a newline, and a newline
abbrev pub IsLine : List ℕ → Type 0
IsLine line = (body : List ℕ) × HasNoNewline body × (line ≡ body ++ 10 ∷ [])

-- the line of a word and a text, its newline included
abbrev pub word_line : List ℕ → List ℕ → List ℕ
word_line word text = word ++ (text ++ 10 ∷ [])

-- a text's first line, its newline included
abbrev pub first_line : List ℕ → List ℕ
first_line [] = []
first_line (c ∷ cs) = if c == 10 then c ∷ [] else c ∷ first_line cs

module _ {S E : Type 0} (first : S) (after : S → E → S) (Line : S → E → List ℕ → Type 0) (Onward : S → E → Type 0) where
  -- the state after some lines, the newest first
  abbrev pub reached : List E → S
  reached [] = first
  reached (e ∷ es) = after (reached es) e

  -- the text of the lines, the newest first, each allowed where it is
  abbrev pub LinesText : List E → List ℕ → Type 0
  LinesText [] text = text ≡ []
  LinesText (e ∷ es) text = (front : List ℕ) × (line : List ℕ) × LinesText es front × Line (reached es) e line × Onward (reached es) e × (text ≡ front ++ line)

  -- After the first lines comes no allowed line; `at` is one more than the length of the longest prefix of the next line, its
  -- newline included, that begins an allowed one.
  pub record IsBadLine (text : List ℕ) (line at : ℕ) : Type 0 where
    pub lines : List E
    pub front : List ℕ
    pub rest : List ℕ
    pub lines_are : LinesText lines front
    pub parts : text ≡ front ++ rest
    pub number : length lines + 1 ≡ line
    pub none : (e : E) (t r : List ℕ) → Line (reached lines) e t → rest ≡ t ++ r → ⊥
    pub longest : (k : ℕ) × (k + 1 ≡ at) × IsLongest (Line (reached lines)) (first_line rest) k

  -- After the first lines comes an allowed line that is faulty, for example because it repeats a name.
  pub record IsFaultyLine (Faulty : S → E → Type 0) (text : List ℕ) (line : ℕ) : Type 0 where
    pub lines : List E
    pub front : List ℕ
    pub faulty : List ℕ
    pub rest : List ℕ
    pub entry : E
    pub lines_are : LinesText lines front
    pub faulty_is : Line (reached lines) entry faulty
    pub fault : Faulty (reached lines) entry
    pub parts : text ≡ front ++ (faulty ++ rest)
    pub number : length lines + 1 ≡ line
