-- Worked inputs: what is found in them however they are cut.
use Rattle.std.specs.Prelude.{◌≡◌, ℕ, List, [], ◌∷◌, ◌++◌, codes}
use Rattle.vp_outside.specs.Input.{SourceState}
use Rattle.vp_lines.specs.Ahead.{Ahead, fitting, HasLine, HasRest}
use Rattle.vp_lines.specs.Lines.{Split, split}
use Rattle.vp_lines.specs.declared.unread.LineFound.{LineFound}

abbrev pub parts : List (List ℕ) → List ℕ → Split
parts lines rest = record { lines = lines; rest = rest }

abbrev pub two : List (List ℕ)
two = codes "begin" ∷ codes "foo" ∷ []

-- which lines are whole once each of these pieces has come after the bytes before
abbrev pub whole_after : List ℕ → List (List ℕ) → List (List (List ℕ))
whole_after before [] = []
whole_after before (piece ∷ pieces) = let bytes = before ++ piece in (split bytes).lines ∷ whole_after bytes pieces

-- Whatever part of "begin", a newline and "foo" was unread before, the line is "begin", and "foo" is unread after it.
abbrev pub IsFoundHoweverCut : Type 0
IsFoundHoweverCut = (old new : Ahead) (line : List ℕ) (source source' : SourceState) (h : HasLine 4097 old new line source source') →
    old.unread ++ fitting old.credit h.more ≡ codes "begin\nfoo" → (line ≡ codes "begin") × (new.unread ≡ codes "foo")

-- Of a longer line than was asked for, the first bytes are kept, and the whole of it is passed.
abbrev pub IsCutShort : Type 0
IsCutShort = (old new : Ahead) (line : List ℕ) (source source' : SourceState) (h : HasLine 3 old new line source source') →
    old.unread ++ fitting old.credit h.more ≡ codes "begin\nfoo" → (line ≡ codes "beg") × (new.unread ≡ codes "foo")

-- The input ends within a line, or after one.
abbrev pub IsRest : List ℕ → List ℕ → LineFound → Type 0
IsRest bytes rest what = (old new : Ahead) (line : List ℕ) (source source' : SourceState) (found : LineFound) (h : HasRest 4097 old new line source source' found) →
    old.unread ++ h.none.more ≡ bytes → (line ≡ rest) × (found ≡ what)
