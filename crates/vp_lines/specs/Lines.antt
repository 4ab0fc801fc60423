-- The lines of some bytes.
use Rattle.std.specs.Prelude.{ℕ, ◌==◌, if◌then◌else◌, List, [], ◌∷◌}

-- Whole lines, each without its newline, and what comes after the last newline.
pub record Split : Type 0 where
  pub lines : List (List ℕ)
  pub rest : List ℕ

-- with one more byte in front, which is no newline
abbrev pub with_byte : ℕ → List (List ℕ) → List ℕ → Split
with_byte c [] rest = record { lines = []; rest = c ∷ rest }
with_byte c (l ∷ ls) rest = record { lines = (c ∷ l) ∷ ls; rest = rest }

abbrev pub split : List ℕ → Split
split [] = record { lines = []; rest = [] }
split (c ∷ cs) = let s = split cs in if c == 10 then record { lines = [] ∷ s.lines; rest = s.rest } else with_byte c s.lines s.rest
