-- The texts of names and values.
use Rattle.std.specs.Prelude.{◌≡◌, ◌≢◌, ℕ, zero, suc, List, [], ◌∷◌}
use Rattle.vp_text.specs.Tokens.{IsWord}
use Rattle.vp_text.specs.Classes.{has, most}
use Rattle.vp_text.specs.declared.class.Class.TheVariants.{Name, Value}

-- 1 to 16 bytes of a to z, 0 to 9 and _: the name and its text are the same bytes
abbrev pub IsName : List ℕ → List ℕ → Type 0
IsName = IsWord (has Name) (most Name)

-- 1 to 1,024 printable bytes without spaces: the value and its text are the same bytes
abbrev pub IsValue : List ℕ → List ℕ → Type 0
IsValue = IsWord (has Value) (most Value)

-- The text is the name whose first place in the list is this one.
abbrev pub IsPlace : List (List ℕ) → ℕ → List ℕ → Type 0
IsPlace [] i text = ⊥
IsPlace (name ∷ names) zero text = text ≡ name
IsPlace (name ∷ names) (suc i) text = (text ≢ name) × IsPlace names i text
