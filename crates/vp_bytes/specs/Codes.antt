-- Codes: bytes that each mean one kind.
use Rattle.std.specs.Prelude.{ℕ, List, [], ◌∷◌, Option, Some, None, Result, Ok, Err, length, ◌==◌, if◌then◌else◌}

-- the kind that is listed with this code
abbrev pub find_code : {K : Type 0} → List (ℕ × K) → ℕ → Option K
find_code [] c = None
find_code (pair ∷ pairs) c = if c == pair.0 then Some pair.1 else find_code pairs c

-- a byte that is the code of some kind
abbrev pub code_at : {K : Type 0} → (ℕ → Option K) → List ℕ → Result (K × List ℕ) ℕ
code_at of [] = Err 0
code_at of (c ∷ cs) = elim (of c) [ Some kind ↦ Ok (kind, cs) | None ↦ Err (length (c ∷ cs)) ]
