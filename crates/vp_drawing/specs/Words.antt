-- The words of the command line.
use Rattle.std.specs.Prelude.{ℕ, nat_le, if◌then◌else◌, List, [], ◌∷◌, codes, Option, Some, None, option_and_then, option_map, Result, Ok, Err}
use Rattle.vp_text.specs.Reading.{number_at, whole}
use Rattle.vp_pictures.specs.declared.sheet.Part.{Part}

abbrev pub usage_text : List ℕ
usage_text = codes "usage: vpdraw [FROM TO]\n"

abbrev pub read_or_none : {A : Type 0} → Result A ℕ → Option A
read_or_none (Ok a) = Some a
read_or_none (Err left) = None

-- the number of an event line, which is the whole word
abbrev pub line_number : List ℕ → Option ℕ
line_number word = option_map (λ (read : ℕ × List ℕ). read.0) (read_or_none (whole (number_at 1 100000) word))

abbrev pub part_between : ℕ → ℕ → Option Part
part_between from to = if nat_le from to then Some (record { from = from; to = to }) else None

-- the whole run, or what is between two event lines
abbrev pub part_of : List (List ℕ) → Option Part
part_of [] = Some (record { from = 1; to = 100000 })
part_of (from ∷ to ∷ []) = option_and_then (λ f. option_and_then (λ t. part_between f t) (line_number to)) (line_number from)
part_of _ = None
