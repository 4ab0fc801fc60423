-- The texts of the lines of recordings.
use Rattle.std.specs.Prelude.{◌≡◌, ℕ, ◌≤◌, List, codes}
use Rattle.std.specs.Fmt.{decimal}
use Rattle.hex.specs.Hex.{encode_lower}
use Rattle.vp_text.specs.Documents.{word_line}
use Rattle.vp_recording.specs.Hex.{IsDatagram, most_bytes}

-- the line after the catalogue
abbrev pub key : List ℕ
key = codes "recordings\n"

abbrev pub hex_line : List ℕ → List ℕ → List ℕ
hex_line word bytes = word_line word (encode_lower bytes)

abbrev pub number_line : List ℕ → ℕ → List ℕ
number_line word n = word_line word (decimal n)

-- The line is of what was no frame, with a place in it; or of a frame that was passed over.
abbrev pub BadText : List ℕ → Type 0
BadText text = (at : ℕ) × (at ≤ most_bytes) × (text ≡ number_line (codes "bad ") at)

abbrev pub StrayText : List ℕ → Type 0
StrayText text = (frame : List ℕ) × IsDatagram frame × (text ≡ hex_line (codes "stray ") frame)
