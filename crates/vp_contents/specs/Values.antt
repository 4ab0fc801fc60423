-- Values, by version: a length and as many bytes. The length is one byte in the first version, and two in the second.
use Rattle.std.specs.Prelude.{ℕ, ◌≤◌, List, [], ◌∷◌, ◌++◌, length, Result}
use Rattle.vp_text.specs.Reading.{◌>>=◌}
use Rattle.vp_text.specs.Tokens.{IsWord}
use Rattle.vp_text.specs.Classes.{has, most}
use Rattle.vp_text.specs.declared.class.Class.TheVariants.{Value}
use Rattle.vp_bytes.specs.Fields.{Spelled, number_bytes}
use Rattle.vp_bytes.specs.Ranges.{number_within_at}
use Rattle.vp_bytes.specs.Reading.{byte_at, within, word_run_at}
use Rattle.vp_contents.specs.declared.version.Version.{Version}
use Rattle.vp_contents.specs.declared.version.Version.TheVariants as versions

-- ---- their bytes

abbrev pub most_length : Version → ℕ
most_length versions.First = 64
most_length versions.Second = most Value

abbrev pub length_bytes : Version → ℕ → List ℕ
length_bytes versions.First n = n ∷ []
length_bytes versions.Second n = number_bytes 2 n

abbrev pub value_bytes : Version → List ℕ → List ℕ
value_bytes version value = length_bytes version (length value) ++ value

abbrev pub IsLength : Version → ℕ → Type 0
IsLength version n = (1 ≤ n) × (n ≤ most_length version)

-- a value that is short enough for the version
abbrev pub IsValueIn : Version → List ℕ → Type 0
IsValueIn version value = IsWord (has Value) (most_length version) value value

abbrev pub IsLengthBytes : Version → ℕ → List ℕ → Type 0
IsLengthBytes version = Spelled (length_bytes version) (IsLength version)

abbrev pub IsValueBytes : Version → List ℕ → List ℕ → Type 0
IsValueBytes version = Spelled (value_bytes version) (IsValueIn version)

-- ---- reading them

unfoldable pub length_at : Version → List ℕ → Result (ℕ × List ℕ) ℕ
length_at versions.First bytes = byte_at (within 1 64) bytes
length_at versions.Second bytes = number_within_at 2 1 (most Value) bytes

unfoldable pub value_at : Version → List ℕ → Result (List ℕ × List ℕ) ℕ
value_at version bytes = length_at version bytes >>= λ n. word_run_at Value n.0 n.1
