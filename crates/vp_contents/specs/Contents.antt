-- Contents, by version: a value or none. In the first version each is a value.
use Rattle.std.specs.Prelude.{ℕ, List, [], ◌∷◌, ◌++◌, cond, ◌==◌, Option, Some, None, Result, Ok}
use Rattle.vp_text.specs.Reading.{◌>>=◌}
use Rattle.vp_bytes.specs.Fields.{Spelled}
use Rattle.vp_bytes.specs.Reading.{byte_at, within}
use Rattle.vp_contents.specs.Versions.{IsSecond}
use Rattle.vp_contents.specs.Values.{value_bytes, IsValueIn, value_at}
use Rattle.vp_contents.specs.declared.version.Version.{Version}
use Rattle.vp_contents.specs.declared.version.Version.TheVariants as versions

-- ---- their bytes

-- the byte that says what follows: the first version has none, since it leaves no choice
abbrev pub mark_bytes : Version → ℕ → List ℕ
mark_bytes versions.First mark = []
mark_bytes versions.Second mark = mark ∷ []

abbrev pub content_bytes : Version → Option (List ℕ) → List ℕ
content_bytes version None = mark_bytes version 0
content_bytes version (Some value) = mark_bytes version 1 ++ value_bytes version value

abbrev pub IsContent : Version → Option (List ℕ) → Type 0
IsContent version None = IsSecond version
IsContent version (Some value) = IsValueIn version value

abbrev pub IsContentBytes : Version → Option (List ℕ) → List ℕ → Type 0
IsContentBytes version = Spelled (content_bytes version) (IsContent version)

-- ---- reading them

unfoldable pub content_at : Version → List ℕ → Result (Option (List ℕ) × List ℕ) ℕ
content_at versions.First bytes = do
  value ← value_at versions.First bytes
  Ok (Some value.0, value.1)
content_at versions.Second bytes = do
  mark ← byte_at (within 0 1) bytes
  cond (mark.0 == 0) (Ok (None, mark.1)) (value_at versions.Second mark.1 >>= λ value. Ok (Some value.0, value.1))
