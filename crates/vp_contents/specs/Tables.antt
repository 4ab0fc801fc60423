-- Tables of weights: a weight for each of 1 to 16 sites, ascending. Where a table may be left out, the first version has no byte for it.
use Rattle.std.specs.Prelude.{ℕ, List, ◌∷◌, ◌++◌, length, flat_map, cond, ◌==◌, Option, Some, None, Result, Ok}
use Rattle.vp_text.specs.Reading.{◌>>=◌}
use Rattle.vp_base.specs.Tables.{IsTable}
use Rattle.vp_bytes.specs.Fields.{Spelled, number_bytes}
use Rattle.vp_bytes.specs.Ranges.{number_within_at}
use Rattle.vp_bytes.specs.Reading.{byte_at, within, ascending_at, counted_at}
use Rattle.vp_contents.specs.Versions.{IsSecond}
use Rattle.vp_contents.specs.Contents.{mark_bytes}
use Rattle.vp_contents.specs.declared.version.Version.{Version}
use Rattle.vp_contents.specs.declared.version.Version.TheVariants as versions

-- ---- their bytes

abbrev pub weight_bytes : ℕ × ℕ → List ℕ
weight_bytes weight = weight.0 ∷ number_bytes 2 weight.1

abbrev pub table_bytes : List (ℕ × ℕ) → List ℕ
table_bytes table = length table ∷ flat_map weight_bytes table

abbrev pub IsTableBytes : List (ℕ × ℕ) → List ℕ → Type 0
IsTableBytes = Spelled table_bytes IsTable

abbrev pub maybe_table_bytes : Version → Option (List (ℕ × ℕ)) → List ℕ
maybe_table_bytes version None = mark_bytes version 0
maybe_table_bytes version (Some table) = mark_bytes version 1 ++ table_bytes table

abbrev pub IsMaybeTable : Version → Option (List (ℕ × ℕ)) → Type 0
IsMaybeTable version None = Unit {0}
IsMaybeTable version (Some table) = IsSecond version × IsTable table

abbrev pub IsMaybeTableBytes : Version → Option (List (ℕ × ℕ)) → List ℕ → Type 0
IsMaybeTableBytes version = Spelled (maybe_table_bytes version) (IsMaybeTable version)

-- ---- reading them

-- a site from least on that leaves room for n others above it, and its weight
unfoldable pub weight_at : ℕ → ℕ → List ℕ → Result ((ℕ × ℕ) × List ℕ) ℕ
weight_at n least bytes = do
  site ← ascending_at 16 n least bytes
  weight ← number_within_at 2 1 65535 site.1
  Ok ((site.0, weight.0), weight.1)

unfoldable pub table_at : List ℕ → Result (List (ℕ × ℕ) × List ℕ) ℕ
table_at bytes = counted_at (λ weight. weight.0) weight_at 1 16 1 bytes

unfoldable pub maybe_table_at : Version → List ℕ → Result (Option (List (ℕ × ℕ)) × List ℕ) ℕ
maybe_table_at versions.First bytes = Ok (None, bytes)
maybe_table_at versions.Second bytes = do
  mark ← byte_at (within 0 1) bytes
  cond (mark.0 == 0) (Ok (None, mark.1)) (table_at mark.1 >>= λ table. Ok (Some table.0, table.1))
