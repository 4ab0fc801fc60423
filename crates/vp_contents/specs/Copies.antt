-- Copies of records, by version; lists of them ascend by record.
use Rattle.std.specs.Prelude.{ℕ, ◌≤◌, ◌<◌, List, ◌∷◌, ◌++◌, length, flat_map, All, AllPairs, Option, Result, Ok}
use Rattle.vp_text.specs.Reading.{◌>>=◌}
use Rattle.vp_base.specs.Identifiers.{IsView}
use Rattle.vp_base.specs.declared.entry.Stored.{Stored}
use Rattle.vp_base.specs.declared.ids.ViewId.{ViewId}
use Rattle.vp_bytes.specs.Fields.{Spelled, number_bytes, view_bytes, IsRecord}
use Rattle.vp_bytes.specs.Reading.{ascending_at, run_at, view_at}
use Rattle.vp_bytes.specs.Ranges.{number_within_at}
use Rattle.vp_contents.specs.Contents.{content_bytes, IsContent, content_at}
use Rattle.vp_contents.specs.Tables.{maybe_table_bytes, IsMaybeTable, maybe_table_at}
use Rattle.vp_contents.specs.declared.version.Version.{Version}

-- ---- their bytes

abbrev pub stored_bytes : Version → Stored → List ℕ
stored_bytes version stored = content_bytes version stored.value ++ (maybe_table_bytes version stored.table ++ view_bytes stored.date)

abbrev pub IsStored : Version → Stored → Type 0
IsStored version stored = IsContent version stored.value × IsMaybeTable version stored.table × IsView stored.date

abbrev pub IsStoredBytes : Version → Stored → List ℕ → Type 0
IsStoredBytes version = Spelled (stored_bytes version) (IsStored version)

abbrev pub copy_bytes : Version → ℕ × Stored → List ℕ
copy_bytes version copy = copy.0 ∷ stored_bytes version copy.1

abbrev pub copies_bytes : Version → List (ℕ × Stored) → List ℕ
copies_bytes version copies = number_bytes 2 (length copies) ++ flat_map (copy_bytes version) copies

abbrev pub IsCopy : Version → ℕ × Stored → Type 0
IsCopy version copy = IsRecord copy.0 × IsStored version copy.1

-- up to 256 copies, ascending by record
abbrev pub IsCopies : Version → List (ℕ × Stored) → Type 0
IsCopies version copies = (length copies ≤ 256) × All (IsCopy version) copies × AllPairs (λ before after. before.0 < after.0) copies

abbrev pub IsCopiesBytes : Version → List (ℕ × Stored) → List ℕ → Type 0
IsCopiesBytes version = Spelled (copies_bytes version) (IsCopies version)

-- ---- reading them

abbrev pub stored_of : Option (List ℕ) → Option (List (ℕ × ℕ)) → ViewId → Stored
stored_of value table date = record { value = value; table = table; date = date }

-- a content, a table or none, and the date of both
unfoldable pub stored_at : Version → List ℕ → Result (Stored × List ℕ) ℕ
stored_at version bytes = do
  value ← content_at version bytes
  table ← maybe_table_at version value.1
  date ← view_at table.1
  Ok (stored_of value.0 table.0 date.0, date.1)

-- a record from least on that leaves room for n others above it, and its copy
unfoldable pub copy_at : Version → ℕ → ℕ → List ℕ → Result ((ℕ × Stored) × List ℕ) ℕ
copy_at version n least bytes = do
  rec ← ascending_at 255 n least bytes
  stored ← stored_at version rec.1
  Ok ((rec.0, stored.0), stored.1)

-- a count, and as many copies, ascending by record
unfoldable pub copies_at : Version → List ℕ → Result (List (ℕ × Stored) × List ℕ) ℕ
copies_at version bytes = number_within_at 2 0 256 bytes >>= λ n. run_at (λ copy. copy.0) (copy_at version) n.0 0 n.1
