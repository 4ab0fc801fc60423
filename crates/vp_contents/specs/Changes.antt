-- Changes of records, and lists of records with their changes, by version. In the first version each change puts a value.
use Rattle.std.specs.Prelude.{ℕ, suc, ◌≤◌, List, [], ◌∷◌, ◌++◌, length, flat_map, cond, ◌==◌, Option, Some, None, Result, Ok}
use Rattle.vp_text.specs.Reading.{◌>>=◌}
use Rattle.vp_base.specs.declared.entry.Put.{Put}
use Rattle.vp_base.specs.declared.entry.Put.TheVariants as puts
use Rattle.vp_base.specs.declared.entry.Change.{Change}
use Rattle.vp_bytes.specs.Fields.{Spelled, IsRecord}
use Rattle.vp_bytes.specs.Reading.{byte_at, within, ascending_at, counted_at}
use Rattle.vp_contents.specs.Versions.{IsSecond}
use Rattle.vp_contents.specs.Values.{value_bytes, IsValueIn, value_at}
use Rattle.vp_contents.specs.Contents.{mark_bytes}
use Rattle.vp_contents.specs.Tables.{maybe_table_bytes, IsMaybeTable, table_at, maybe_table_at}
use Rattle.vp_contents.specs.declared.version.Version.{Version}
use Rattle.vp_contents.specs.declared.version.Version.TheVariants as versions

-- ---- their bytes

abbrev pub put_bytes : Version → Put → List ℕ
put_bytes version puts.Absent = mark_bytes version 0
put_bytes version (puts.Value value) = mark_bytes version 1 ++ value_bytes version value
put_bytes version puts.Keep = mark_bytes version 2

abbrev pub change_bytes : Version → Change → List ℕ
change_bytes version change = put_bytes version change.put ++ maybe_table_bytes version change.table

abbrev pub IsPut : Version → Put → Type 0
IsPut version puts.Absent = IsSecond version
IsPut version (puts.Value value) = IsValueIn version value
IsPut version puts.Keep = IsSecond version

-- what keeps the content changes the table
abbrev pub Alters : Put → Option (List (ℕ × ℕ)) → Type 0
Alters puts.Absent table = Unit {0}
Alters (puts.Value value) table = Unit {0}
Alters puts.Keep None = ⊥
Alters puts.Keep (Some table) = Unit {0}

abbrev pub IsChange : Version → Change → Type 0
IsChange version change = IsPut version change.put × IsMaybeTable version change.table × Alters change.put change.table

abbrev pub IsChangeBytes : Version → Change → List ℕ → Type 0
IsChangeBytes version = Spelled (change_bytes version) (IsChange version)

abbrev pub write_bytes : Version → ℕ × Change → List ℕ
write_bytes version write = write.0 ∷ change_bytes version write.1

abbrev pub writes_bytes : Version → List (ℕ × Change) → List ℕ
writes_bytes version writes = length writes ∷ flat_map (write_bytes version) writes

-- changes by their records, each above the one before it
abbrev pub IsAscendingWrites : Version → ℕ → List (ℕ × Change) → Type 0
IsAscendingWrites version least [] = Unit {0}
IsAscendingWrites version least (write ∷ writes) = (least ≤ write.0) × IsRecord write.0 × IsChange version write.1 × IsAscendingWrites version (suc write.0) writes

-- up to 64 changes, ascending by record
abbrev pub IsWrites : Version → List (ℕ × Change) → Type 0
IsWrites version writes = (length writes ≤ 64) × IsAscendingWrites version 0 writes

abbrev pub IsWritesBytes : Version → List (ℕ × Change) → List ℕ → Type 0
IsWritesBytes version = Spelled (writes_bytes version) (IsWrites version)

-- ---- reading them

abbrev pub change_of : Put → Option (List (ℕ × ℕ)) → Change
change_of put table = record { put = put; table = table }

-- what follows the mark of a put
unfoldable pub marked_change_at : ℕ → List ℕ → Result (Change × List ℕ) ℕ
marked_change_at mark bytes =
    cond (mark == 0) (maybe_table_at versions.Second bytes >>= λ table. Ok (change_of puts.Absent table.0, table.1))
    (cond (mark == 1) (value_at versions.Second bytes >>= λ value. maybe_table_at versions.Second value.1 >>= λ table. Ok (change_of (puts.Value value.0) table.0, table.1))
    (byte_at (within 1 1) bytes >>= λ one. table_at one.1 >>= λ table. Ok (change_of puts.Keep (Some table.0), table.1)))

unfoldable pub change_at : Version → List ℕ → Result (Change × List ℕ) ℕ
change_at versions.First bytes = do
  value ← value_at versions.First bytes
  Ok (change_of (puts.Value value.0) None, value.1)
change_at versions.Second bytes = do
  mark ← byte_at (within 0 2) bytes
  marked_change_at mark.0 mark.1

-- a record from least on that leaves room for n others above it, and its change
unfoldable pub write_at : Version → ℕ → ℕ → List ℕ → Result ((ℕ × Change) × List ℕ) ℕ
write_at version n least bytes = do
  rec ← ascending_at 255 n least bytes
  change ← change_at version rec.1
  Ok ((rec.0, change.0), change.1)

-- up to 64 changes, ascending by record
unfoldable pub writes_at : Version → List ℕ → Result (List (ℕ × Change) × List ℕ) ℕ
writes_at version bytes = counted_at (λ write. write.0) (write_at version) 0 64 0 bytes
