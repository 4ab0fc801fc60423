-- What the first version can say, the second can.
use Rattle.std.proofs.Common.{◌≤◌, ℕ, List, [], ◌∷◌, arith, length}
use Rattle.std.specs.Prelude.{Option, Some, None}
use Rattle.std.specs.List.{AllByRecursion}
use Rattle.vp_contents.specs.Values.{most_length, IsValueIn}
use Rattle.vp_contents.specs.Contents.{IsContent}
use Rattle.vp_contents.specs.Tables.{IsMaybeTable}
use Rattle.vp_contents.specs.Changes.{IsPut, IsChange, IsAscendingWrites, IsWrites}
use Rattle.vp_contents.specs.Copies.{IsStored, IsCopy}
use Rattle.vp_contents.specs.Doubts.{IsDoubt}
use Rattle.vp_contents.specs.declared.version.Version.TheVariants as versions
use Rattle.vp_model.specs.Types.{Put, Change, Stored, Doubt}
use Rattle.vp_model.specs.Types.puts
use Rattle.vp_model.specs.Catalogue.{Table}

longer : (n : ℕ) → n ≤ most_length versions.First → n ≤ most_length versions.Second
longer n h = omega (arith, h)

value_second : (value : List ℕ) → IsValueIn versions.First value → IsValueIn versions.Second value
value_second value h = record { is = h.is; some = h.some; short = longer (length value) h.short; each = h.each }

content_second : (value : Option (List ℕ)) → IsContent versions.First value → IsContent versions.Second value
content_second None h = tt
content_second (Some value) h = value_second value h

table_second : (table : Option Table) → IsMaybeTable versions.First table → IsMaybeTable versions.Second table
table_second None h = tt
table_second (Some table) h = (tt, h.1)

pub stored_second : (stored : Stored) → IsStored versions.First stored → IsStored versions.Second stored
stored_second stored h = (content_second stored.value h.0, table_second stored.table h.1, h.2)

pub copies_second : (copies : List (ℕ × Stored)) → AllByRecursion (IsCopy versions.First) copies → AllByRecursion (IsCopy versions.Second) copies
copies_second [] h = tt
copies_second (c ∷ copies) h = ((h.0.0, stored_second c.1 h.0.1), copies_second copies h.1)

put_second : (put : Put) → IsPut versions.First put → IsPut versions.Second put
put_second puts.Keep h = tt
put_second puts.Absent h = tt
put_second (puts.Value value) h = value_second value h

change_second : (change : Change) → IsChange versions.First change → IsChange versions.Second change
change_second change h = (put_second change.put h.0, table_second change.table h.1, h.2)

rising_second : (least : ℕ) (writes : List (ℕ × Change)) → IsAscendingWrites versions.First least writes → IsAscendingWrites versions.Second least writes
rising_second least [] h = tt
rising_second least (w ∷ writes) h = (h.0, h.1, change_second w.1 h.2, rising_second _ writes h.3)

pub writes_second : (writes : List (ℕ × Change)) → IsWrites versions.First writes → IsWrites versions.Second writes
writes_second writes h = (h.0, rising_second 0 writes h.1)

pub doubts_second : (doubts : List Doubt) → AllByRecursion (IsDoubt versions.First) doubts → AllByRecursion (IsDoubt versions.Second) doubts
doubts_second [] h = tt
doubts_second (d ∷ doubts) h = ((h.0.0, h.0.1, writes_second d.writes h.0.2), doubts_second doubts h.1)
