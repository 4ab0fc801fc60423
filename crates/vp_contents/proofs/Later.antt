-- What a version can say, the second one can say.
use Rattle.std.proofs.Common.{ℕ, suc, List, [], ◌∷◌, Option, Some, None, arith}
use Rattle.vp_base.specs.declared.entry.Put.{Put}
use Rattle.vp_base.specs.declared.entry.Put.TheVariants as puts
use Rattle.vp_base.specs.declared.entry.Change.{Change}
use Rattle.vp_base.specs.declared.entry.Stored.{Stored}
use Rattle.vp_contents.specs.Values.{IsValueIn}
use Rattle.vp_contents.specs.Contents.{IsContent}
use Rattle.vp_contents.specs.Tables.{IsMaybeTable}
use Rattle.vp_contents.specs.Changes.{IsPut, IsChange, IsAscendingWrites, IsWrites}
use Rattle.vp_contents.specs.Copies.{IsStored, IsCopy}
use Rattle.vp_contents.specs.declared.version.Version.{Version}
use Rattle.vp_contents.specs.declared.version.Version.TheVariants as versions

pub value_later : (version : Version) (value : List ℕ) → IsValueIn version value → IsValueIn versions.Second value
value_later versions.First value h = record { is = h.is; some = h.some; short = omega (arith, h.short); each = h.each }
value_later versions.Second value h = h

pub content_later : (version : Version) (content : Option (List ℕ)) → IsContent version content → IsContent versions.Second content
content_later version None h = tt
content_later version (Some value) h = value_later version value h

pub table_later : (version : Version) (table : Option (List (ℕ × ℕ))) → IsMaybeTable version table → IsMaybeTable versions.Second table
table_later version None h = tt
table_later version (Some table) h = (tt, h.1)

put_later : (version : Version) (put : Put) → IsPut version put → IsPut versions.Second put
put_later version puts.Absent h = tt
put_later version (puts.Value value) h = value_later version value h
put_later version puts.Keep h = tt

pub change_later : (version : Version) (change : Change) → IsChange version change → IsChange versions.Second change
change_later version change h = (put_later version change.put h.0, table_later version change.table h.1, h.2)

ascending_later : (version : Version) (least : ℕ) (writes : List (ℕ × Change)) → IsAscendingWrites version least writes → IsAscendingWrites versions.Second least writes
ascending_later version least [] h = tt
ascending_later version least (w ∷ writes) h = (h.0, h.1, change_later version w.1 h.2, ascending_later version (suc w.0) writes h.3)

pub writes_later : (version : Version) (writes : List (ℕ × Change)) → IsWrites version writes → IsWrites versions.Second writes
writes_later version writes h = (h.0, ascending_later version 0 writes h.1)

pub stored_later : (version : Version) (stored : Stored) → IsStored version stored → IsStored versions.Second stored
stored_later version stored h = (content_later version stored.value h.0, table_later version stored.table h.1, h.2)

pub copy_later : (version : Version) (copy : ℕ × Stored) → IsCopy version copy → IsCopy versions.Second copy
copy_later version copy h = (h.0, stored_later version copy.1 h.1)
