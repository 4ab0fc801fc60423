-- A list of changes as it is kept: the bytes of their pieces side by side, and an entry for each change.
use Rattle.std.specs.Prelude.{ℕ, ◌≤◌, List, drop, map, take}
use Rattle.vp_disks.specs.declared.change_list.Entry.{Entry}
use Rattle.vp_disks.specs.declared.change_list.Entry.TheVariants as entry
use Rattle.vp_disks.specs.declared.change_list.Span.{Span}
use Rattle.vp_disks.specs.declared.changes.Change.{Change}
use Rattle.vp_disks.specs.declared.changes.Change.TheVariants.{Attached, Wrote, Cut, Synced, Laid}

-- the piece that is there among these bytes
abbrev pub piece_in : List ℕ → Span → List ℕ
piece_in bytes span = drop span.start (take span.end bytes)

abbrev pub change_in : List ℕ → Entry → Change
change_in bytes (entry.Attached name) = Attached (piece_in bytes name)
change_in bytes (entry.Wrote half at piece) = Wrote half at (piece_in bytes piece)
change_in bytes (entry.Cut half n) = Cut half n
change_in bytes entry.Synced = Synced
change_in bytes (entry.Laid first second) = Laid (piece_in bytes first) (piece_in bytes second)

abbrev pub changes_in : List ℕ → List Entry → List Change
changes_in bytes entries = map (change_in bytes) entries

-- the pieces of the change end there or before
abbrev pub EndsBy : ℕ → Entry → Type 0
EndsBy end (entry.Attached name) = name.end ≤ end
EndsBy end (entry.Wrote half at piece) = piece.end ≤ end
EndsBy end (entry.Cut half n) = Unit {0}
EndsBy end entry.Synced = Unit {0}
EndsBy end (entry.Laid first second) = (first.end ≤ end) × (second.end ≤ end)
