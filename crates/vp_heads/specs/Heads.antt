-- The lines of a head, each allowed by the lines before it: those of a catalogue, and then the key line, which is given with its
-- newline.
use Rattle.std.specs.Prelude.{◌≡◌, ⊤, ℕ, ◌<◌, List, length, true, false, Result, Ok, Err}
use Rattle.vp_catalog.specs.declared.fault.CatalogFault.{CatalogFault}
use Rattle.vp_catalog.specs.declared.fault.CatalogFault.TheVariants as faults
use Rattle.vp_catalog.specs.Adding as adding
use Rattle.vp_catalog.specs.Entries as entries
use Rattle.vp_heads.specs.declared.line.HeadLine.{HeadLine}
use Rattle.vp_heads.specs.declared.line.HeadLine.TheVariants as kind
use Rattle.vp_heads.specs.declared.head.Head.{Head}

-- ---- the lines

-- The key line comes after at least one site, and after all lines of the catalogue.
abbrev pub LineText : List ℕ → Head → HeadLine → List ℕ → Type 0
LineText key d (kind.Entry entry) text = (d.opened ≡ false) × entries.EntryText d.catalog entry text
LineText key d kind.Key text = (d.opened ≡ false) × (0 < length d.catalog.sites) × (text ≡ key)

-- The lines before it allow the line to be added.
abbrev pub Allows : Head → HeadLine → Type 0
Allows d (kind.Entry entry) = adding.IsAllowed d.catalog entry
Allows d kind.Key = ⊤

-- ---- from one line to the next

abbrev pub blank : Head
blank = record { catalog = entries.nothing; opened = false }

abbrev pub after : Head → HeadLine → Head
after d (kind.Entry entry) = record { catalog = entries.after d.catalog entry; opened = d.opened }
after d kind.Key = record { catalog = d.catalog; opened = true }

-- A line may follow this one.
abbrev pub Onward : Head → HeadLine → Type 0
Onward d (kind.Entry entry) = entries.Onward d.catalog entry
Onward d kind.Key = ⊤

-- It repeats a port or a name.
abbrev pub Repeats : Head → HeadLine → Type 0
Repeats d (kind.Entry entry) = entries.Repeats d.catalog entry
Repeats d kind.Key = ⊥

-- It is a record line after 256 records.
abbrev pub Overfills : Head → HeadLine → Type 0
Overfills d (kind.Entry entry) = entries.Overfills d.catalog entry
Overfills d kind.Key = ⊥

-- The line of this number was added, or the head is as it was.
abbrev pub Adds : Head → HeadLine → ℕ → Head → Result ⊤ CatalogFault → Type 0
Adds old line number new (Ok u) = (new ≡ after old line) × Onward old line
Adds old line number new (Err (faults.BadLine l at)) = ⊥
Adds old line number new (Err (faults.Twice l)) = (new ≡ old) × (l ≡ number) × Repeats old line
Adds old line number new (Err (faults.TooMany l limit)) = (new ≡ old) × (l ≡ number) × (limit ≡ 256) × Overfills old line
Adds old line number new (Err faults.NoMemory) = new ≡ old
