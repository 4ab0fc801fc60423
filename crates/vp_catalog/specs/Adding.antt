-- The result of adding a line to a catalogue.
use Rattle.std.specs.Prelude.{◌≡◌, ⊤, ℕ, List, Result, Ok, Err}
use Rattle.vp_model.specs.Catalogue.{Catalogue}
use Rattle.vp_catalog.specs.declared.entry.Entry.{Entry}
use Rattle.vp_catalog.specs.declared.fault.CatalogFault.{CatalogFault}
use Rattle.vp_catalog.specs.declared.fault.CatalogFault.TheVariants as faults
use Rattle.vp_catalog.specs.Entries.{EntryText, after, Onward, Repeats, Overfills}

-- The lines before it allow the line.
abbrev pub IsAllowed : Catalogue → Entry → Type 0
IsAllowed c entry = (text : List ℕ) × EntryText c entry text

-- The line of this number was added, or the catalogue is as it was.
abbrev pub Adds : Catalogue → Entry → ℕ → Catalogue → Result ⊤ CatalogFault → Type 0
Adds old entry line new (Ok done) = (new ≡ after old entry) × Onward old entry
Adds old entry line new (Err (faults.BadLine l at)) = ⊥
Adds old entry line new (Err (faults.Twice l)) = (new ≡ old) × (l ≡ line) × Repeats old entry
Adds old entry line new (Err (faults.TooMany l limit)) = (new ≡ old) × (l ≡ line) × (limit ≡ 256) × Overfills old entry
Adds old entry line new (Err faults.NoMemory) = new ≡ old
