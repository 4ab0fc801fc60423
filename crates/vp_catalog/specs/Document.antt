-- Catalogues, their texts, and the places of faults.
use Rattle.std.specs.Prelude.{◌≡◌, ◌≢◌, ⊤, ℕ, ◌+◌, ◌-◌, ◌≤◌, ◌<◌, List, [], ◌∷◌, length, map, Bool, ◌||◌, nat_eq, nat_lt, nat_le, Result, Ok, Err}
use Rattle.std.specs.List.{AllByRecursion, IsDistinct}
use Rattle.std.specs.Str.{bytes_eq}
use Rattle.vp_text.specs.Documents.{IsBadLine, IsFaultyLine}
use Rattle.vp_model.specs.Catalogue.{Catalogue, sites_of}
use Rattle.vp_model.specs.Texts.Schedule.{catalogue_text}
use Rattle.vp_catalog.specs.declared.entry.Entry.{Entry}
use Rattle.vp_catalog.specs.declared.fault.CatalogFault.{CatalogFault}
use Rattle.vp_catalog.specs.declared.fault.CatalogFault.TheVariants as faults
use Rattle.vp_catalog.specs.Entries.{IsSite, IsRecord, EntryText, nothing, after, Onward, Repeats, Overfills}
use Rattle.vp_catalog.specs.EntryReading.{entry_at}

-- ascending sites above the given one, with their ports
abbrev pub AreSites : ℕ → List (ℕ × ℕ) → Type 0
AreSites above [] = ⊤
AreSites above (s ∷ ss) = IsSite above s × AreSites s.0 ss

-- What the first lines of a catalogue say: sites, perhaps none, and at most 256 records with copies at them; no port and no name is
-- there twice.
pub record IsCatalogueSoFar (c : Catalogue) : Type 0 where
  pub sites_are : AreSites 0 c.sites
  pub ports_differ : IsDistinct nat_eq (map (λ s. s.1) c.sites)
  pub records_are : AllByRecursion (IsRecord (sites_of c)) c.records
  pub names_differ : IsDistinct bytes_eq (map (λ entry. entry.name) c.records)
  pub few : length c.records ≤ 256

-- The same, with at least one site.
pub record IsCatalogue (c : Catalogue) : Type 0 where
  pub some : 0 < length c.sites
  pub so_far : IsCatalogueSoFar c

-- ---- what is returned for a text

-- The next line is not an allowed one though a line has to come: there are more bytes, or no line before.
pub record IsBadEntry (text : List ℕ) (line at : ℕ) : Type 0 where
  pub bad : IsBadLine nothing after EntryText Onward text line at
  pub owed : length bad.rest ≡ 0 → length bad.lines ≡ 0

abbrev pub Answered : List ℕ → Result Catalogue CatalogFault → Type 0
Answered text (Ok c) = IsCatalogue c × (catalogue_text c ≡ text)
Answered text (Err (faults.BadLine line at)) = IsBadEntry text line at
Answered text (Err (faults.Twice line)) = IsFaultyLine nothing after EntryText Onward Repeats text line
Answered text (Err (faults.TooMany line limit)) = (limit ≡ 256) × IsFaultyLine nothing after EntryText Onward Overfills text line
Answered text (Err faults.NoMemory) = ⊤

-- Only one result is possible for a text, apart from want of memory.
abbrev pub IsOnly : List ℕ → Result Catalogue CatalogFault → Type 0
IsOnly text result =
    (other : Result Catalogue CatalogFault) → Answered text other → result ≢ Err faults.NoMemory → other ≢ Err faults.NoMemory → other ≡ result

-- ---- the steps of the reader

-- the next line was read, or its fault is at this place in the text
abbrev pub NextEntry : Catalogue → ℕ → List ℕ → List ℕ → Result Entry CatalogFault → Type 0
NextEntry c number old new (Ok entry) = entry_at c old ≡ Ok (entry, new)
NextEntry c number old new (Err (faults.BadLine line at)) = (line ≡ number) × (left : ℕ) × (entry_at c old ≡ Err left) × (at ≡ length old - left + 1)
NextEntry c number old new (Err (faults.Twice line)) = ⊥
NextEntry c number old new (Err (faults.TooMany line limit)) = ⊥
NextEntry c number old new (Err faults.NoMemory) = ⊤

-- another line has to come
abbrev pub is_owed : List ℕ → Catalogue → Bool
is_owed rest c = nat_lt 0 (length rest) || nat_le (length c.sites) 0
