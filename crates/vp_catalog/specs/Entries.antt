-- The lines of a catalogue, each allowed by the lines before it, which say a part of the catalogue.
use Rattle.std.specs.Prelude.{◌≡◌, ◌++◌, ◌∷◌, [], ⊤, ℕ, ◌≤◌, ◌<◌, List, Bool, true, false, length, nat_le, ◌==◌}
use Rattle.std.specs.List.{list_any}
use Rattle.std.specs.Str.{bytes_eq}
use Rattle.vp_base.specs.Words.{IsName, IsValue}
use Rattle.vp_model.specs.Words.{has}
use Rattle.vp_model.specs.Catalogue.{Catalogue, RecordEntry, sites_of}
use Rattle.vp_model.specs.Texts.Schedule.{site_line, record_line}
use Rattle.vp_catalog.specs.declared.entry.Entry.{Entry}
use Rattle.vp_catalog.specs.declared.entry.Entry.TheVariants as kind

-- ---- what a line says

-- a site from 1 to 16 above the given one, and its port
pub record IsSite (above : ℕ) (site : ℕ × ℕ) : Type 0 where
  pub higher : above < site.0
  pub fits : site.0 ≤ 16
  pub port_some : 1 ≤ site.1
  pub port_fits : site.1 ≤ 65535

-- a holder above the given one, which is a site of the catalogue, and the weight of its copy
pub record IsWeight (sites : List ℕ) (above : ℕ) (weight : ℕ × ℕ) : Type 0 where
  pub stands : has sites weight.0 ≡ true
  pub higher : above < weight.0
  pub some : 1 ≤ weight.1
  pub fits : weight.1 ≤ 65535

-- ascending by holder
abbrev pub AreWeights : List ℕ → ℕ → List (ℕ × ℕ) → Type 0
AreWeights sites above [] = ⊤
AreWeights sites above (w ∷ ws) = IsWeight sites above w × AreWeights sites w.0 ws

-- a record with at least one holder
pub record IsRecord (sites : List ℕ) (entry : RecordEntry) : Type 0 where
  pub name_is : IsName entry.name entry.name
  pub start_is : IsValue entry.start entry.start
  pub held : 0 < length entry.weights
  pub weights_are : AreWeights sites 0 entry.weights

-- ---- the lines

-- the last site, 0 where there is none
abbrev pub last_from : ℕ → List (ℕ × ℕ) → ℕ
last_from above [] = above
last_from above (s ∷ ss) = last_from s.0 ss

abbrev pub last_site : Catalogue → ℕ
last_site c = last_from 0 c.sites

-- Site lines come before record lines.
pub record SiteText (c : Catalogue) (site : ℕ × ℕ) (text : List ℕ) : Type 0 where
  pub first : length c.records ≡ 0
  pub site_is : IsSite (last_site c) site
  pub is : text ≡ site_line site

pub record RecordText (c : Catalogue) (entry : RecordEntry) (text : List ℕ) : Type 0 where
  pub record_is : IsRecord (sites_of c) entry
  pub is : text ≡ record_line entry

-- The lines before it allow the line, and this is its text.
abbrev pub EntryText : Catalogue → Entry → List ℕ → Type 0
EntryText c (kind.Site site port) text = SiteText c (site, port) text
EntryText c (kind.Record entry) text = RecordText c entry text

-- ---- from one line to the next

abbrev pub nothing : Catalogue
nothing = record { sites = []; records = [] }

abbrev pub after : Catalogue → Entry → Catalogue
after c (kind.Site site port) = record { sites = c.sites ++ (site, port) ∷ []; records = c.records }
after c (kind.Record entry) = record { sites = c.sites; records = c.records ++ entry ∷ [] }

abbrev pub has_port : Catalogue → ℕ → Bool
has_port c port = list_any (λ s. s.1 == port) c.sites

abbrev pub has_name : Catalogue → List ℕ → Bool
has_name c name = list_any (λ entry. bytes_eq entry.name name) c.records

abbrev pub is_full : Catalogue → Bool
is_full c = nat_le 256 (length c.records)

-- Another line may follow: this one repeats no port and no name, and is not one record too many.
abbrev pub Onward : Catalogue → Entry → Type 0
Onward c (kind.Site site port) = has_port c port ≡ false
Onward c (kind.Record entry) = (is_full c ≡ false) × (has_name c entry.name ≡ false)

-- It repeats a port, or a name where there is room.
abbrev pub Repeats : Catalogue → Entry → Type 0
Repeats c (kind.Site site port) = has_port c port ≡ true
Repeats c (kind.Record entry) = (is_full c ≡ false) × (has_name c entry.name ≡ true)

-- It is a record line after 256 records.
abbrev pub Overfills : Catalogue → Entry → Type 0
Overfills c (kind.Site site port) = ⊥
Overfills c (kind.Record entry) = is_full c ≡ true
