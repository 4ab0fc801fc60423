-- Reading the lines of a catalogue from left to right.
use Rattle.std.specs.Prelude.{ℕ, suc, ◌+◌, List, [], ◌∷◌, length, Bool, nat_lt, nat_le, ◌&&◌, cond, codes, Result, Ok}
use Rattle.std.specs.List.{list_any}
use Rattle.vp_text.specs.Reading.{◌>>=◌, literal_at, number_at, word_at, either, items_at}
use Rattle.vp_text.specs.Classes.{has, most}
use Rattle.vp_text.specs.declared.class.Class.TheVariants as classes
use Rattle.vp_model.specs.Catalogue.{Catalogue, RecordEntry, sites_of}
use Rattle.vp_catalog.specs.declared.entry.Entry.{Entry}
use Rattle.vp_catalog.specs.declared.entry.Entry.TheVariants as kind
use Rattle.vp_catalog.specs.Sites.{site_at}
use Rattle.vp_catalog.specs.Entries.{last_site}

-- ---- holders

-- a holder above the given one may come
abbrev pub some_above : List ℕ → ℕ → Bool
some_above sites above = list_any (λ s. nat_lt above s) sites

unfoldable pub weight_at : List ℕ → ℕ → List ℕ → Result ((ℕ × ℕ) × List ℕ) ℕ
weight_at sites above bytes = do
  space ← literal_at (32 ∷ []) bytes
  site ← site_at sites above space.1
  colon ← literal_at (58 ∷ []) site.1
  weight ← number_at 1 65535 colon.1
  Ok ((site.0, weight.0), weight.1)

-- the holders after the given one, and the newline
abbrev pub others_at : List ℕ → ℕ → ℕ → List ℕ → Result (List (ℕ × ℕ) × List ℕ) ℕ
others_at sites fuel above bytes = items_at (some_above sites) (λ above weight. weight.0) (weight_at sites) (10 ∷ []) fuel above bytes

-- all holders
unfoldable pub weights_at : List ℕ → List ℕ → Result (List (ℕ × ℕ) × List ℕ) ℕ
weights_at sites bytes = do
  first ← weight_at sites 0 bytes
  others ← others_at sites (suc (length first.1)) first.0.0 first.1
  Ok (first.0 ∷ others.0, others.1)

-- ---- lines

abbrev pub record_of : List ℕ → List ℕ → List (ℕ × ℕ) → RecordEntry
record_of name start weights = record { name = name; start = start; weights = weights }

unfoldable pub record_at : List ℕ → List ℕ → Result (Entry × List ℕ) ℕ
record_at sites bytes = do
  key ← literal_at (codes "record ") bytes
  name ← word_at (has classes.Name) (most classes.Name) key.1
  space ← literal_at (32 ∷ []) name.1
  start ← word_at (has classes.Value) (most classes.Value) space.1
  weights ← weights_at sites start.1
  Ok (kind.Record (record_of name.0 start.0 weights.0), weights.1)

unfoldable pub port_at : ℕ → List ℕ → Result (Entry × List ℕ) ℕ
port_at last bytes = do
  key ← literal_at (codes "site ") bytes
  site ← number_at (last + 1) 16 key.1
  space ← literal_at (32 ∷ []) site.1
  port ← number_at 1 65535 space.1
  end ← literal_at (10 ∷ []) port.1
  Ok (kind.Site site.0 port.0, end.1)

-- where a site line may come, and a record line
abbrev pub may_add_site : Catalogue → Bool
may_add_site c = nat_le (length c.records) 0 && nat_lt (last_site c) 16

abbrev pub may_add_record : Catalogue → Bool
may_add_record c = nat_lt 0 (length c.sites)

unfoldable pub entry_at : Catalogue → List ℕ → Result (Entry × List ℕ) ℕ
entry_at c bytes =
    cond (may_add_site c) (cond (may_add_record c) (either (port_at (last_site c) bytes) (record_at (sites_of c) bytes)) (port_at (last_site c) bytes)) (record_at (sites_of c) bytes)
