-- What the copies of some sites say of the one copy.
use Rattle.std.specs.Prelude.{◌≡◌, ℕ, true, false, List, Some}
use Rattle.std.specs.List.{Contains}
use Rattle.vp_model.specs.Types.{Stored, Doubt}
use Rattle.vp_model.specs.Words.{keys, value_at, view_before}
use Rattle.vp_model.specs.Catalogue.{Catalogue, holders, table_or, accessible_by, start_values}
use Rattle.vp_model.specs.Headline.{has_value}
use Rattle.vp_model.specs.OneCopy.{serial, order}
use Rattle.vp_model.specs.World.{Place, WorldState, place_of}
use Rattle.vp_laws.specs.Entries.{doubts_of}
use Rattle.vp_laws.specs.Sites.{copies_of}

-- none of these sites is in doubt about a transaction that changes the record
abbrev pub AreCertain : WorldState → List ℕ → ℕ → Type 0
AreCertain w sites rec = (s : ℕ) (u : Doubt) → Contains sites s → Contains (doubts_of w s) u → Contains (keys u.writes) rec → ⊥

-- none of their copies of the record is newer
abbrev pub IsNewest : WorldState → List ℕ → ℕ → Stored → Type 0
IsNewest w sites rec copy = (s : ℕ) (c : Stored) → Contains sites s → value_at rec (copies_of w s) ≡ Some c → view_before copy.date c.date ≡ false

-- Where sites are not in doubt about a record and have more than half of its weight by the table of the newest of their copies, that copy
-- has the content that the committed transactions, ordered by view and then by moment of commit, leave.
abbrev pub MajoritiesTell : Catalogue → WorldState → Type 0
MajoritiesTell catalogue w =
    (sites : List ℕ) (rec s : ℕ) (copy : Stored) → accessible_by (table_or catalogue rec copy.table) sites ≡ true → AreCertain w sites rec → Contains sites s → value_at rec (copies_of w s) ≡ Some copy → IsNewest w sites rec copy →
    has_value (serial (start_values catalogue) (order w.journal)) rec copy.value ≡ true

-- each site of the world, up or down, has a copy of each record that it holds
abbrev pub HoldersHaveCopies : Catalogue → WorldState → Type 0
HoldersHaveCopies catalogue w =
    (s rec : ℕ) (place : Place) → place_of s w.places ≡ Some place → Contains (holders catalogue rec) s → (copy : Stored) × (value_at rec place.durable.copies ≡ Some copy)
