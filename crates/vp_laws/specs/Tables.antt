-- The tables that the journal leaves records.
use Rattle.std.specs.Prelude.{◌≡◌, ℕ, true, not, List, Option, Some, None, filter, fold}
use Rattle.std.specs.List.{Contains}
use Rattle.vp_model.specs.Types.{ViewId, View, Stored, Commit}
use Rattle.vp_model.specs.Words.{first_some, value_at, view_before}
use Rattle.vp_model.specs.Catalogue.{Catalogue, Table}
use Rattle.vp_model.specs.Site.{SiteState}
use Rattle.vp_model.specs.World.{WorldState, site_of}
use Rattle.vp_model.specs.OneCopy.{order}
use Rattle.vp_model.specs.Headline.{is_readable}

-- the table that an entry gives the record, or else the one that it had
abbrev pub table_by : ℕ → Option Table → Commit → Option Table
table_by rec own e = first_some (value_at rec e.tables) own

-- the record's own table after the transactions of this view and all lower ones: none where it has the catalogue's
abbrev pub table_after : List Commit → ViewId → ℕ → Option Table
table_after journal view rec = fold (table_by rec) None (filter (λ commit. not (view_before view commit.view)) (order journal))

-- each copy that may be read has the table that the transactions of its site's view and all lower ones leave
abbrev pub CopiesHaveTables : Catalogue → WorldState → Type 0
CopiesHaveTables catalogue w =
    (site rec : ℕ) (x : SiteState) (view : View) (copy : Stored) → site_of w site ≡ Some x → x.held ≡ Some view → Contains x.copies (rec, copy) → is_readable x rec ≡ true → copy.table ≡ table_after w.journal view.id rec
