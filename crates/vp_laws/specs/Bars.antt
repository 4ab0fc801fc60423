-- When a site bars a record.
use Rattle.std.specs.Prelude.{◌≡◌, ℕ, Some, None}
use Rattle.vp_model.specs.Types.{View, Stored}
use Rattle.vp_model.specs.Words.{value_at}
use Rattle.vp_model.specs.Catalogue.{Catalogue, accessible_by}
use Rattle.vp_model.specs.Refresh.{is_open, refreshing_of}
use Rattle.vp_model.specs.Site.{SiteState}
use Rattle.vp_model.specs.World.{WorldState, site_of}
use Rattle.vp_laws.specs.Entries.{table_in_force}

-- where a site that holds a view has a copy of a record, and that is not under refresh, it lets the record be used exactly where the members have more
-- than half of its weight by the table in force in the view; else it bars it
abbrev pub BarsAreRight : Catalogue → WorldState → Type 0
BarsAreRight catalogue w =
    (site rec : ℕ) (x : SiteState) (view : View) (copy : Stored) → site_of w site ≡ Some x → x.held ≡ Some view → value_at rec x.copies ≡ Some copy → refreshing_of rec x.refresh ≡ None → is_open x rec ≡ accessible_by (table_in_force catalogue w.journal rec view.id) view.members
