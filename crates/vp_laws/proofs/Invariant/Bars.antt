-- The numbers of bars, in every world: the sums over the held members by a table that the catalogue or an entry of a lower view gave the
-- record, with no more than half of the weight inside.
use Rattle.std.proofs.Common.{◌≡◌, ℕ, List, false}
use Rattle.std.specs.Prelude.{Some}
use Rattle.vp_model.specs.Types.{View, Commit}
use Rattle.vp_model.specs.Words.{value_at}
use Rattle.vp_model.specs.Catalogue.{Catalogue, Table, accessible_by}
use Rattle.vp_model.specs.Site.{SiteState}
use Rattle.vp_model.specs.Justified.{tables_below}
use Rattle.vp_laws.proofs.Lists.Members.{Has}
use Rattle.vp_laws.proofs.Table.Unlisted.{sums_of}
use Rattle.vp_laws.proofs.Worlds.Scenes.{Scene, plain_at}

-- the bar of a record in a view
pub record BarSays (catalogue : Catalogue) (journal : List Commit) (rec : ℕ) (v : View) (bar : ℕ × ℕ) : Type 0 where
  pub table : Table
  pub given : Has (tables_below catalogue journal rec v.id) table
  pub sums : bar ≡ sums_of table v.members
  pub short : accessible_by table v.members ≡ false

pub record InvBars (catalogue : Catalogue) (w : Scene) : Type 0 where
  -- each bar of a site that is up
  pub site : (s rec : ℕ) (x : SiteState) (v : View) (bar : ℕ × ℕ) → plain_at w s ≡ Some x → x.held ≡ Some v → value_at rec x.bars ≡ Some bar → BarSays catalogue w.journal rec v bar
