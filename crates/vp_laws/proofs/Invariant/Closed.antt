-- A record that is closed for a view: no transaction of a lower view that writes it can be decided any more.
use Rattle.std.proofs.Common.{◌≡◌, ℕ, true}
use Rattle.vp_model.specs.Types.{ViewId, View, Commit, Doubt}
use Rattle.vp_model.specs.Words.{keys}
use Rattle.vp_model.specs.Catalogue.{Catalogue, Table, holders, weights_of, accessible_by}
use Rattle.vp_laws.proofs.Lists.Members.{Has}
use Rattle.vp_laws.proofs.Lists.Views.{Precedes}
use Rattle.vp_laws.proofs.Journal.TablesAfter.{table_below}
use Rattle.vp_laws.proofs.Worlds.Scenes.{Scene, kept_at}
use Rattle.vp_laws.proofs.Invariant.HasLeft.{HasLeft}

-- the site has left all views below, and has no doubt on the record of such a view
pub record ClosedAt (w : Scene) (q rec : ℕ) (i : ViewId) : Type 0 where
  -- it has left each lower view
  pub left : (j : ViewId) → Precedes j i → HasLeft w q j
  -- no doubt of a lower view there writes the record
  pub certain : (d : Doubt) → Has (kept_at w q).doubts d → Has (keys d.writes) rec → Precedes d.view i → ⊥

-- no transaction of a lower view that writes the record can be decided any more
abbrev pub Closed : Catalogue → Scene → ℕ → View → Type 0
Closed catalogue w rec v = (q : ℕ) → Has (holders catalogue rec) q → Has v.members q → ClosedAt w q rec v.id

-- the table in force in a view: the one that the entries of lower views leave
abbrev pub table_in_force : Catalogue → Scene → ℕ → ViewId → Table
table_in_force catalogue w rec view = table_below (λ (e : Commit). e.tables) rec (weights_of catalogue rec) w.journal view

-- the members have more than half of the weight of the record, by the table in force in their view
abbrev pub InForce : Catalogue → Scene → ℕ → View → Type 0
InForce catalogue w rec v = accessible_by (table_in_force catalogue w rec v.id) v.members ≡ true

-- both: what is known of each record that is used in the view
pub record Open (catalogue : Catalogue) (w : Scene) (rec : ℕ) (v : View) : Type 0 where
  -- it is closed for the view
  pub closed : Closed catalogue w rec v
  -- the view has more than half of its weight by the table in force
  pub usable : InForce catalogue w rec v
