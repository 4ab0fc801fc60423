-- When a site bars a record, in the words of the contract.
use Rattle.std.proofs.Common.{◌≡◌, sym, subst, ℕ, Bool, true, false, refl}
use Rattle.std.specs.Prelude.{Option, Some, None}
use Rattle.std.specs.List.{Contains}
use Rattle.vp_model.specs.Types.{View, Stored}
use Rattle.vp_model.specs.Words.{value_at}
use Rattle.vp_model.specs.Catalogue.{Catalogue, Table, accessible_by}
use Rattle.vp_model.specs.OneCopy.{order}
use Rattle.vp_model.specs.Refresh.{is_open, refreshing_of}
use Rattle.vp_model.specs.Site.{SiteState}
use Rattle.vp_model.specs.World.{WorldState, Moment, Schedule, site_of, moments_of}
use Rattle.vp_laws.specs.Bars.{BarsAreRight}
use Rattle.vp_laws.specs.Catalogues.{IsWhole}
use Rattle.vp_laws.specs.Entries.{table_in_force}
use Rattle.vp_laws.proofs.Lists.Members.{has_of}
use Rattle.vp_laws.proofs.Worlds.Scenes.{scene_of}
use Rattle.vp_laws.proofs.Worlds.Sites.{With}
use Rattle.vp_laws.proofs.Worlds.Events.{in_each}
use Rattle.vp_laws.proofs.Journal.TableContents.{table_same}
use Rattle.vp_laws.proofs.Journal.UpTo.{under}
use Rattle.vp_laws.proofs.Invariant.Invariant.{Invariant}
use Rattle.vp_laws.proofs.Order.Short.{InvShort, short_last}

module _ (catalogue : Catalogue) (w : WorldState) (inv : Invariant catalogue (scene_of w)) (short : InvShort catalogue (scene_of w)) (site rec : ℕ) (x : SiteState) (view : View) (copy : Stored) (up : site_of w site ≡ Some x) (held : x.held ≡ Some view) (found : value_at rec x.copies ≡ Some copy) (settled : refreshing_of rec x.refresh ≡ None) where
  abbrev Says : Bool → Type 0
  Says b = accessible_by (table_in_force catalogue w.journal rec view.id) view.members ≡ b

  opens : is_open x rec ≡ true → Says true
  opens e = subst (λ (t : Table). accessible_by t view.members ≡ true) (sym (table_same catalogue rec (under view.id (order w.journal)))) (inv.copies.open_copy site rec x view copy up held e settled found).usable

  bars : (bar : ℕ × ℕ) → value_at rec x.bars ≡ Some bar → (b : Bool) → Says b → Says false
  bars bar e false q = q
  bars bar e true q = absurd ((short.site site rec x view bar up held e).short (subst (λ (t : Table). accessible_by t view.members ≡ true) (table_same catalogue rec (under view.id (order w.journal))) q))

  judged : is_open x rec ≡ accessible_by (table_in_force catalogue w.journal rec view.id) view.members
  judged = go (value_at rec x.bars) refl
    where
      go : (o : Option (ℕ × ℕ)) → value_at rec x.bars ≡ o → is_open x rec ≡ accessible_by (table_in_force catalogue w.journal rec view.id) view.members
      go None e = let z = opens (rw e refl) in rw (e, z) refl
      go (Some bar) e = let z = bars bar e _ refl in rw (e, z) refl

pub bars_right : (s : Schedule) → IsWhole s.catalogue → (m : Moment) → Contains (moments_of s) m → BarsAreRight s.catalogue m.before × BarsAreRight s.catalogue m.after
bars_right s whole m c =
    let h = in_each s.catalogue (With (Invariant s.catalogue) (InvShort s.catalogue)) (short_last s.catalogue whole) s.events m (has_of (moments_of s) m c) in
    (judged s.catalogue m.before h.0.base h.0.more, judged s.catalogue m.after h.1.base h.1.more)
