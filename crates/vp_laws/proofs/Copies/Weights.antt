-- What the invariant says of the tables that entries give a record: it is open in the view of each, so each view in which it is open has
-- one of its holders.
use Rattle.std.proofs.Common.{◌≡◌, subst, ℕ, true, List, refl, inr, ◌⊎◌}
use Rattle.std.specs.Prelude.{Option, Some, None, is_some}
use Rattle.std.proofs.lemmas.Slice.Eq.{bytes_eq-Decides}
use Rattle.vp_model.specs.Types.{Change, ViewId, View, Commit}
use Rattle.vp_model.specs.Words.{keys, value_at, view_before}
use Rattle.vp_model.specs.Catalogue.{Catalogue, Table, holders, weights_of}
use Rattle.vp_model.specs.OneCopy.{order}
use Rattle.vp_model.specs.Transactions.{last_changes}
use Rattle.vp_laws.proofs.Lists.Members.{Has, filter_has}
use Rattle.vp_laws.proofs.Worlds.Scenes.{Scene}
use Rattle.vp_laws.proofs.Invariant.Closed.{InForce, Open, table_in_force}
use Rattle.vp_laws.proofs.Invariant.Entered.{AgreedAs}
use Rattle.vp_laws.proofs.Invariant.Known.{Known}
use Rattle.vp_laws.proofs.Invariant.Led.{InvLed}
use Rattle.vp_laws.proofs.Invariant.LiveUses.{MayWeigh}
use Rattle.vp_laws.proofs.Invariant.Ops.{HasUsed}
use Rattle.vp_laws.proofs.Invariant.Refresh.{InvRefresh}
use Rattle.vp_laws.proofs.Journal.Changed.{change_there}
use Rattle.vp_laws.proofs.Journal.LastChanges.{unchanged_ungiven}
use Rattle.vp_laws.proofs.Journal.Order.{order_has}
use Rattle.vp_laws.proofs.Journal.TablesAfter.{given_by, accessible_by, weighs, sites_among}
use Rattle.vp_laws.proofs.Journal.UpTo.{under}
use Rattle.vp_laws.proofs.Journal.ValuesAfter.{Wrote}
use Rattle.vp_laws.proofs.Copies.Force.{below, Weighed, shared_by}
use Rattle.vp_laws.proofs.Copies.ForceKept.{OpenBy}

-- an entry that gives a record a table changes it
pub weighed_wrote : (rec : ℕ) (e : Commit) → weighs given_by rec e ≡ true → Wrote e rec
weighed_wrote rec e gave = go (value_at rec (last_changes e)) refl
  where
    go : (o : Option Change) → value_at rec (last_changes e) ≡ o → Wrote e rec
    go None none = absurd (let y = subst (λ (o : Option Table). is_some o ≡ true) (unchanged_ungiven e rec none) gave in cc)
    go (Some change) is = change_there (last_changes e) rec change is

pub open_by : (catalogue : Catalogue) (w : Scene) (rec : ℕ) (v : View) → Open catalogue w rec v → OpenBy given_by rec catalogue w v
open_by catalogue w rec v h = record { closed = h.closed; usable = h.usable }

pub open_from : (catalogue : Catalogue) (w : Scene) (rec : ℕ) (v : View) → OpenBy given_by rec catalogue w v → Open catalogue w rec v
open_from catalogue w rec v h = record { closed = h.closed; usable = h.usable }

-- each entry's records are open in its view, and its tables may be given there
module _ (catalogue : Catalogue) (w : Scene) (led : InvLed w) (opened : (e : Commit) (v : View) (rec : ℕ) → Has w.journal e → AgreedAs w e.view v → HasUsed e.ops rec ⊎ Wrote e rec → Open catalogue w rec v) (weighed : (e : Commit) (v : View) (rec : ℕ) (table : Table) → Has w.journal e → AgreedAs w e.view v → value_at rec e.tables ≡ Some table → MayWeigh catalogue v.members rec table) (rec : ℕ) where
  -- where an entry changes the record, its view has more than half by the table in force
  pub changed_usable : (e : Commit) (v : View) → Has w.journal e → Wrote e rec → AgreedAs w e.view v → accessible_by (below given_by rec catalogue w e.view) v.members ≡ true
  changed_usable e v h wrote a = subst (λ (i : ViewId). accessible_by (below given_by rec catalogue w i) v.members ≡ true) a.1 (opened e v rec h a (inr wrote)).usable

  pub weighed_from : Weighed given_by rec catalogue w
  weighed_from = record {
    usable = λ e v h q a. changed_usable e v h (weighed_wrote rec e q) a;
    majority = λ e v t h is a. (weighed e v rec t h a is).enough;
    sites = λ e t h is. let v = led.entry e h in (bytes_eq-Decides (keys t) (holders catalogue rec)).0 (weighed e v.0 rec t h (v.1, v.2) is).holders;
    closed = λ e v h q a. (opened e v rec h a (inr (weighed_wrote rec e q))).closed;
    agreed = λ e h. let q = led.entry e h in (q.0, (q.1, q.2));
  }

module _ (catalogue : Catalogue) (w : Scene) (k : Known catalogue w) (refresh : InvRefresh catalogue w) (rec : ℕ) where
  pub known_weighed : Weighed given_by rec catalogue w
  known_weighed = weighed_from catalogue w k.led refresh.entry refresh.weighed rec

  -- the table in force has the holders
  pub force_sites : (view : ViewId) → keys (table_in_force catalogue w rec view) ≡ holders catalogue rec
  force_sites view = sites_among given_by rec (holders catalogue rec) (weights_of catalogue rec) (under view (order w.journal)) refl
      (λ f new h is. known_weighed.sites f new (order_has w.journal f (filter_has (λ (e : Commit). view_before e.view view) (order w.journal) f h).0) is)

  -- a holder in the view
  pub force_holder : (v : View) → InForce catalogue w rec v → (q : ℕ) × Has (holders catalogue rec) q × Has v.members q
  force_holder v enough =
      let q = shared_by (table_in_force catalogue w rec v.id) v.members v.members enough enough in
      (q.0, subst (λ (sites : List ℕ). Has sites q.0) (force_sites v.id) q.1, q.2)
