-- An open record stays open over a step, no entry of it changes a record that is open in a higher view, and what it uses or changes is
-- open in its view.
use Rattle.std.proofs.Common.{◌≡◌, ◌⊎◌, ◌∙◌, ap, sym, subst, ℕ, true, inl, inr, ⊎_elim}
use Rattle.std.specs.Prelude.{Option, Some}
use Rattle.vp_model.specs.Types.{ViewId, View, Commit, Input}
use Rattle.vp_model.specs.Words.{value_at}
use Rattle.vp_model.specs.Catalogue.{Catalogue, Table}
use Rattle.vp_model.specs.Refresh.{members_in}
use Rattle.vp_model.specs.Site.{SiteState, Stepped}
use Rattle.vp_laws.proofs.Lists.Members.{Has}
use Rattle.vp_laws.proofs.Lists.Views.{Precedes}
use Rattle.vp_laws.proofs.Worlds.Scenes.{Scene}
use Rattle.vp_laws.proofs.Invariant.Closed.{Closed, Open, table_in_force}
use Rattle.vp_laws.proofs.Invariant.Entered.{AgreedAs}
use Rattle.vp_laws.proofs.Invariant.Known.{Known}
use Rattle.vp_laws.proofs.Invariant.LiveUses.{MayWeigh}
use Rattle.vp_laws.proofs.Invariant.Ops.{HasUsed}
use Rattle.vp_laws.proofs.Invariant.Refresh.{InvRefresh}
use Rattle.vp_laws.proofs.Journal.TablesAfter.{given_by, accessible_by}
use Rattle.vp_laws.proofs.Journal.ValuesAfter.{Wrote}
use Rattle.vp_laws.proofs.Keeping.Closing.{closed_lasts}
use Rattle.vp_laws.proofs.Keeping.Does.{Does}
use Rattle.vp_laws.proofs.Keeping.NewEntries.{entering, agreed_was}
use Rattle.vp_laws.proofs.Copies.Force.{below, Weighed}
use Rattle.vp_laws.proofs.Copies.ForceKept.{open_stops, open_lasts, below_stays}
use Rattle.vp_laws.proofs.Copies.Weights.{weighed_wrote, open_by, open_from, known_weighed, weighed_from, changed_usable}

module _ (catalogue : Catalogue) (w new : Scene) (s : ℕ) (x : SiteState) (given : Input) (o : Stepped) (k : Known catalogue w) (n : Known catalogue new) (d : Does catalogue w new s x given o) (refresh : InvRefresh catalogue w) where
  -- what a new entry used or changed was open in its view
  entered_open : (e : Commit) (v : View) (rec : ℕ) → Has o.effects.commits e → AgreedAs w e.view v → HasUsed e.ops rec ⊎ Wrote e rec → Open catalogue w rec v
  entered_open e v rec h agreed did =
      let f = entering catalogue w new s x given o k n d e h in
      refresh.uses s x f.was rec v d.up f.live
      (⊎_elim
      (λ used. inl (subst (λ (e : Commit). HasUsed e.ops rec) (sym f.done) used))
      (λ wrote. inr (subst (λ (e : Commit). Wrote e rec) (sym f.done) wrote))
      did)
      (agreed.0, agreed.1 ∙ sym f.viewed)

  entered_usable : (rec : ℕ) (e : Commit) (v : View) → Has o.effects.commits e → Wrote e rec → AgreedAs w e.view v → accessible_by (below given_by rec catalogue w e.view) v.members ≡ true
  entered_usable rec e v h wrote agreed = subst (λ (i : ViewId). accessible_by (below given_by rec catalogue w i) v.members ≡ true) agreed.1 (entered_open e v rec h agreed (inr wrote)).usable

  -- it changed no record that is open in a higher view
  pub stops : (e : Commit) (u : View) (rec : ℕ) → Has o.effects.commits e → Wrote e rec → Precedes e.view u.id → Open catalogue w rec u → ⊥
  stops e u rec h wrote low opened =
      open_stops given_by rec catalogue w new s x given o k n d (known_weighed catalogue w k refresh rec) (weighed_wrote rec) (entered_usable rec) e u h wrote low (open_by catalogue w rec u opened)

  pub closed_now : (rec : ℕ) (v : View) → Closed catalogue w rec v → Closed catalogue new rec v
  closed_now rec v h = closed_lasts catalogue w new s x given o d.up d.here.kept d.below.parts d.shares d.leaves d.st rec v h

  -- the table in force stays, where no new entry of a lower view changes the record
  pub table_stays : (rec : ℕ) (i : ViewId) → ((e : Commit) → Has o.effects.commits e → Precedes e.view i → Wrote e rec → ⊥) → table_in_force catalogue new rec i ≡ table_in_force catalogue w rec i
  table_stays rec i none = below_stays given_by rec catalogue w new s x given o k n d (known_weighed catalogue w k refresh rec) (weighed_wrote rec) (entered_usable rec) i (λ e h low q. none e h low (weighed_wrote rec e q))

  pub open_now : (rec : ℕ) (v : View) → Open catalogue w rec v → Open catalogue new rec v
  open_now rec v opened = open_from catalogue new rec v
      (open_lasts given_by rec catalogue w new s x given o k n d (known_weighed catalogue w k refresh rec) (weighed_wrote rec) (entered_usable rec) v (open_by catalogue w rec v opened))

  -- the view of a new entry, as it was
  pub entered_view : (e : Commit) (v : View) → Has o.effects.commits e → AgreedAs new e.view v → (x.held ≡ Some v) × AgreedAs w e.view v
  entered_view e v h agreed =
      let f = entering catalogue w new s x given o k n d e h in
      let same : f.view ≡ v = n.views.unique f.view v (d.st.moved.agreed f.view (d.here.held f.view f.held)) agreed.0 (f.is ∙ sym agreed.1) in
      (f.held ∙ ap (λ (v : View). Some v) same, (subst (Has w.agreed) same (d.here.held f.view f.held), agreed.1))

  -- each entry's records are open in its view
  pub entries_open : (e : Commit) (v : View) (rec : ℕ) → Has new.journal e → AgreedAs new e.view v → HasUsed e.ops rec ⊎ Wrote e rec → Open catalogue new rec v
  entries_open e v rec h agreed did = open_now rec v
      (⊎_elim
      (λ old. refresh.entry e v rec old (agreed_was catalogue w new s x given o k n d e v old agreed) did)
      (λ more. entered_open e v rec more (entered_view e v more agreed).1 did)
      (d.st.entered e h))

  pub entries_weighed : (e : Commit) (v : View) (rec : ℕ) (table : Table) → Has new.journal e → AgreedAs new e.view v → value_at rec e.tables ≡ Some table → MayWeigh catalogue v.members rec table
  entries_weighed e v rec table h agreed gave = ⊎_elim
      (λ old. refresh.weighed e v rec table old (agreed_was catalogue w new s x given o k n d e v old agreed) gave)
      (λ more.
      let f = entering catalogue w new s x given o k n d e more in
      subst (λ (held : Option View). MayWeigh catalogue (members_in held) rec table) (entered_view e v more agreed).0
      ((refresh.live s x f.was d.up f.live).weighed rec table (subst (λ (e : Commit). value_at rec e.tables ≡ Some table) (sym f.done) gave)))
      (d.st.entered e h)

  pub weighed_now : (rec : ℕ) → Weighed given_by rec catalogue new
  weighed_now rec = weighed_from catalogue new n.led entries_open entries_weighed rec

  pub changed_now : (rec : ℕ) (e : Commit) (v : View) → Has new.journal e → Wrote e rec → AgreedAs new e.view v → accessible_by (below given_by rec catalogue new e.view) v.members ≡ true
  changed_now rec = changed_usable catalogue new n.led entries_open entries_weighed rec
