-- What is known of tables in force lasts over a step: a record that is open in a view by the table in force stays open, since no
-- entry of a lower view changes the table any more; and the view of a new entry has more than half by the table in force.
use Rattle.std.proofs.Common.{◌≡◌, sym, subst, ℕ, true, List, refl}
use Rattle.vp_model.specs.Types.{ViewId, View, Commit, Input}
use Rattle.vp_model.specs.Catalogue.{Catalogue, weights_of}
use Rattle.vp_model.specs.Site.{SiteState, Stepped}
use Rattle.vp_laws.proofs.Lists.Members.{Has}
use Rattle.vp_laws.proofs.Lists.Views.{Precedes}
use Rattle.vp_laws.proofs.Worlds.Scenes.{Scene}
use Rattle.vp_laws.proofs.Invariant.Entered.{AgreedAs}
use Rattle.vp_laws.proofs.Invariant.Closed.{Closed}
use Rattle.vp_laws.proofs.Invariant.Known.{Known}
use Rattle.vp_laws.proofs.Journal.ValuesAfter.{Wrote}
use Rattle.vp_laws.proofs.Keeping.Closing.{closed_lasts}
use Rattle.vp_laws.proofs.Keeping.Does.{Does}
use Rattle.vp_laws.proofs.Keeping.NewEntries.{JournalNow, journal_now, entering, entering_agreed}
use Rattle.vp_laws.proofs.Keeping.Stopping.{met_stops}
use Rattle.vp_laws.proofs.Journal.TablesAfter.{Table, accessible_by, weighs}
use Rattle.vp_laws.proofs.Copies.Force.{below, Weighed, usable_after, walk_up}
use Rattle.vp_laws.proofs.Copies.ForceAt.{below_more}

module _ (tables : Commit → List (ℕ × Table)) (rec : ℕ) where
  -- closed for the view, and accessible in it by the table that lower views leave
  pub record OpenBy (catalogue : Catalogue) (w : Scene) (v : View) : Type 0 where
    pub closed : Closed catalogue w rec v
    pub usable : accessible_by (below tables rec catalogue w v.id) v.members ≡ true

  -- `too`: who changes the table changes the record. `used`: what a new entry changed is accessible in its view, by the table that lower views
  -- leave. `given`, `sites`: a table that a new entry gives has the holders, and more than half of it is in the view
  module _ (catalogue : Catalogue) (w new : Scene) (s : ℕ) (x : SiteState) (given : Input) (o : Stepped) (k : Known catalogue w) (n : Known catalogue new) (d : Does catalogue w new s x given o) (inv : Weighed tables rec catalogue w) (too : (e : Commit) → weighs tables rec e ≡ true → Wrote e rec) (used : (e : Commit) (v : View) → Has o.effects.commits e → Wrote e rec → AgreedAs w e.view v → accessible_by (below tables rec catalogue w e.view) v.members ≡ true) where
    -- a new entry changed no record that is open in a higher view
    pub open_stops : (e : Commit) (u : View) → Has o.effects.commits e → Wrote e rec → Precedes e.view u.id → OpenBy catalogue w u → ⊥
    open_stops e u h wrote low opened =
        let f = entering catalogue w new s x given o k n d e h in
        let agreed = entering_agreed catalogue w new s x given o k n d e f in
        let here = used e f.view h wrote agreed in
        let m = walk_up tables rec catalogue w inv f.view u (subst (λ (i : ViewId). Precedes i u.id) (sym f.is) low)
        (usable_after tables rec catalogue w inv f.view agreed.0 (subst (λ (i : ViewId). accessible_by (below tables rec catalogue w i) f.view.members ≡ true) (sym f.is) here))
        opened.usable opened.closed in
        met_stops catalogue w new s x given o d.up d.here.id d.led k.shares n.shares n.entered d.steps d.shares d.st e f.view rec m.site m.up h (d.st.moved.agreed f.view agreed.0, agreed.1) wrote m.holder m.member (subst (λ (i : ViewId). Precedes i m.up) f.is m.above) m.closed

    -- the table in force in a view stays, where no new entry of a lower view changes it
    pub below_stays : (i : ViewId) → ((e : Commit) → Has o.effects.commits e → Precedes e.view i → weighs tables rec e ≡ true → ⊥) → below tables rec catalogue new i ≡ below tables rec catalogue w i
    below_stays i none = go (journal_now catalogue w new s x given o k n d)
      where
        go : JournalNow catalogue w new s x given o k n d → below tables rec catalogue new i ≡ below tables rec catalogue w i
        go (JournalNow.stays e) = rw e refl
        go (JournalNow.longer e h is) = rw is (below_more tables rec (weights_of catalogue rec) w.journal e i (λ low q. none e h low q))

    -- an open record stays so
    pub open_lasts : (v : View) → OpenBy catalogue w v → OpenBy catalogue new v
    open_lasts v opened = record {
      closed = closed_lasts catalogue w new s x given o d.up d.here.kept d.below.parts d.shares d.leaves d.st rec v opened.closed;
      usable = subst (λ (t : Table). accessible_by t v.members ≡ true) (sym (below_stays v.id (λ e h low q. open_stops e v h (too e q) low opened))) opened.usable;
    }
