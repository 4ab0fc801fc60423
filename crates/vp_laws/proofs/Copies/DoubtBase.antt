-- Between the date of a copy and the view of a doubt on it, whose transaction is live or has an entry, no entry wrote the record.
use Rattle.std.proofs.Common.{◌≡◌, ◌⊎◌, ◌∙◌, ap, sym, subst, ℕ, true, List, [], ◌∷◌, refl, inr, ⊎_elim}
use Rattle.std.specs.Prelude.{Option, Some, None, ◌==◌, ◌&&◌, ◌||◌, not}
use Rattle.std.specs.List.{list_all}
use Rattle.std.proofs.lemmas.Bool.{eqb-true}
use Rattle.vp_laws.proofs.Journal.Changed.{HasChanged}
use Rattle.vp_model.specs.Types.{Change, ViewId, TxnId, View, Commit, Input, Owner, Stored, Lock, Live, Doubt}
use Rattle.vp_model.specs.Types.message
use Rattle.vp_model.specs.Types.owner
use Rattle.vp_model.specs.Words.{has, keys, value_at, same_txn, same_owner}
use Rattle.vp_model.specs.Catalogue.{Catalogue, holders}
use Rattle.vp_model.specs.Durable.{DurableState}
use Rattle.vp_model.specs.Locks.{holds}
use Rattle.vp_model.specs.Transactions.{entry_of, last_changes, writes_held}
use Rattle.vp_model.specs.Refresh.{is_open}
use Rattle.vp_model.specs.Site.{SiteState, Stepped}
use Rattle.vp_laws.proofs.Lists.Members.{Has, has_none, has_cons, any_true, any_false, both_true, map_has, filter_has}
use Rattle.vp_laws.proofs.Lists.Changes.{mapped_has}
use Rattle.vp_model.proofs.SameTxn.{same_txn-is, same_txn-not}
use Rattle.vp_laws.proofs.Lists.Views.{Precedes}
use Rattle.vp_laws.proofs.Moves.LocalViews.{letter}
use Rattle.vp_laws.proofs.Table.Votes.{IsPrepared}
use Rattle.vp_laws.proofs.Table.Listed.{IsUnlisted}
use Rattle.vp_laws.proofs.Table.LocalLocks.{LowerDoubt}
use Rattle.vp_laws.proofs.Worlds.Scenes.{Scene, plain_at, kept_at}
use Rattle.vp_laws.proofs.Invariant.Names.{UsedTxn}
use Rattle.vp_laws.proofs.Invariant.Entered.{AgreedAs}
use Rattle.vp_laws.proofs.Copies.Facts.{copy_holder, entry_closes}
use Rattle.vp_laws.proofs.Copies.Refreshes.{unlisted_none}
use Rattle.vp_laws.proofs.Worlds.Sites.{now_is}
use Rattle.vp_laws.proofs.Keeping.NewEntries.{entering, Fresh, doubt_from, doubt_says, fresh_same, fresh_not_entered}
use Rattle.vp_laws.proofs.Copies.Opening.{stops}
use Rattle.vp_laws.proofs.Copies.Origins.{Own, Origin, origin}
use Rattle.vp_laws.proofs.Copies.Writes.{applied_sure, written_sure}
use Rattle.vp_laws.proofs.Copies.Brought.{brought_sure}
use Rattle.vp_laws.proofs.Keeping.Does.{Does}
use Rattle.vp_laws.proofs.Invariant.Base.{Stands, InvBase}
use Rattle.vp_laws.proofs.Invariant.Copies.{InvCopies}
use Rattle.vp_laws.proofs.Invariant.Refresh.{InvRefresh}
use Rattle.vp_laws.proofs.Keeping.Settled.{holding}
use Rattle.vp_laws.proofs.Keeping.Used.{Was}
use Rattle.vp_laws.proofs.Invariant.Known.{Known}
use Rattle.vp_laws.proofs.Journal.ValuesAfter.{Wrote}

-- what is held of the writes was written
held_wrote : (catalogue : Catalogue) (q rec : ℕ) (writes : List (ℕ × Change)) → Has (keys (writes_held catalogue q writes)) rec → Has (keys writes) rec
held_wrote catalogue q rec writes h =
    let r = map_has (λ (p : ℕ × Change). p.0) (writes_held catalogue q writes) rec h in
    subst (Has (keys writes)) r.2 (mapped_has (λ (p : ℕ × Change). p.0) writes r.0 (filter_has (λ (w : ℕ × Change). has (holders catalogue w.0) q) writes r.0 r.1).0)

module _ (catalogue : Catalogue) (w new : Scene) (s : ℕ) (x : SiteState) (given : Input) (o : Stepped) (k : Known catalogue w) (n : Known catalogue new) (d : Does catalogue w new s x given o) (copies : InvCopies catalogue w) (refresh : InvRefresh catalogue w) where
  -- a live transaction whose prepare was sent, with what it writes there
  module _ (i : ℕ) (y : SiteState) (t : Live) (up : plain_at w i ≡ Some y) (here : Has y.live t) (from to number : ℕ) (txn : TxnId) (view : ViewId) (reads : List ℕ) (writes : List (ℕ × Change)) (named : t.txn ≡ txn) (sent : Has w.sent (letter from to (message.Prepare txn view number reads writes))) (rec : ℕ) (on : Has (keys writes) rec) where
    at : plain_at w txn.site ≡ Some y
    at = rw (ap (λ (t : TxnId). t.site) (sym named) ∙ ((k.led.site i y up).names t here).0 ∙ (k.views.site i y up).id) up

    is : IsPrepared catalogue t to view number reads writes
    is = k.votes.prepared _ sent y t at here named

    wrote : HasChanged t rec
    wrote = held_wrote catalogue to rec (last_changes (entry_of t)) (subst (λ (ws : List (ℕ × Change)). Has (keys ws) rec) (sym is.has_written) on)

    -- no entry of the step is of a lower view and wrote the record
    live_stops : (e : Commit) → Has o.effects.commits e → Wrote e rec → Precedes e.view view → ⊥
    live_stops e h also below =
        let of = (k.led.site i y up).live t here in
        let agreed : AgreedAs w t.view of.0 = ((k.views.site i y up).held of.0 of.1, of.2) in
        stops catalogue w new s x given o k n d refresh e of.0 rec h also (subst (Precedes e.view) (sym (of.2 ∙ is.in_view)) below) (refresh.uses i y t rec of.0 up here (inr wrote) agreed)

  -- a doubt that was here, of a transaction that stood
  old_stops : (j : ℕ) (u : Doubt) (rec : ℕ) → Has (kept_at w j).doubts u → Has (keys u.writes) rec → Stands w u.txn → (e : Commit) → Has o.effects.commits e → Wrote e rec → Precedes e.view u.view → ⊥
  old_stops j u rec there on (Stands.live i y t up here named) e h wrote below =
      let q = (k.shares.doubts j u there).0 in
      live_stops i y t up here q.0 j q.1 u.txn u.view q.2 u.writes named q.3 rec on e h wrote below
  old_stops j u rec there on (Stands.entered f g named) e h wrote below =
      let says = doubt_says catalogue w new s x given o k n d f (d.st.moved.journal f g) j u there (sym named) in
      let v = k.led.entry f g in
      let also : Wrote f rec = held_wrote catalogue j rec (last_changes f) (subst (λ (ws : List (ℕ × Change)). Has (keys ws) rec) (sym says.1) on) in
      let c = entry_closes catalogue w k refresh f rec v.0 g also (v.1, v.2) in
      stops catalogue w new s x given o k n d refresh e v.0 rec h wrote (subst (Precedes e.view) (sym (v.2 ∙ says.0)) below) c

  -- a name that was used stood before, where it is now
  stood : (txn : TxnId) → ((i : ℕ) (y : SiteState) (t : Live) → plain_at new i ≡ Some y → Has y.live t → t.txn ≡ txn → Was w i t) → Stands new txn → Stands w txn
  stood txn was (Stands.live i y t up here named) = let a = was i y t up here named in Stands.live i a.site a.u a.up_then a.here (a.named ∙ named)
  stood txn was (Stands.entered e h named) = ⊎_elim
      (λ old. Stands.entered e old named)
      (λ more. let f = entering catalogue w new s x given o k n d e more in Stands.live s x f.was d.up f.live (f.named ∙ named))
      (d.st.entered e h)

  -- the lock of a part on what it writes
  all_locked : (recs : List ℕ) (txn : TxnId) → list_all (λ rec. holds rec true (owner.Txn txn) x.locks) recs ≡ true → (rec : ℕ) → Has recs rec → (l : Lock) × Has x.locks l × (l.rec ≡ rec) × (l.owner ≡ owner.Txn txn)
  all_locked [] txn e rec h = absurd (has_none rec h)
  all_locked (r ∷ recs) txn e rec h =
      let b = both_true (holds r true (owner.Txn txn) x.locks) (list_all (λ rec. holds rec true (owner.Txn txn) x.locks) recs) e in
      ⊎_elim
      (λ (one : r ≡ rec).
      let q = any_true (λ (lock : Lock). (lock.rec == r) && (not true || lock.exclusive) && same_owner lock.owner (owner.Txn txn)) x.locks b.0 in
      let p = both_true ((q.0.rec == r) && (not true || q.0.exclusive)) (same_owner q.0.owner (owner.Txn txn)) q.2 in
      let z = both_true (q.0.rec == r) (not true || q.0.exclusive) p.0 in
      (q.0, q.1, eqb-true q.0.rec r z.0 ∙ one, owner_is q.0.owner txn p.1))
      (λ more. all_locked recs txn b.1 rec more)
      (has_cons r recs rec h)
    where
      owner_is : (a : Owner) (txn : TxnId) → same_owner a (owner.Txn txn) ≡ true → a ≡ owner.Txn txn
      owner_is (owner.Txn t) txn e = ap owner.Txn (same_txn-is t txn e)
      owner_is owner.Refresh txn e = cc

  -- a doubt of this step: its copy may be used and is not under refresh
  fresh_base : (j rec : ℕ) (c : Stored) (u : Doubt) (e : Commit) (f : Fresh catalogue w new s x given o k n d j u) → value_at rec (kept_at w j).copies ≡ Some c → Has (kept_at new j).doubts u → Has (keys u.writes) rec → Stands new u.txn → Has w.journal e → Wrote e rec → Precedes c.date e.view → Precedes e.view u.view → ⊥
  fresh_base j rec c u e f copy there on (Stands.entered g h named) old wrote later below = fresh_not_entered catalogue w new s x given o k n d j u f there g h named
  fresh_base j rec c u e f copy there on (Stands.live i y t up here named) old wrote later below =
      copies.between s rec x v.0 c e d.up v.1 usable (unlisted_none rec x.refresh unlisted)
      (subst (λ (a : DurableState). value_at rec a.copies ≡ Some c) (ap (kept_at w) f.here ∙ sym d.here.kept) copy) old wrote later
      (subst (Precedes e.view) (sym u_view ∙ sym v.2) below)
    where
      came : Has w.sent (letter f.from s (message.Prepare f.part.txn f.prepared.view f.prepared.number f.reads f.writes))
      came = d.came f.from _ f.prepared.comes

      name_is : f.part.txn ≡ u.txn
      name_is = ap (λ (u : Doubt). u.txn) f.is

      was : Was w i t
      was = d.was i y t (subst (UsedTxn w) (name_is ∙ sym named) (k.names.sent _ came).0.0) here (now_is w new s x o d.st i y up)

      v : (v : View) × (x.held ≡ Some v) × (v.id ≡ f.prepared.view)
      v = holding x f.prepared.view f.prepared.held

      on_writes : Has (keys f.writes) rec
      on_writes = rw (ap (λ (u : Doubt). u.writes) f.is) on

      prepared : IsPrepared catalogue was.u s f.prepared.view f.prepared.number f.reads f.writes
      prepared = is i was.site was.u was.up_then was.here f.from s f.prepared.number f.part.txn f.prepared.view f.reads f.writes (was.named ∙ named ∙ sym name_is) came rec on_writes

      -- the part's view is the prepare's: both are held
      u_view : f.prepared.view ≡ u.view
      u_view =
          let p = d.below.parts f.part f.prepared.part_here in
          let b = p.2 in
          sym v.2 ∙ held_one v.0 p.0 v.1 p.1 ∙ b ∙ ap (λ (u : Doubt). u.view) f.is
        where
          held_one : (a b : View) → x.held ≡ Some a → x.held ≡ Some b → a.id ≡ b.id
          held_one a b p q = let z : a ≡ b = cc in ap (λ (v : View). v.id) z

      -- the part's lock on it, which is not of one in doubt here
      lock : (l : Lock) × Has x.locks l × (l.rec ≡ rec) × (l.owner ≡ owner.Txn f.part.txn)
      lock = all_locked (keys f.writes) f.part.txn (both_true _ _ f.prepared.locks).0 rec on_writes

      certain : (view : ViewId) → LowerDoubt x.doubts view f.part.txn → ⊥
      certain view other = same_txn-not other.0.txn f.part.txn (any_false (λ (u : Doubt). same_txn u.txn f.part.txn) x.doubts f.prepared.certain other.0 other.1) other.2

      usable : is_open x rec ≡ true
      usable = go (value_at rec x.bars) refl
        where
          go : (bar : Option (ℕ × ℕ)) → value_at rec x.bars ≡ bar → is_open x rec ≡ true
          go None e = rw e refl
          go (Some bar) e = let b = k.barred.site s x d.up rec bar e in absurd (certain b.view.id (b.owners lock.0 f.part.txn lock.1 lock.2 lock.3))

      unlisted : IsUnlisted x.refresh rec
      unlisted r listed same = let low = (k.guards.site s x d.up).lower r listed in certain low.0.id (low.3 lock.0 f.part.txn lock.1 (lock.2 ∙ sym same) lock.3)

  pub base_keeps : InvBase w → InvBase new
  base_keeps base j rec c u e h there on stands entry also later below = go (origin catalogue w new s x given o k n d j rec c h) (doubt_from catalogue w new s x given o k n d j u there)
    where
      its : Has (holders catalogue rec) j
      its = copy_holder catalogue new n j rec c h

      was_used : (from number : ℕ) (view : ViewId) (reads : List ℕ) (writes : List (ℕ × Change)) → Has w.sent (letter from j (message.Prepare u.txn view number reads writes)) → (i : ℕ) (y : SiteState) (t : Live) → plain_at new i ≡ Some y → Has y.live t → t.txn ≡ u.txn → Was w i t
      was_used from number view reads writes sent i y t up here named = d.was i y t (subst (UsedTxn w) (sym named) (k.names.sent _ sent).0.0) here (now_is w new s x o d.st i y up)

      old : value_at rec (kept_at w j).copies ≡ Some c → Has (kept_at w j).doubts u → ⊥
      old copy was =
          let q = (k.shares.doubts j u was).0 in
          let stood_then = stood u.txn (was_used q.0 q.1 u.view q.2 u.writes q.3) stands in
          ⊎_elim (λ there_then. base j rec c u e copy was on stood_then there_then also later below) (λ more. old_stops j u rec was on stood_then e more also below) (d.st.entered e entry)

      new_doubt : value_at rec (kept_at w j).copies ≡ Some c → Fresh catalogue w new s x given o k n d j u → ⊥
      new_doubt copy f = fresh_base j rec c u e f copy there on stands (subst (λ (es : List Commit). Has es e) (fresh_same catalogue w new s x given o k n d j u f) entry) also later below

      go : Origin catalogue w new s x given o k n d j rec c → (Has (kept_at w j).doubts u) ⊎ (Fresh catalogue w new s x given o k n d j u) → ⊥
      go (Origin.plain (Own.old t)) from = ⊎_elim (λ was. old t.was was) (λ f. new_doubt t.was f) from
      go (Origin.plain (Own.outcome a)) from = applied_sure catalogue w new s x given o k n d copies refresh j rec c its a u there on
      go (Origin.plain (Own.entered b)) from = written_sure catalogue w new s x given o k n d copies refresh j rec c its b u there on
      go (Origin.brought b) from = brought_sure catalogue w new s x given o k n d copies refresh j rec c its b u there on
