-- A record under refresh has a copy, and was not written in the held view.
use Rattle.std.proofs.Common.{◌≡◌, ◌≢◌, ◌⊎◌, ◌∙◌, ap, sym, subst, ℕ, true, false, List, refl, arith, ⊎_elim}
use Rattle.std.specs.Prelude.{Some, None}
use Rattle.vp_model.specs.Types.{Change, ViewId, TxnId, View, Commit, Input, Live, Refreshing, Doubt}
use Rattle.vp_model.specs.Types.message
use Rattle.vp_model.specs.Words.{is_empty, has, has_txn, keys}
use Rattle.vp_model.specs.Catalogue.{Catalogue, holders, start_copies}
use Rattle.vp_model.specs.Durable.{DurableState, empty_durable}
use Rattle.vp_model.specs.Transactions.{entry_of, last_changes, writes_held}
use Rattle.vp_model.specs.Site.{SiteState, Stepped}
use Rattle.vp_laws.proofs.Lists.Members.{Has, map_has, filter_keeps, has_test}
use Rattle.vp_laws.proofs.Lists.Changes.{mapped_has, some_not_empty}
use Rattle.vp_laws.proofs.Lists.Views.{Precedes, same_site}
use Rattle.vp_laws.proofs.Moves.LocalViews.{letter}
use Rattle.vp_laws.proofs.Table.Led.{IsOf, Led}
use Rattle.vp_laws.proofs.Table.Steps.{Steps}
use Rattle.vp_laws.proofs.Table.Shares.{Shares}
use Rattle.vp_laws.proofs.Table.Leaves.{Uses}
use Rattle.vp_laws.proofs.Table.Listed.{ListedNow, Listing}
use Rattle.vp_laws.proofs.Worlds.Scenes.{Scene, plain_at, kept_at, Acted, scene_of}
use Rattle.vp_laws.proofs.Invariant.Views.{InvViews, SiteOk}
use Rattle.vp_laws.proofs.Invariant.Led.{InvLed}
use Rattle.vp_laws.proofs.Invariant.Shares.{InDoubt, InvShares}
use Rattle.vp_laws.proofs.Invariant.Entered.{Affected, InvEntered}
use Rattle.vp_laws.proofs.Invariant.Settled.{InvSettled, HasEnded}
use Rattle.vp_laws.proofs.Invariant.Guards.{InvGuards}
use Rattle.vp_laws.proofs.Invariant.HasLeft.{HasLeft}
use Rattle.vp_laws.proofs.Invariant.Held.{InvHeld, copy_held}
use Rattle.vp_laws.proofs.Worlds.Sites.{NowIs, now_is, quiet_is, started, start_entered, no_refresh, Quiet, refresh_still}
use Rattle.vp_laws.proofs.Invariant.Listed.{InvListed}
use Rattle.vp_model.specs.World.{start_world}
use Rattle.vp_laws.proofs.Journal.ValuesAfter.{Wrote}

-- what an entry wrote, among what a holder of it holds
pub wrote_here : (catalogue : Catalogue) (e : Commit) (q rec : ℕ) → Has (holders catalogue rec) q → Wrote e rec → Has (keys (writes_held catalogue q (last_changes e))) rec
wrote_here catalogue e q rec holder wrote =
    let r = map_has (λ (p : ℕ × Change). p.0) (last_changes e) rec wrote in
    let k = filter_keeps (λ (w : ℕ × Change). has (holders catalogue w.0) q) (last_changes e) r.0 r.1 (has_test (holders catalogue r.0.0) q (subst (λ (n : ℕ). Has (holders catalogue n) q) (sym r.2) holder)) in
    subst (Has (keys (writes_held catalogue q (last_changes e)))) r.2 (mapped_has (λ (p : ℕ × Change). p.0) _ r.0 k)

pub not_below_itself : (a b : ViewId) → Precedes a b → a ≡ b → ⊥
not_below_itself a b p e = grind arith

module _ (catalogue : Catalogue) (w new : Scene) (s : ℕ) (x : SiteState) (given : Input) (o : Stepped) (up : plain_at w s ≡ Some x) (views : InvViews catalogue w) (views_now : InvViews catalogue new) (led : Led x) (asked : InvLed w) (shares : InvShares catalogue w) (shares_now : InvShares catalogue new) (entered : InvEntered catalogue w) (entered_now : InvEntered catalogue new) (settled : InvSettled catalogue w) (guards : InvGuards catalogue w) (held : InvHeld catalogue w) (held_now : InvHeld catalogue new) (inv : InvListed catalogue w) (steps : Steps catalogue x given o.site.coordinator o.effects.messages o.effects.commits) (p : Shares x given o) (g : Listing catalogue x given o) (st : Acted w new s x o) where
  here : SiteOk w s x
  here = views.site s x up

  -- the transaction of a new entry
  record Entering (e : Commit) : Type 0 where
    was : Live
    live : Has x.live was
    named : was.txn ≡ e.txn
    viewed : was.view ≡ e.view
    done : entry_of was ≡ e
    site : e.txn.site ≡ s

  entering : (e : Commit) → Has o.effects.commits e → Entering e
  entering e h =
      let f = steps.entered e h in
      let named = sym (ap (λ (t : Live). t.txn) f.handled.same) ∙ ap (λ (e : Commit). e.txn) f.is in
      record {
        was = f.handled.was;
        live = f.handled.live;
        named = named;
        viewed = sym (ap (λ (t : Live). t.view) f.handled.same) ∙ ap (λ (e : Commit). e.view) f.is;
        done = sym (ap entry_of f.handled.same) ∙ f.is;
        site = ap (λ (t : TxnId). t.site) (sym named) ∙ (led.names f.handled.was f.handled.live).0 ∙ here.id;
      }

  -- a doubt of its transaction is of its view, with its writes
  doubt_says : (e : Commit) → Has o.effects.commits e → (k : ℕ) (d : Doubt) → Has (kept_at w k).doubts d → d.txn ≡ e.txn → (e.view ≡ d.view) × (writes_held catalogue k (last_changes e) ≡ d.writes)
  doubt_says e h k d there named =
      let q = (shares.doubts k d there).0 in
      let says = shares_now.entry e (st.enters e h) q.0 k d.view q.1 q.2 d.writes (subst (λ (t : TxnId). Has new.sent (letter q.0 k (message.Prepare t d.view q.1 q.2 d.writes))) named (st.moved.sent _ q.3)) in
      (says.0, says.1)

  -- a new entry, and a record that is under refresh here in the same view
  entered_here : (e : Commit) (r : Refreshing) → Has o.effects.commits e → Has x.refresh r → Wrote e r.rec → ⊥
  entered_here e r h listed wrote =
      let f = entering e h in
      let locks = guards.site s x up in
      let lock = (locks.own f.was f.live).wrote r.rec (subst (λ (e : Commit). Wrote e r.rec) (sym f.done) wrote) (inv.listed s x r up listed) in
      let low = locks.lower r listed in
      let d = low.3 lock.lock f.was.txn lock.has lock.on lock.by in
      let says = doubt_says e h s d.0 (subst (λ (k : DurableState). Has k.doubts d.0) here.kept d.1) (d.2 ∙ f.named) in
      let of : IsOf x f.was = led.live f.was f.live in
      let same : of.0 ≡ low.0 = (let a = of.1 in let b = low.1 in cc) in
      not_below_itself d.0.view low.0.id d.3 (sym says.0 ∙ sym f.viewed ∙ sym of.2 ∙ ap (λ (v : View). v.id) same)

  -- or at another site
  entered_there : (e : Commit) (k : ℕ) (y : SiteState) (v : View) (r : Refreshing) → k ≢ s → plain_at w k ≡ Some y → y.held ≡ Some v → Has o.effects.commits e → Has y.refresh r → Wrote e r.rec → e.view ≡ v.id → ⊥
  entered_there e k y v r other at_k holds h listed wrote is =
      let f = entering e h in
      let there = views.site k y at_k in
      let copied = inv.listed k y r at_k listed in
      let holder = copy_held catalogue w k y at_k there.kept held r.rec copied in
      let member = subst (Has v.members) there.id (there.tidy.held v holds).3 in
      let affected : Affected catalogue new e k = record { view = v; agreed = (st.moved.agreed v (there.held v holds), sym is); rec = r.rec; wrote = wrote; holder = holder; member = member } in
      let vote = entered_now.voted e k (st.enters e h) affected (λ z. other (z ∙ f.site)) in
      let writes = wrote_here catalogue e k r.rec holder wrote in
      let doubt = in_doubt e k f other writes vote.0 vote.1 in
      let says = doubt_says e h k doubt.0 doubt.1 doubt.2 in
      let here_too = subst (λ (d : DurableState). Has d.doubts doubt.0) (sym there.kept) doubt.1 in
      let locks = guards.site k y at_k in
      let lock = locks.doubted doubt.0 r.rec here_too (subst (λ (ws : List (ℕ × Change)). Has (keys ws) r.rec) says.1 writes) in
      let low = locks.lower r listed in
      let d = low.3 lock.lock doubt.0.txn lock.has lock.on lock.by in
      let lower_says = doubt_says e h k d.0 (subst (λ (k : DurableState). Has k.doubts d.0) there.kept d.1) (d.2 ∙ doubt.2) in
      let same : v ≡ low.0 = (let b = low.1 in cc) in
      not_below_itself d.0.view low.0.id d.3 (sym lower_says.0 ∙ is ∙ ap (λ (v : View). v.id) same)
    where
      in_doubt : (e : Commit) (k : ℕ) (f : Entering e) → k ≢ s → Has (keys (writes_held catalogue k (last_changes e))) r.rec → (to : ℕ) → Has new.sent (letter k to (message.Vote e.txn)) → InDoubt w k e.txn
      in_doubt e k f other writes to sent = ⊎_elim
          (λ old. shares.says (letter k to (message.Vote e.txn)) old x f.was (rw f.site up) f.live f.named (subst (λ (e : Commit). is_empty (writes_held catalogue k (last_changes e)) ≡ false) (sym f.done) some))
          (λ more. absurd (other (p.from (letter k to (message.Vote e.txn)) more ∙ here.id)))
          (st.sent (letter k to (message.Vote e.txn)) sent)
        where
          some : is_empty (writes_held catalogue k (last_changes e)) ≡ false
          some = let r = map_has (λ (p : ℕ × Change). p.0) _ _ writes in some_not_empty _ r.0 r.1

  -- an old entry of a view that is joined now
  joined_awaited : (e : Commit) (v : View) (rec : ℕ) → Has w.journal e → Affected catalogue w e s → Wrote e rec → x.waiting ≡ Some v.id → e.view ≡ v.id → ⊥
  joined_awaited e v rec h a wrote awaits is = ⊎_elim
      (λ (own : s ≡ e.txn.site). entered.no_entry s x v.id e up awaits h (sym own) is)
      (λ (other : s ≢ e.txn.site). ⊎_elim left ended (settled.ended e s h a other none))
      (same_site s e.txn.site)
    where
      none : InDoubt w s e.txn → ⊥
      none (d, there, named) =
          let q = (shares.doubts s d there).0 in
          let says = shares.entry e h q.0 s d.view q.1 q.2 d.writes (subst (λ (t : TxnId). Has w.sent (letter q.0 s (message.Prepare t d.view q.1 q.2 d.writes))) named q.3) in
          entered.no_doubt s x v.id d up awaits (subst (λ (k : DurableState). Has k.doubts d) (sym here.kept) there) (sym says.0 ∙ is)

      left : HasLeft w s e.view → ⊥
      left l = l.unused x up (Uses.awaited (awaits ∙ ap (λ (i : ViewId). Some i) (sym is)))

      ended : HasEnded w s e.txn → ⊥
      ended (y, at_s, has_ended) =
          let same : x ≡ y = (let b = at_s in cc) in
          let nothing = (led.idle (here.tidy.waiting v.id awaits).1).0 in
          let z : has_txn x.ended e.txn ≡ true = subst (λ (y : SiteState). has_txn y.ended e.txn ≡ true) (sym same) has_ended in
          (let n : has_txn x.ended e.txn ≡ false = rw nothing refl in cc)

  joined_old : (e : Commit) (v : View) (rec : ℕ) → Has w.journal e → o.site.held ≡ Some v → Has (keys x.copies) rec → Wrote e rec → e.view ≡ v.id → (x.waiting ≡ Some v.id) ⊎ (x.inviting ≡ Some (v.id, v.members)) → ⊥
  joined_old e v rec h holds listed wrote is origin =
      let now = views_now.site s o.site st.now in
      let q = asked.entry e h in
      let same : q.0 ≡ v = views_now.unique q.0 v (st.moved.agreed q.0 q.1) (now.held v holds) (q.2 ∙ is) in
      let copied = subst (λ (ks : List ℕ). Has ks rec) (sym g.copied) listed in
      let holder = copy_held catalogue new s o.site st.now now.kept held_now rec copied in
      let member = subst (Has v.members) now.id (now.tidy.held v holds).3 in
      ⊎_elim
      (λ awaits. joined_awaited e v rec h (record { view = v; agreed = (subst (Has w.agreed) same q.1, sym is); rec = rec; wrote = wrote; holder = holder; member = member }) wrote awaits is)
      (λ invites. here.unfixed (v.id, v.members) q.0 invites q.1 (sym (q.2 ∙ is)))
      origin

  since : (rec : ℕ) (v : View) (e : Commit) → Has w.journal e → o.site.held ≡ Some v → Has (keys x.copies) rec → Wrote e rec → e.view ≡ v.id → ListedNow x o rec → ⊥
  since rec v e h holds listed wrote is (ListedNow.still q there same same_view) = inv.unwritten s x v q e up (sym same_view ∙ holds) there h (subst (Wrote e) (sym same) wrote) is
  since rec v e h holds listed wrote is (ListedNow.joined u now origin) =
      let same : u ≡ v = (let b = now in cc) in
      joined_old e v rec h holds listed wrote is (subst (λ (v : View). (x.waiting ≡ Some v.id) ⊎ (x.inviting ≡ Some (v.id, v.members))) same origin)

  of_new : (rec : ℕ) (e : Commit) → Has o.effects.commits e → Wrote e rec → ListedNow x o rec → ⊥
  of_new rec e h wrote (ListedNow.still q there same same_view) = entered_here e q h there (subst (Wrote e) (sym same) wrote)
  of_new rec e h wrote (ListedNow.joined u now origin) =
      let f = entering e h in
      let of : IsOf x f.was = led.live f.was f.live in
      let none : x.held ≡ None = ⊎_elim (λ a. (here.tidy.waiting u.id a).1) (λ a. (here.tidy.inviting (u.id, u.members) a).1) origin in
      let z = of.1 in cc

  -- no entry of the held view wrote a record that was under refresh in this step
  pub unwritten_since : (rec : ℕ) (v : View) (e : Commit) → Has new.journal e → o.site.held ≡ Some v → Has (keys x.copies) rec → ListedNow x o rec → Wrote e rec → e.view ≡ v.id → ⊥
  unwritten_since rec v e there holds copied listed wrote is = ⊎_elim
      (λ old. since rec v e old holds copied wrote is listed)
      (λ more. of_new rec e more wrote listed)
      (st.entered e there)

  pub listed_keep : InvListed catalogue new
  listed_keep = record {
    listed = λ k y r at_k h. listed_now k y r h at_k (now_is w new s x o st k y at_k);
    unwritten = λ k y v r e at_k holds h there wrote is. ⊎_elim
        (λ old. old_entry k y v r e holds h old wrote is (now_is w new s x o st k y at_k))
        (λ more. new_entry k y v r e holds h more wrote is (now_is w new s x o st k y at_k))
        (st.entered e there);
  }
    where
      listed_now : (k : ℕ) (y : SiteState) (r : Refreshing) → Has y.refresh r → plain_at new k ≡ Some y → NowIs w s o.site k y → Has (keys y.copies) r.rec
      listed_now k y r h at_k (NowIs.other n old) = inv.listed k y r old h
      listed_now k y r h at_k (NowIs.here e same) =
          let l = g.listed r (subst (λ (y : SiteState). Has y.refresh r) (sym same) h) in
          subst (λ (y : SiteState). Has (keys y.copies) r.rec) same (subst (λ (ks : List ℕ). Has ks r.rec) (sym g.copied) l)

      old_entry : (k : ℕ) (y : SiteState) (v : View) (r : Refreshing) (e : Commit) → y.held ≡ Some v → Has y.refresh r → Has w.journal e → Wrote e r.rec → e.view ≡ v.id → NowIs w s o.site k y → ⊥
      old_entry k y v r e holds h there wrote is (NowIs.other n old) = inv.unwritten k y v r e old holds h there wrote is
      old_entry k y v r e holds h there wrote is (NowIs.here z same) =
          let listed = subst (λ (y : SiteState). Has y.refresh r) (sym same) h in
          since r.rec v e there (ap (λ (y : SiteState). y.held) same ∙ holds) (g.listed r listed) wrote is (g.since r listed)

      new_entry : (k : ℕ) (y : SiteState) (v : View) (r : Refreshing) (e : Commit) → y.held ≡ Some v → Has y.refresh r → Has o.effects.commits e → Wrote e r.rec → e.view ≡ v.id → NowIs w s o.site k y → ⊥
      new_entry k y v r e holds h there wrote is (NowIs.other n old) = entered_there e k y v r n old holds there h wrote is
      new_entry k y v r e holds h there wrote is (NowIs.here z same) = of_new r.rec e there wrote (g.since r (subst (λ (y : SiteState). Has y.refresh r) (sym same) h))

pub listed_starts : (catalogue : Catalogue) → InvListed catalogue (scene_of (start_world catalogue))
listed_starts catalogue = record {
  listed = λ s x r up h. absurd (no_refresh catalogue s (empty_durable (start_copies catalogue s)) r (subst (λ (x : SiteState). Has x.refresh r) (sym (started catalogue s x up)) h));
  unwritten = λ s x v r e up held h there wrote is. start_entered catalogue e there;
}

pub listed_quiet : (catalogue : Catalogue) (w new : Scene) (s : ℕ) → Quiet catalogue w new s → InvListed catalogue w → InvListed catalogue new
listed_quiet catalogue w new s q inv = record {
  listed = λ k y r up h. inv.listed k y r (refresh_still catalogue w s k y r h (quiet_is catalogue w new s q k y up)) h;
  unwritten = λ k y v r e up held h there wrote is. inv.unwritten k y v r e (refresh_still catalogue w s k y r h (quiet_is catalogue w new s q k y up)) held h (rw q.journal at there) wrote is;
}
