-- A holder that an entry affects stays in doubt, and the decision waits for it, until it has applied the entry or left the view.
use Rattle.std.proofs.Common.{◌≡◌, ◌≢◌, ◌⊎◌, ◌∙◌, ap, sym, subst, ℕ, Bool, true, false, List, refl, inl, inr, ⊎_elim}
use Rattle.std.specs.Prelude.{Option, Some, None, option_map}
use Rattle.vp_laws.proofs.Journal.ValuesAfter.{Wrote}
use Rattle.vp_model.specs.Types.{Change, ViewId, TxnId, View, Sent, Commit, Input, Part, Live, Doubt, Decision}
use Rattle.vp_model.specs.Types.message
use Rattle.vp_model.specs.Words.{same_txn, has_txn, is_empty, is_view, has}
use Rattle.vp_model.specs.Catalogue.{Catalogue, holders}
use Rattle.vp_model.specs.Durable.{DurableState}
use Rattle.vp_model.specs.Site.{SiteState, Stepped}
use Rattle.vp_model.specs.Transactions.{last_changes, entry_of, writes_held}
use Rattle.vp_model.specs.Views.{has_doubt}
use Rattle.vp_model.specs.Refresh.{other_holders_in}
use Rattle.vp_model.specs.Messages.{holds_view}
use Rattle.vp_model.specs.Step.{durable_of}
use Rattle.vp_laws.proofs.Lists.Members.{Has, has_from_test, filter_has, filter_keeps, map_has, any_true, any_false, has_test}
use Rattle.vp_laws.proofs.Lists.Changes.{mapped_has, some_first, some_not_empty}
use Rattle.vp_model.proofs.SameTxn.{same_txn-is, same_txn-not}
use Rattle.vp_laws.proofs.Lists.Views.{AtMost, Precedes, not_both, same_is, same_site}
use Rattle.vp_laws.proofs.Moves.LocalViews.{letter}
use Rattle.vp_laws.proofs.Moves.Table.{Handled}
use Rattle.vp_laws.proofs.Worlds.Scenes.{Scene, kept_in, up_in, plain_at, kept_at, promise_at, Acted, scene_of}
use Rattle.vp_laws.proofs.Table.Led.{IsOf, Led}
use Rattle.vp_laws.proofs.Table.Endings.{MayAbort, Endings}
use Rattle.vp_laws.proofs.Table.Steps.{EnteredFor, Steps}
use Rattle.vp_laws.proofs.Table.Shares.{is_reply, Prepared, DoubtNow, OutcomeComes, ReplyTo, Shares}
use Rattle.vp_laws.proofs.Table.Waits.{IsWaited, Waits}
use Rattle.vp_laws.proofs.Table.Leaves.{Uses, Leaves}
use Rattle.vp_laws.proofs.Invariant.Views.{InvViews}
use Rattle.vp_laws.proofs.Invariant.Led.{InvLed}
use Rattle.vp_laws.proofs.Invariant.Below.{InvBelow}
use Rattle.vp_laws.proofs.Invariant.Endings.{InvEndings}
use Rattle.vp_laws.proofs.Invariant.Shares.{InDoubt, InvShares}
use Rattle.vp_laws.proofs.Invariant.Ops.{LiveOk}
use Rattle.vp_laws.proofs.Invariant.Entered.{AgreedAs, Affected, InvEntered}
use Rattle.vp_laws.proofs.Invariant.Lived.{InvLived}
use Rattle.vp_laws.proofs.Invariant.HasLeft.{HasLeft}
use Rattle.vp_laws.proofs.Worlds.Events.{Arrives, came_in}
use Rattle.vp_laws.proofs.Worlds.Sites.{KeptIs, kept_is, Quiet, quiet_kept, start_sent, start_entered}
use Rattle.vp_laws.proofs.Invariant.Settled.{InvSettled, HasEnded}
use Rattle.vp_laws.proofs.Keeping.Entered.{other_holder}
use Rattle.vp_laws.proofs.Keeping.Views.{above}
use Rattle.vp_laws.proofs.Keeping.Leaving.{left_lasts, left_here, left_quiet, left_by_quiet}
use Rattle.vp_model.specs.World.{start_world}

-- a doubt on the transaction is there or not
in_doubt : (w : Scene) (s : ℕ) (txn : TxnId) → InDoubt w s txn ⊎ (InDoubt w s txn → ⊥)
in_doubt w s txn = go (has_doubt txn (kept_at w s).doubts) refl
  where
    go : (b : Bool) → has_doubt txn (kept_at w s).doubts ≡ b → InDoubt w s txn ⊎ (InDoubt w s txn → ⊥)
    go true e = let q = any_true (λ (d : Doubt). same_txn d.txn txn) (kept_at w s).doubts e in inl (q.0, q.1, same_txn-is q.0.txn txn q.2)
    go false e = inr (λ d. same_txn-not d.0.txn txn (any_false (λ (d : Doubt). same_txn d.txn txn) (kept_at w s).doubts e d.0 d.1) d.2)

pub holding : (x : SiteState) (view : ViewId) → holds_view x view ≡ true → (v : View) × (x.held ≡ Some v) × (v.id ≡ view)
holding x view e = go x.held refl e
  where
    go : (held : Option View) → x.held ≡ held → is_view (option_map (λ (v : View). v.id) held) view ≡ true → (v : View) × (x.held ≡ Some v) × (v.id ≡ view)
    go None f t = cc
    go (Some v) f t = (v, f, same_is v.id view t)

-- who is affected
module _ (catalogue : Catalogue) (w : Scene) (asked : InvLed w) (shares : InvShares catalogue w) where
  -- the receiver of a prepare with writes
  pub prepared_affected : (e : Commit) (from k : ℕ) (txn : TxnId) (view : ViewId) (number : ℕ) (reads : List ℕ) (writes : List (ℕ × Change)) → Has w.journal e → txn ≡ e.txn → is_empty writes ≡ false → Has w.sent (letter from k (message.Prepare txn view number reads writes)) → Affected catalogue w e k × (e.view ≡ view) × (k ≢ e.txn.site)
  prepared_affected e from k txn view number reads writes there named some sent =
      let q = shares.entry e there from k view number reads writes (rw (← named) sent) in
      let b = asked.asked _ sent in
      let p = some_first (writes_held catalogue k (last_changes e)) (rw q.1 some) in
      let f = filter_has (λ (w : ℕ × Change). has (holders catalogue w.0) k) (last_changes e) p.0 p.1 in (
        record {
          view = b.0;
          agreed = (b.1, b.2 ∙ sym q.0);
          rec = p.0.0;
          wrote = mapped_has (λ (p : ℕ × Change). p.0) (last_changes e) p.0 f.0;
          holder = has_from_test (holders catalogue p.0.0) k f.1;
          member = b.3;
        },
        q.0,
        (λ z. b.5 (z ∙ ap (λ (t : TxnId). t.site) (sym named))),
      )

  pub doubt_affected : (e : Commit) (k : ℕ) (d : Doubt) → Has w.journal e → Has (kept_at w k).doubts d → d.txn ≡ e.txn → Affected catalogue w e k × (e.view ≡ d.view) × (k ≢ e.txn.site)
  doubt_affected e k d there h named =
      let q = shares.doubts k d h in
      prepared_affected e q.0.0 k d.txn d.view q.0.1 q.0.2 d.writes there named q.1 q.0.3

module _ (catalogue : Catalogue) (w new : Scene) (s : ℕ) (x : SiteState) (given : Input) (o : Stepped) (up : plain_at w s ≡ Some x) (arrives : Arrives w s given) (id : x.id ≡ s) (kept : durable_of x ≡ kept_at w s) (views : InvViews catalogue w) (views_now : InvViews catalogue new) (led : Led x) (asked : InvLed w) (ends : InvEndings w) (shares : InvShares catalogue w) (ops : (u : Live) → Has x.live u → LiveOk catalogue x.id x.held u) (entered : InvEntered catalogue w) (entered_now : InvEntered catalogue new) (below_now : InvBelow new) (inv : InvSettled catalogue w) (c : Waits catalogue x given o.site.coordinator o.effects.messages o.effects.commits) (ec : Endings x given o.site.coordinator o.effects.messages o.effects.commits) (steps : Steps catalogue x given o.site.coordinator o.effects.messages o.effects.commits) (p : Shares x given o) (v : Leaves x given o) (st : Acted w new s x o) where
  promise : x.promise ≡ promise_at w s
  promise = ap (λ (d : DurableState). d.promise) kept

  doubts_kept : x.doubts ≡ (kept_at w s).doubts
  doubts_kept = ap (λ (d : DurableState). d.doubts) kept

  -- an entry's view was agreed before the step, where the entry was there
  view_was : (e : Commit) (v : View) → Has w.journal e → AgreedAs new e.view v → AgreedAs w e.view v
  view_was e v h a =
      let q = asked.entry e h in
      let same : q.0 ≡ v = views_now.unique q.0 v (st.moved.agreed q.0 q.1) a.0 (q.2 ∙ sym a.1) in
      (subst (Has w.agreed) same q.1, a.1)

  affected_was : (e : Commit) (k : ℕ) → Has w.journal e → Affected catalogue new e k → Affected catalogue w e k
  affected_was e k h a = record { view = a.view; agreed = view_was e a.view h a.agreed; rec = a.rec; wrote = a.wrote; holder = a.holder; member = a.member }

  promised : (e : Commit) (k : ℕ) → Affected catalogue w e k → AtMost e.view (promise_at w k)
  promised e k a = subst (λ (i : ViewId). AtMost i (promise_at w k)) a.agreed.1 ((views.view a.view a.agreed.0).members k a.member)

  -- no prepare makes a doubt about a transaction with an entry
  no_new : (e : Commit) → Has w.journal e → (from : ℕ) (part : Part) (reads : List ℕ) (writes : List (ℕ × Change)) → Prepared x given from part reads writes → is_empty writes ≡ false → part.txn ≡ e.txn → ⊥
  no_new e there from part reads writes q some named =
      let a = prepared_affected catalogue w asked shares e from s part.txn q.view q.number reads writes there named some (came_in w s given arrives from _ q.comes) in
      let h = holding x q.view q.held in
      ⊎_elim
      (λ (l : HasLeft w s e.view). l.unused x up (Uses.held h.0 h.1 (h.2 ∙ sym a.1)))
      (λ (l : HasEnded w s e.txn).
      let same : l.0 ≡ x = (let z = l.1 in cc) in
      let has : has_txn x.ended part.txn ≡ true = rw (← same, named) l.2 in
      let not = q.going in cc)
      (inv.ended e s there a.0 a.2 (λ d. same_txn-not d.0.txn part.txn (any_false (λ (d : Doubt). same_txn d.txn part.txn) x.doubts q.certain d.0 (rw doubts_kept d.1)) (d.2 ∙ sym named)))

  -- so each doubt about one was there
  pub doubt_was : (e : Commit) (k : ℕ) → Has w.journal e → InDoubt new k e.txn → InDoubt w k e.txn
  doubt_was e k there (d, h, named) = go (kept_is w new s x o st k)
    where
      here : k ≡ s → DoubtNow x given d → InDoubt w k e.txn
      here z (DoubtNow.still old) = (d, rw (z, ← doubts_kept) old, named)
      here z (DoubtNow.fresh from part reads writes q some is) = absurd (no_new e there from part reads writes q some (ap (λ (d : Doubt). d.txn) is ∙ named))

      go : KeptIs w new s (durable_of o.site) k → InDoubt w k e.txn
      go (KeptIs.other n same) = (d, subst (λ (k : DurableState). Has k.doubts d) same h, named)
      go (KeptIs.here z same) = here z (p.doubts d (subst (λ (k : DurableState). Has k.doubts d) same h))

  -- a new entry is of a transaction of this site
  entered_txn : (e : Commit) (f : EnteredFor catalogue x given e) → f.handled.was.txn ≡ e.txn
  entered_txn e f = sym (ap (λ (t : Live). t.txn) f.handled.same) ∙ ap (λ (e : Commit). e.txn) f.is

  entered_site : (e : Commit) → EnteredFor catalogue x given e → e.txn.site ≡ s
  entered_site e f = ap (λ (t : TxnId). t.site) (sym (entered_txn e f)) ∙ (led.names f.handled.was f.handled.live).0 ∙ id

  entered_ops : (e : Commit) (f : EnteredFor catalogue x given e) → f.handled.was.ops ≡ e.ops
  entered_ops e f = sym (ap (λ (t : Live). t.ops) f.handled.same) ∙ ap (λ (e : Commit). e.ops) f.is

  -- an affected holder has writes of the entry
  affected_writes : (e : Commit) (k : ℕ) → Affected catalogue new e k → is_empty (writes_held catalogue k (last_changes e)) ≡ false
  affected_writes e k a =
      let r = map_has (λ (p : ℕ × Change). p.0) (last_changes e) a.rec a.wrote in
      some_not_empty _ r.0 (filter_keeps (λ (w : ℕ × Change). has (holders catalogue w.0) k) (last_changes e) r.0 r.1 (has_test (holders catalogue r.0.0) k (subst (λ (n : ℕ). Has (holders catalogue n) k) (sym r.2) a.holder)))

  -- and is a part, if it is another site
  affected_part : (e : Commit) (k : ℕ) (t : Live) → Handled x t → t.txn ≡ e.txn → t.view ≡ e.view → entry_of t ≡ e → Affected catalogue new e k → k ≢ e.txn.site → Has t.parts k
  affected_part e k t n named viewed done a other =
      let u = n.was in
      let of : IsOf x u = led.live u n.live in
      let held_same : of.0 ≡ a.view = views_now.unique of.0 a.view (st.moved.agreed of.0 ((views.site s x up).held of.0 of.1)) a.agreed.0 (of.2 ∙ sym (ap (λ (t : Live). t.view) n.same) ∙ viewed ∙ sym a.agreed.1) in
      let held : x.held ≡ Some a.view = of.1 ∙ ap (λ (v : View). Some v) held_same in
      let site : x.id ≡ e.txn.site = sym (led.names u n.live).0 ∙ ap (λ (t : TxnId). t.site) (sym (ap (λ (t : Live). t.txn) n.same) ∙ named) in
      let holder = other_holder catalogue x.id a.rec k a.view a.holder a.member (λ g. other (g ∙ site)) in
      let whole : entry_of u ≡ e = sym (ap entry_of n.same) ∙ done in
      rw (ap (λ (t : Live). t.parts) n.same) ((ops u n.live).written a.rec (subst (λ (e : Commit). Wrote e a.rec) (sym whole) a.wrote) k (subst (λ (held : Option View). Has (other_holders_in catalogue x.id held a.rec) k) (sym held) holder))

  not_own : (k : ℕ) (txn : TxnId) → InDoubt new k txn → k ≢ txn.site
  not_own k txn d e = ((below_now.kept k).doubts d.0 d.1).1 (ap (λ (t : TxnId). t.site) d.2 ∙ sym e)

  -- decisions
  waited_lasts : (e : Commit) (k : ℕ) → IsWaited (kept_at w e.txn.site).decisions e.txn k → InDoubt w k e.txn → IsWaited (kept_at new e.txn.site).decisions e.txn k
  waited_lasts e k h d = go (kept_is w new s x o st e.txn.site)
    where
      go : KeptIs w new s (durable_of o.site) e.txn.site → IsWaited (kept_at new e.txn.site).decisions e.txn k
      go (KeptIs.other n same) = rw same h
      go (KeptIs.here z same) = rw same (⊎_elim (λ now. now) (λ ack. absurd (inv.acknowledged k s e.txn (came_in w s given arrives k (message.Ack e.txn) ack) d))
          (c.kept e.txn k (subst (λ (d : DurableState). IsWaited d.decisions e.txn k) (ap (kept_at w) z ∙ sym kept) h)))

  waited_new : (e : Commit) (k : ℕ) → Has o.effects.commits e → Affected catalogue new e k → InDoubt new k e.txn → IsWaited (kept_at new e.txn.site).decisions e.txn k
  waited_new e k h a d =
      let q = c.entered e h in
      let t = q.0 in
      let named : t.txn ≡ e.txn = ap (λ (e : Commit). e.txn) q.2 in
      let done : entry_of t ≡ e = q.2 in
      let part = affected_part e k t q.1 named (ap (λ (e : Commit). e.view) q.2) done a (not_own k e.txn d) in
      let some : is_empty (writes_held catalogue k (last_changes (entry_of t))) ≡ false = subst (λ (e : Commit). is_empty (writes_held catalogue k (last_changes e)) ≡ false) (sym done) (affected_writes e k a) in
      let r = map_has (λ (p : ℕ × Change). p.0) (last_changes e) a.rec a.wrote in
      let writes : is_empty (last_changes (entry_of t)) ≡ false = subst (λ (e : Commit). is_empty (last_changes e) ≡ false) (sym done) (some_not_empty (last_changes e) r.0 r.1) in
      let waits : IsWaited o.site.decisions t.txn k = q.3 k writes (filter_keeps _ t.parts k part (rw some refl)) in
      let here : kept_at new e.txn.site ≡ durable_of o.site = ap (kept_at new) (entered_site e (steps.entered e h)) ∙ st.kept_now in
      rw (here, ← named) waits

  -- the ended list
  ended_lasts : (e : Commit) (k : ℕ) → Affected catalogue w e k → HasLeft w k e.view ⊎ HasEnded w k e.txn → HasLeft new k e.view ⊎ HasEnded new k e.txn
  ended_lasts e k a (inl l) = inl (left_lasts catalogue w new s x given o up promise v st k e.view l)
  ended_lasts e k a (inr (y, g, h)) = ⊎_elim
      (λ (z : k ≡ s).
      let same : y ≡ x = (let q = rw z at g in cc) in
      ⊎_elim (λ now. inr (o.site, rw z st.now, now))
      (λ (left : (i : ViewId) → Uses o.site i → Precedes x.promise i). inl (gone z (λ u. not_both x.promise e.view (left e.view u) (subst (AtMost e.view) (ap (promise_at w) z ∙ sym promise) (promised e k a)))))
      (v.ended e.txn (rw (← same) h)))
      (λ (n : k ≢ s). inr (y, ap up_in (st.moved.others k n) ∙ g, h))
      (same_site k s)
    where
      gone : k ≡ s → (Uses o.site e.view → ⊥) → HasLeft new k e.view
      gone z none = rw z (left_here w new s x o st e.view (subst (λ (k : ℕ). AtMost e.view (promise_at new k)) z (above catalogue w new s st.moved e.view k (promised e k a))) none)

  -- the doubt has ended in this step
  ended_here : (e : Commit) (d : Doubt) → Has w.journal e → Has x.doubts d → d.txn ≡ e.txn → (Has o.site.doubts d → ⊥) → HasLeft new s e.view ⊎ HasEnded new s e.txn
  ended_here e d there h named none =
      let a = doubt_affected catalogue w asked shares e s d there (rw (← doubts_kept) h) named in
      ⊎_elim (λ still. absurd (none still))
      (λ (comes : OutcomeComes given d.txn). ⊎_elim (λ still. absurd (none still))
      (λ rest. ⊎_elim
      (λ now. inr (o.site, st.now, rw (← named) now))
      (λ (no_view : x.held ≡ None). inl (left_here w new s x o st e.view (above catalogue w new s st.moved e.view s (promised e s a.0))
      (λ u. ⊎_elim (λ was. unused a.0 a.1 no_view was)
      (λ (more : Precedes x.promise e.view). not_both x.promise e.view more (subst (AtMost e.view) (sym promise) (promised e s a.0)))
      (v.uses e.view u))))
      rest)
      (v.outcome d h comes))
      (p.stays d h)
    where
      unused : Affected catalogue w e s → e.view ≡ d.view → x.held ≡ None → Uses x e.view → ⊥
      unused a viewed no_view (Uses.held u f same) = cc
      unused a viewed no_view (Uses.awaited f) = entered.no_doubt s x e.view d up f h (sym viewed)
      unused a viewed no_view (Uses.invited b f same) = (views.site s x up).unfixed b a.view f a.agreed.0 (same ∙ sym a.agreed.1)

  ended_old : (e : Commit) (k : ℕ) → Has w.journal e → Affected catalogue w e k → k ≢ e.txn.site → (InDoubt new k e.txn → ⊥) → HasLeft new k e.view ⊎ HasEnded new k e.txn
  ended_old e k there a n none = ⊎_elim
      (λ (d : InDoubt w k e.txn). go d (kept_is w new s x o st k))
      (λ not. ended_lasts e k a (inv.ended e k there a n not))
      (in_doubt w k e.txn)
    where
      go : InDoubt w k e.txn → KeptIs w new s (durable_of o.site) k → HasLeft new k e.view ⊎ HasEnded new k e.txn
      go (d, h, named) (KeptIs.other m same) = absurd (none (d, subst (λ (k : DurableState). Has k.doubts d) (sym same) h, named))
      go (d, h, named) (KeptIs.here z same) = rw z (ended_here e d there (rw doubts_kept (rw z at h)) named (λ still. none (d, subst (λ (k : DurableState). Has k.doubts d) (sym same) still, named)))

  -- each other holder that a new entry affects is in doubt
  doubt_new : (e : Commit) (k : ℕ) → Has o.effects.commits e → Affected catalogue new e k → k ≢ e.txn.site → InDoubt new k e.txn
  doubt_new e k h a n =
      let f = steps.entered e h in
      let site = entered_site e f in
      let vote = entered_now.voted e k (st.enters e h) a n in
      ⊎_elim
      (λ old. later site (shares.says (letter k vote.0 (message.Vote e.txn)) old x f.handled.was (rw site up) f.handled.live (entered_txn e f) (subst (λ (e : Commit). is_empty (writes_held catalogue k (last_changes e)) ≡ false) (sym (sym (ap entry_of f.handled.same) ∙ f.is)) (affected_writes e k a))))
      (λ more. absurd (n (p.from (letter k vote.0 (message.Vote e.txn)) more ∙ id ∙ sym site)))
      (st.sent (letter k vote.0 (message.Vote e.txn)) vote.1)
    where
      later : e.txn.site ≡ s → InDoubt w k e.txn → InDoubt new k e.txn
      later site (d, g, named) = (d, subst (λ (k : DurableState). Has k.doubts d) (sym (ap kept_in (st.moved.others k (λ z. n (z ∙ sym site))))) g, named)

  -- acknowledgements
  acked_new : (m : Sent) (txn : TxnId) → ReplyTo x given o.site.participant m → message.Ack txn ≡ m.message → (d : Doubt) → Has o.site.doubts d → d.txn ≢ txn
  acked_new m txn (ReplyTo.other quiet) e d h = absurd (let z = ap is_reply e in cc)
  acked_new m txn (ReplyTo.doubt_again a b was now f) e d h = absurd (let z = f ∙ sym e in cc)
  acked_new m txn (ReplyTo.vote_again part a was now q f) e d h = absurd (let z = f ∙ sym e in cc)
  acked_new m txn (ReplyTo.vote_reading part reads writes a none now f) e d h = absurd (let z = f ∙ sym e in cc)
  acked_new m txn (ReplyTo.vote_writing part reads writes a some now f) e d h = absurd (let z = f ∙ sym e in cc)
  acked_new m txn (ReplyTo.acks t a none f) e d h = let z = f ∙ sym e in let same : t ≡ txn = cc in (λ g. none d h (g ∙ sym same))
  acked_new m txn (ReplyTo.read_answer t number rec stored a f) e d h = absurd (let z = f ∙ sym e in cc)
  acked_new m txn (ReplyTo.write_answer t number rec stored a f) e d h = absurd (let z = f ∙ sym e in cc)
  acked_new m txn (ReplyTo.refresh_answer view rec stored a held certain value f) e d h = absurd (let z = f ∙ sym e in cc)

  acknowledged_now : (k to : ℕ) (txn : TxnId) → Has new.sent (letter k to (message.Ack txn)) → InDoubt new k txn → ⊥
  acknowledged_now k to txn h d = ⊎_elim
      (λ old. let q = shares.says (letter k to (message.Ack txn)) old in inv.acknowledged k to txn old (subst (InDoubt w k) q.2 (doubt_was q.0 k q.1 (subst (InDoubt new k) (sym q.2) d))))
      (λ more.
      let here : k ≡ s = p.from (letter k to (message.Ack txn)) more ∙ id in
      acked_new (letter k to (message.Ack txn)) txn (p.replies (letter k to (message.Ack txn)) more) refl d.0 (subst (λ (k : DurableState). Has k.doubts d.0) (ap (kept_at new) here ∙ st.kept_now) d.1) d.2)
      (st.sent (letter k to (message.Ack txn)) h)

  -- aborts
  aborted_now : (e : Commit) (from k : ℕ) → Has new.journal e → Has new.sent (letter from k (message.Outcome e.txn false)) → InDoubt new k e.txn → ⊥
  aborted_now e from k h sent d = ⊎_elim
      (λ old. ⊎_elim
      (λ told. inv.aborted e from k old told (doubt_was e k old d))
      (λ more. let q = ec.says (letter from k (message.Outcome e.txn false)) more in told_new old q.0 q.2 (doubt_was e k old d))
      (st.sent (letter from k (message.Outcome e.txn false)) sent))
      (λ now. ⊎_elim
      (λ told. let f = steps.entered e now in ends.told (letter from k (message.Outcome e.txn false)) told x (rw (entered_site e f) up) f.handled.was f.handled.live (entered_txn e f))
      (λ more. let q = ec.says (letter from k (message.Outcome e.txn false)) more in q.3 e now refl)
      (st.sent (letter from k (message.Outcome e.txn false)) sent))
      (st.entered e h)
    where
      told_new : Has w.journal e → e.txn.site ≡ x.id → MayAbort x given k e.txn → InDoubt w k e.txn → ⊥
      told_new old site may was = ⊎_elim
          (λ live. ends.entry e old x (rw (site ∙ id) up) live.0 live.1 live.2)
          (λ inquired.
          let a = doubt_affected catalogue w asked shares e k was.0 old was.1 was.2 in
          let q = inv.waited e k old a.0 was in
          let there : Has x.decisions q.0 = subst (λ (d : DurableState). Has d.decisions q.0) (ap (kept_at w) (site ∙ id) ∙ sym kept) q.1 in
          same_txn-not q.0.txn e.txn (any_false (λ (d : Decision). same_txn d.txn e.txn) x.decisions inquired.1 q.0 there) q.2)
          may

  pub settled_keep : InvSettled catalogue new
  settled_keep = record {
    waited = λ e k h a d. ⊎_elim (λ old. waited_lasts e k (inv.waited e k old (affected_was e k old a) (doubt_was e k old d)) (doubt_was e k old d)) (λ more. waited_new e k more a d) (st.entered e h);
    ended = λ e k h a n none. ⊎_elim (λ old. ended_old e k old (affected_was e k old a) n none) (λ more. absurd (none (doubt_new e k more a n))) (st.entered e h);
    acknowledged = acknowledged_now;
    aborted = aborted_now;
  }

module _ (catalogue : Catalogue) (w new : Scene) (s : ℕ) (q : Quiet catalogue w new s) (lived : InvLived w) (views : InvViews catalogue w) (inv : InvSettled catalogue w) where
  affected_on : (e : Commit) (k : ℕ) → Affected catalogue new e k → Affected catalogue w e k
  affected_on e k a = record { view = a.view; agreed = (rw q.agreed at a.agreed.0, a.agreed.1); rec = a.rec; wrote = a.wrote; holder = a.holder; member = a.member }

  doubts_on : (k : ℕ) → (kept_at new k).doubts ≡ (kept_at w k).doubts
  doubts_on k = quiet_kept catalogue w new s q (λ (d : DurableState). d.doubts) q.doubts k

  doubt_on : (k : ℕ) (txn : TxnId) → InDoubt new k txn → InDoubt w k txn
  doubt_on k txn (d, h, named) = (d, subst (λ (ds : List Doubt). Has ds d) (doubts_on k) h, named)

  ended_on : (e : Commit) (k : ℕ) → Affected catalogue w e k → HasLeft w k e.view ⊎ HasEnded w k e.txn → HasLeft new k e.view ⊎ HasEnded new k e.txn
  ended_on e k a (inl l) = inl (left_quiet catalogue w new s q lived k e.view l)
  ended_on e k a (inr (y, g, h)) = ⊎_elim
      (λ (z : k ≡ s). inl (rw z (left_by_quiet catalogue w new s q lived e.view (subst (λ (k : ℕ). AtMost e.view (promise_at w k)) z (subst (λ (i : ViewId). AtMost i (promise_at w k)) a.agreed.1 ((views.view a.view a.agreed.0).members k a.member))))))
      (λ (n : k ≢ s). inr (y, ap up_in (q.moved.others k n) ∙ g, h))
      (same_site k s)

  pub settled_quiet : InvSettled catalogue new
  settled_quiet = record {
    waited = λ e k h a d. rw (quiet_kept catalogue w new s q (λ (d : DurableState). d.decisions) q.decisions e.txn.site) (inv.waited e k (rw q.journal at h) (affected_on e k a) (doubt_on k e.txn d));
    ended = λ e k h a n none. ended_on e k (affected_on e k a) (inv.ended e k (rw q.journal at h) (affected_on e k a) n (λ d. none (d.0, subst (λ (ds : List Doubt). Has ds d.0) (sym (doubts_on k)) d.1, d.2)));
    acknowledged = λ k to txn h d. inv.acknowledged k to txn (rw q.sent at h) (doubt_on k txn d);
    aborted = λ e from k h sent d. inv.aborted e from k (rw q.journal at h) (rw q.sent at sent) (doubt_on k e.txn d);
  }

pub settled_starts : (catalogue : Catalogue) → InvSettled catalogue (scene_of (start_world catalogue))
settled_starts catalogue = record {
  waited = λ e s h a d. absurd (start_entered catalogue e h);
  ended = λ e s h a n d. absurd (start_entered catalogue e h);
  acknowledged = λ s to txn h d. absurd (start_sent catalogue _ h);
  aborted = λ e from s h sent d. absurd (start_entered catalogue e h);
}
