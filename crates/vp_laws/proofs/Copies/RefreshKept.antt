-- A step keeps the invariant of answers to a refresh and of closed records.
use Rattle.std.proofs.Common.{◌≡◌, ◌≢◌, ◌⊎◌, ◌∙◌, ap, sym, subst, ℕ, Bool, true, false, List, refl, inl, inr, length, ⊎_elim}
use Rattle.std.specs.Prelude.{Option, Some, None, not, ◌||◌, ◌&&◌, ◌==◌}
use Rattle.vp_model.specs.Types.{ViewId, TxnId, View, Sent, Commit, Input, Stored, Pending, Live}
use Rattle.vp_model.specs.Types.message
use Rattle.vp_model.specs.Types.owner
use Rattle.vp_model.specs.Types.op
use Rattle.vp_model.specs.Words.{has, is_empty, value_at}
use Rattle.vp_model.specs.Locks.{conflict}
use Rattle.vp_model.specs.Transactions.{Deed, entry_of, last_changes}
use Rattle.vp_model.specs.Catalogue.{Catalogue, holders}
use Rattle.vp_model.specs.Durable.{DurableState}
use Rattle.vp_model.specs.Refresh.{is_open, is_doubtful, members_in, other_holders}
use Rattle.vp_model.specs.Messages.{holds_view}
use Rattle.vp_model.specs.Site.{SiteState, Lent, Stepped}
use Rattle.vp_laws.proofs.Lists.Members.{Has, has_none, filter_has}
use Rattle.vp_laws.proofs.Lists.Changes.{empty_not}
use Rattle.vp_laws.proofs.Lists.Numbers.{one_above}
use Rattle.vp_laws.proofs.Lists.Views.{AtMost, Precedes, not_both, same_site, three_ways}
use Rattle.vp_laws.proofs.Journal.Order.{Precedes-trans}
use Rattle.vp_laws.proofs.Lists.LockTables.{IsFree, free_from_none}
use Rattle.vp_laws.proofs.Moves.LocalViews.{letter}
use Rattle.vp_laws.proofs.Moves.Calls.{done, reads_same, writes_same}
use Rattle.vp_laws.proofs.Moves.Table.{Comes, Requests, Reads, Changes, May, Locked, Completes, record_of}
use Rattle.vp_laws.proofs.Table.Led.{IsOf}
use Rattle.vp_laws.proofs.Moves.OnlyCoordinator.{is_aside}
use Rattle.vp_laws.proofs.Table.Steps.{LiveNow, SentFor}
use Rattle.vp_laws.proofs.Table.Shares.{is_reply, ReplyTo, Granted}
use Rattle.vp_laws.proofs.Table.CopyAt.{Certain}
use Rattle.vp_laws.proofs.Table.Leaves.{Uses}
use Rattle.vp_laws.proofs.Table.Listed.{IsUnlisted}
use Rattle.vp_laws.proofs.Worlds.Scenes.{Scene, plain_at, kept_at}
use Rattle.vp_laws.proofs.Invariant.Shares.{HasRequest}
use Rattle.vp_laws.proofs.Invariant.Answers.{WritesTo}
use Rattle.vp_laws.proofs.Invariant.Ops.{HasUsed}
use Rattle.vp_laws.proofs.Invariant.Entered.{AgreedAs}
use Rattle.vp_laws.proofs.Invariant.Used.{HasAnswered}
use Rattle.vp_laws.proofs.Keeping.Closing.{closed_at_lasts}
use Rattle.vp_laws.proofs.Journal.ValuesAfter.{content_of, Wrote, value_after}
use Rattle.vp_laws.proofs.Copies.Facts.{copy_holder, closed_above}
use Rattle.vp_laws.proofs.Worlds.Sites.{now_is, NowIs}
use Rattle.vp_laws.proofs.Keeping.NewEntries.{none_entered, journal_same, Entering, entering, doubted, agreed_was, Fresh, doubt_from}
use Rattle.vp_laws.proofs.Copies.Values.{value_now}
use Rattle.vp_laws.proofs.Copies.Brought.{doubt_on}
use Rattle.vp_laws.proofs.Copies.CopiesKept.{from_lasts}
use Rattle.vp_laws.proofs.Copies.Opening.{stops, open_now, entries_open, entries_weighed}
use Rattle.vp_laws.proofs.Copies.Refreshes.{unlisted_none, certain_from, left_below}
use Rattle.vp_laws.proofs.Invariant.LiveUses.{LiveUses, live_uses}
use Rattle.vp_laws.proofs.Journal.Changed.{HasChanged, alters, changed_by, change_there, operation_there, written_changed}
use Rattle.vp_laws.proofs.Keeping.Does.{Does}
use Rattle.vp_laws.proofs.Keeping.Holders.{holder_elsewhere}
use Rattle.vp_laws.proofs.Invariant.Copies.{FromView, InvCopies}
use Rattle.vp_laws.proofs.Invariant.Refresh.{InvRefresh}
use Rattle.vp_laws.proofs.Keeping.Ops.{same_held}
use Rattle.vp_laws.proofs.Keeping.Settled.{holding}
use Rattle.vp_laws.proofs.Keeping.Used.{Was, Split}
use Rattle.vp_laws.proofs.Invariant.Known.{Known}
use Rattle.vp_laws.proofs.Invariant.Closed.{ClosedAt, Open}

module _ (catalogue : Catalogue) (w new : Scene) (s : ℕ) (x : SiteState) (given : Input) (o : Stepped) (k : Known catalogue w) (n : Known catalogue new) (d : Does catalogue w new s x given o) (copies : InvCopies catalogue w) (refresh : InvRefresh catalogue w) where
  -- an answer that is given now: in the held view, from the copy here, where nothing is in doubt on it
  record Replied (p rec : ℕ) (view : ViewId) (stored : Stored) : Type 0 where
    here : p ≡ s
    to : ℕ
    comes : Comes given to (message.RefreshRequest view rec)
    holds : holds_view x view ≡ true
    certain : is_doubtful x rec ≡ false
    copy : value_at rec x.copies ≡ Some stored

  replied : (m : Sent) → ReplyTo x given o.site.participant m → (p rec : ℕ) (view : ViewId) (stored : Stored) → p ≡ s → m.message ≡ message.RefreshAnswer view rec stored → Replied p rec view stored
  replied m (ReplyTo.other quiet) p rec view stored z e = absurd (let z = ap is_reply e in cc)
  replied m (ReplyTo.doubt_again u a b i f) p rec view stored z e = absurd (let z = f ∙ e in cc)
  replied m (ReplyTo.vote_again part a b i g f) p rec view stored z e = absurd (let z = f ∙ e in cc)
  replied m (ReplyTo.vote_reading part reads writes a none i f) p rec view stored z e = absurd (let z = f ∙ e in cc)
  replied m (ReplyTo.vote_writing part reads writes a some i f) p rec view stored z e = absurd (let z = f ∙ e in cc)
  replied m (ReplyTo.acks t a none f) p rec view stored z e = absurd (let z = f ∙ e in cc)
  replied m (ReplyTo.read_answer t i r own a f) p rec view stored z e = absurd (let z = f ∙ e in cc)
  replied m (ReplyTo.write_answer t i r own a f) p rec view stored z e = absurd (let z = f ∙ e in cc)
  replied m (ReplyTo.refresh_answer i r own a held certain copy f) p rec view stored z e =
      let q = f ∙ e in
      let at : i ≡ view = cc in
      let same : r ≡ rec = cc in
      let one : own ≡ stored = cc in
      record {
        here = z;
        to = m.to;
        comes = rw (← at, ← same) a;
        holds = rw (← at) held;
        certain = rw (← same) certain;
        copy = rw (← same, ← one) copy;
      }

  sent_now : (p to rec : ℕ) (view : ViewId) (stored : Stored) → Has o.effects.messages (letter p to (message.RefreshAnswer view rec stored)) → Replied p rec view stored
  sent_now p to rec view stored h = replied (letter p to (message.RefreshAnswer view rec stored)) (d.shares.replies _ h) p rec view stored (d.shares.from _ h ∙ d.here.id) refl

  module _ (p rec : ℕ) (view : ViewId) (stored : Stored) (r : Replied p rec view stored) where
    no_entry : (e : Commit) → Has o.effects.commits e → ⊥
    no_entry = none_entered catalogue w new s x given o k n d r.to (message.RefreshRequest view rec) r.comes (λ q. let z = q.1 in cc)

    quiet : new.journal ≡ w.journal
    quiet = journal_same catalogue w new s x given o k n d r.to (message.RefreshRequest view rec) r.comes (λ q. let z = q.1 in cc)

    kept_copy : value_at rec (kept_at w s).copies ≡ Some stored
    kept_copy = subst (λ (k : DurableState). value_at rec k.copies ≡ Some stored) d.here.kept r.copy

    held : (v : View) × (x.held ≡ Some v) × (v.id ≡ view)
    held = holding x view r.holds

    sure_then : Certain (kept_at w s).doubts rec
    sure_then = certain_from (kept_at w s).doubts x rec (ap (λ (k : DurableState). k.doubts) d.here.kept) r.certain

    sure_now : Certain (kept_at new s).doubts rec
    sure_now u h on = ⊎_elim
        (λ was. sure_then u was on)
        (λ (f : Fresh catalogue w new s x given o k n d s u). let z = sym f.prepared.comes ∙ r.comes in cc)
        (doubt_from catalogue w new s x given o k n d s u h)

    replied_holder : Has (holders catalogue rec) p
    replied_holder = subst (Has (holders catalogue rec)) (sym r.here) (copy_holder catalogue w k s rec stored kept_copy)

    replied_closed : ClosedAt new p rec view
    replied_closed = rw r.here (record { left = λ j below. left_below catalogue w new s x given o k n d held.0 j held.1 (subst (Precedes j) (sym held.2) below); certain = λ u h on below. sure_now u h on })

    replied_value : value_after catalogue new.journal stored.date rec ≡ Some (content_of stored)
    replied_value =
        value_now catalogue w new s x given o k n d copies refresh stored.date rec (λ e h. absurd (no_entry e h))
        ∙ copies.value s rec stored kept_copy (λ u on. sure_then u on.0 on.1)

    replied_between : (e : Commit) (v : View) → Has new.journal e → Wrote e rec → Precedes stored.date e.view → AgreedAs new e.view v → Has v.members p → ⊥
    replied_between e v h wrote later agreed member =
        let there : Has w.journal e = rw (← quiet) h in
        let u = copies.above s rec stored e v kept_copy there wrote later (agreed_was catalogue w new s x given o k n d e v there agreed) (subst (Has v.members) r.here member) in
        sure_then u.0 u.1 (doubt_on catalogue w k.shares e s rec u.0 there wrote (copy_holder catalogue w k s rec stored kept_copy) u.1 u.2)

    replied_from : FromView catalogue new p rec stored.date
    replied_from = subst (λ (j : ℕ). FromView catalogue new j rec stored.date) (sym r.here) (from_lasts catalogue w new s x given o k n d copies refresh s rec stored.date (copies.from s rec stored kept_copy))

  -- an old answer stops the entries of lower views of which its sender was a member
  answer_stops : (p to rec : ℕ) (view : ViewId) (stored : Stored) (e : Commit) (v : View) → Has w.sent (letter p to (message.RefreshAnswer view rec stored)) → Precedes stored.date view → Has o.effects.commits e → Wrote e rec → Precedes e.view view → AgreedAs new e.view v → Has v.members p → ⊥
  answer_stops p to rec view stored e v sent low h wrote below agreed member = ⊎_elim
      (λ (here : p ≡ s). (closed.left e.view below).unused x (rw here d.up) (Uses.held f.view f.held f.is))
      (λ (other : p ≢ s).
      let q = doubted catalogue w new s x given o k n d e p rec v h agreed member (refresh.holder p to rec view stored sent) wrote other in
      closed.certain q.doubt q.was q.on (subst (λ (i : ViewId). Precedes i view) q.viewed below))
      (same_site p s)
    where
      closed : ClosedAt w p rec view
      closed = refresh.closed p to rec view stored sent low

      f : Entering catalogue w new s x given o k n d e
      f = entering catalogue w new s x given o k n d e h

  -- and those up to its date
  answer_keeps : (p to rec : ℕ) (view : ViewId) (stored : Stored) (e : Commit) → Has w.sent (letter p to (message.RefreshAnswer view rec stored)) → Precedes stored.date view → Has o.effects.commits e → Wrote e rec → AtMost e.view stored.date → ⊥
  answer_keeps p to rec view stored e sent low h wrote le = ⊎_elim below (λ q. ⊎_elim (λ same. equal from same) (λ above. not_both stored.date e.view above le) q) (three_ways e.view stored.date)
    where
      from : FromView catalogue w p rec stored.date
      from = refresh.from p to rec view stored sent low

      below : Precedes e.view stored.date → ⊥
      below b = let a = closed_above catalogue w k refresh p rec stored.date e.view from (k.dated.sent p to rec view stored sent) b in stops catalogue w new s x given o k n d refresh e a.view rec h wrote a.above a.opened

      equal : FromView catalogue w p rec stored.date → e.view ≡ stored.date → ⊥
      equal (FromView.member v agreed member) same = answer_stops p to rec view stored e v sent low h wrote (subst (λ (i : ViewId). Precedes i view) (sym same) low) (d.st.moved.agreed v agreed.0, agreed.1 ∙ sym same) member
      equal (FromView.closed v agreed later member opened) same = stops catalogue w new s x given o k n d refresh e v rec h wrote (subst (λ (i : ViewId). Precedes i v.id) (sym same) later) opened

  -- each site that is asked holds the record
  held_by : (r rec q to : ℕ) → Has (other_holders catalogue x r) q → r ≡ rec → q ≡ to → Has (holders catalogue rec) to
  held_by r rec q to h same it = subst (Has (holders catalogue rec)) it (subst (λ (n : ℕ). Has (holders catalogue n) q) same (filter_has (λ (q : ℕ). has (members_in x.held) q && not (q == x.id)) (holders catalogue r) q h).0)

  asked_sent : (m : Sent) → SentFor catalogue x given o.site.live m → (from to number rec : ℕ) (txn : TxnId) (view : ViewId) → ((m ≡ letter from to (message.ReadRequest txn view number rec)) ⊎ (m ≡ letter from to (message.WriteRequest txn view number rec))) → Has (holders catalogue rec) to
  asked_sent m (SentFor.aside a) from to number rec txn view is = absurd (⊎_elim (λ (e : m ≡ letter from to (message.ReadRequest txn view number rec)). let z = ap (λ (m : Sent). is_aside m.message) e in let y = a.aside in cc) (λ (e : m ≡ letter from to (message.WriteRequest txn view number rec)). let z = ap (λ (m : Sent). is_aside m.message) e in let y = a.aside in cc) is)
  asked_sent m (SentFor.outcome t commit f e) from to number rec txn view is = absurd (⊎_elim (λ (q : m ≡ letter from to (message.ReadRequest txn view number rec)). let z = sym e ∙ ap (λ (m : Sent). m.message) q in cc) (λ (q : m ≡ letter from to (message.WriteRequest txn view number rec)). let z = sym e ∙ ap (λ (m : Sent). m.message) q in cc) is)
  asked_sent m (SentFor.reads u p r q h a only e) from to number rec txn view is = ⊎_elim
      (λ (f : m ≡ letter from to (message.ReadRequest txn view number rec)).
      let z = ap (λ (m : Sent). m.message) (e ∙ f) in
      let same : r ≡ rec = cc in
      held_by r rec q to a.holder same (ap (λ (m : Sent). m.to) (e ∙ f)))
      (λ (f : m ≡ letter from to (message.WriteRequest txn view number rec)). absurd (let z = ap (λ (m : Sent). m.message) (e ∙ f) in cc))
      is
  asked_sent m (SentFor.writes u p r value q h a j only e) from to number rec txn view is = ⊎_elim
      (λ (f : m ≡ letter from to (message.ReadRequest txn view number rec)). absurd (let z = ap (λ (m : Sent). m.message) (e ∙ f) in cc))
      (λ (f : m ≡ letter from to (message.WriteRequest txn view number rec)).
      let z = ap (λ (m : Sent). m.message) (e ∙ f) in
      let same : r ≡ rec = cc in
      held_by r rec q to j same (ap (λ (m : Sent). m.to) (e ∙ f)))
      is
  asked_sent m (SentFor.prepares u p q h a j only e) from to number rec txn view is = absurd (⊎_elim (λ (f : m ≡ letter from to (message.ReadRequest txn view number rec)). let z = ap (λ (m : Sent). m.message) (e ∙ f) in cc) (λ (f : m ≡ letter from to (message.WriteRequest txn view number rec)). let z = ap (λ (m : Sent). m.message) (e ∙ f) in cc) is)

  asked_now : (from to number rec : ℕ) (txn : TxnId) (view : ViewId) (exclusive : Bool) → HasRequest new from to txn view number rec exclusive → Has (holders catalogue rec) to
  asked_now from to number rec txn view false (HasRequest.to_read h) = ⊎_elim
      (λ old. refresh.asked from to number rec txn view false (HasRequest.to_read old))
      (λ more. asked_sent (letter from to (message.ReadRequest txn view number rec)) (d.steps.sent _ more) from to number rec txn view (inl refl))
      (d.st.sent _ h)
  asked_now from to number rec txn view true (HasRequest.to_write h) = ⊎_elim
      (λ old. refresh.asked from to number rec txn view true (HasRequest.to_write old))
      (λ more. asked_sent (letter from to (message.WriteRequest txn view number rec)) (d.steps.sent _ more) from to number rec txn view (inr refl))
      (d.st.sent _ h)

  -- what is answered for a live transaction
  request_was : (to number rec : ℕ) (txn : TxnId) (view : ViewId) (exclusive : Bool) → Requests given to txn view number rec exclusive → HasRequest w to s txn view number rec exclusive
  request_was to number rec txn view false (Requests.reads e) = HasRequest.to_read (d.came to _ e)
  request_was to number rec txn view true (Requests.writes e) = HasRequest.to_write (d.came to _ e)

  said_view : (to number rec : ℕ) (txn : TxnId) (view : ViewId) (exclusive : Bool) → HasRequest w to s txn view number rec exclusive → (y : SiteState) (u : Live) → plain_at w txn.site ≡ Some y → Has y.live u → u.txn ≡ txn → u.view ≡ view
  said_view to number rec txn view false (HasRequest.to_read h) y u up there named = (k.shares.says _ h).live y u up there named
  said_view to number rec txn view true (HasRequest.to_write h) y u up there named = (k.shares.says _ h).live y u up there named

  pub free_unlisted : (rec : ℕ) (exclusive : Bool) (txn : TxnId) → IsFree rec exclusive (owner.Txn txn) x.locks → IsUnlisted x.refresh rec
  free_unlisted rec exclusive txn free r h is =
      let guard = (k.guards.site s x d.up).listed r h in
      let z : guard.lock.owner ≡ owner.Txn txn = free guard.lock guard.has (guard.on ∙ is) (rw (guard.strong refl) (or_true exclusive)) in
      let y = guard.by in
      no_refresh txn (sym y ∙ z)
    where
      or_true : (b : Bool) → (b || true) ≡ true
      or_true true = refl
      or_true false = refl

      no_refresh : (txn : TxnId) → owner.Refresh ≡ owner.Txn txn → ⊥
      no_refresh txn e = cc

  granted_closed : (to number rec : ℕ) (txn : TxnId) (exclusive : Bool) (stored : Stored) (g : Granted x given to txn number rec exclusive stored) (v : View) → AgreedAs new g.view v → Open catalogue w rec v
  granted_closed to number rec txn exclusive stored g v agreed =
      let h = holding x g.view g.held in
      let same : h.0 ≡ v = n.views.unique h.0 v (d.st.moved.agreed h.0 (d.here.held h.0 h.1)) agreed.0 (h.2 ∙ sym agreed.1) in
      copies.open_copy s rec x v stored d.up (h.1 ∙ ap (λ (v : View). Some v) same) g.opened
      (unlisted_none rec x.refresh (free_unlisted rec exclusive txn (free_from_none rec exclusive txn x.locks g.free))) g.copy

  -- the view of a transaction that was live, as it was
  view_then : (j : ℕ) (y : SiteState) (u : Live) (v : View) → plain_at w j ≡ Some y → Has y.live u → AgreedAs new u.view v → (y.held ≡ Some v) × AgreedAs w u.view v
  view_then j y u v up h agreed =
      let of : IsOf y u = (k.led.site j y up).live u h in
      let there = (k.views.site j y up).held of.0 of.1 in
      let same : of.0 ≡ v = n.views.unique of.0 v (d.st.moved.agreed of.0 there) agreed.0 (of.2 ∙ sym agreed.1) in
      (of.1 ∙ ap (λ (v : View). Some v) same, (subst (Has w.agreed) same there, agreed.1))

  used_new : (j q rec : ℕ) (exclusive : Bool) (y : SiteState) (t : Live) (v : View) → plain_at new j ≡ Some y → Has y.live t → HasAnswered new q t.txn rec exclusive → AgreedAs new t.view v → Open catalogue new rec v
  used_new j q rec exclusive y t v up live has agreed = open_now catalogue w new s x given o k n d refresh rec v (go (d.split j y t (now_is w new s x o d.st j y up) live q rec exclusive has))
    where
      at_site : (old : Was w j t) → plain_at w t.txn.site ≡ Some old.site
      at_site old = rw (ap (λ (t : TxnId). t.site) (sym old.named) ∙ ((k.led.site j old.site old.up_then).names old.u old.here).0 ∙ (k.views.site j old.site old.up_then).id) old.up_then

      go : Split w s x given o j t q rec exclusive → Open catalogue w rec v
      go (Split.before old had) =
          refresh.used j q rec exclusive old.site old.u v old.up_then old.here (subst (λ (txn : TxnId). HasAnswered w q txn rec exclusive) (sym old.named) had)
          (view_then j old.site old.u v old.up_then old.here (agreed.0, agreed.1 ∙ sym old.viewed)).1
      go (Split.now old at uses to number stored g) =
          let viewed : old.u.view ≡ g.view = said_view to number rec t.txn g.view exclusive (request_was to number rec t.txn g.view exclusive g.comes) old.site old.u (at_site old) old.here old.named in
          granted_closed to number rec t.txn exclusive stored g v (agreed.0, agreed.1 ∙ sym old.viewed ∙ viewed)

  -- what an answer to a call answers: the request on its record
  pub read_request : (from : ℕ) (u : Live) (p : Pending) (rec : ℕ) (value : Option (List ℕ)) → Has x.live u → u.pending ≡ Some p → Reads catalogue p rec → Comes given from (message.ReadAnswer u.txn p.number value) → (view : ViewId) × Has w.sent (letter s from (message.ReadRequest u.txn view p.number rec))
  read_request from u p rec value h pending reads c =
      let request = k.shares.says _ (d.came from (message.ReadAnswer u.txn p.number value) c) in
      let same : request.1 ≡ rec = ⊎_elim
      (λ low. absurd (one_above p.number (length u.answers) low ((k.ops.live s x u d.up h).next p pending)))
      (λ (q : (b : Pending) × (u.pending ≡ Some b) × (b.number ≡ p.number) × Reads catalogue b request.1).
      let one : q.0 ≡ p = (let y = q.1 in let z = pending in cc) in
      reads_same catalogue p request.1 rec (subst (λ (p : Pending). Reads catalogue p request.1) one q.3) reads)
      (k.answers.asks (letter s from (message.ReadRequest u.txn request.0 p.number request.1)) request.2 x u (rw ((d.led.names u h).0 ∙ d.here.id) d.up) h refl) in
      (request.0, subst (λ (r : ℕ). Has w.sent (letter s from (message.ReadRequest u.txn request.0 p.number r))) same request.2)

  change_request : (from : ℕ) (u : Live) (p : Pending) (rec : ℕ) (deed : Deed) → Has x.live u → u.pending ≡ Some p → Changes catalogue p rec deed → Comes given from (message.WriteAnswer u.txn p.number) → (view : ViewId) × Has w.sent (letter s from (message.WriteRequest u.txn view p.number rec))
  change_request from u p rec deed h pending changes c =
      let request = k.shares.says _ (d.came from (message.WriteAnswer u.txn p.number) c) in
      let same : request.1 ≡ rec = ⊎_elim
      (λ low. absurd (one_above p.number (length u.answers) low ((k.ops.live s x u d.up h).next p pending)))
      (λ (q : (b : Pending) × (u.pending ≡ Some b) × (b.number ≡ p.number) × WritesTo catalogue request.1 b).
      let one : q.0 ≡ p = (let y = q.1 in let z = pending in cc) in
      writes_same catalogue p request.1 rec q.3.0 deed (subst (λ (p : Pending). Changes catalogue p request.1 q.3.0) one q.3.1) changes)
      (k.answers.asks (letter s from (message.WriteRequest u.txn request.0 p.number request.1)) request.2 x u (rw ((d.led.names u h).0 ∙ d.here.id) d.up) h refl) in
      (request.0, subst (λ (r : ℕ). Has w.sent (letter s from (message.WriteRequest u.txn request.0 p.number r))) same request.2)

  -- what a call does that is done in this step is on an open record
  module _ (u : Live) (p : Pending) (deed : Deed) (h : Has x.live u) (v : View) (agreed : AgreedAs new u.view v) where
    had : (rec : ℕ) → HasUsed u.ops rec ⊎ HasChanged u rec → Open catalogue w rec v
    had rec did = refresh.uses s x u rec v d.up h did (view_then s x u v d.up h agreed).1

    copy_open : (rec : ℕ) (exclusive : Bool) (stored : Stored) → is_open x rec ≡ true → value_at rec x.copies ≡ Some stored → conflict rec exclusive u.txn x.locks ≡ None → Open catalogue w rec v
    copy_open rec exclusive stored opened copy free =
        copies.open_copy s rec x v stored d.up (view_then s x u v d.up h agreed).0 opened
        (unlisted_none rec x.refresh (free_unlisted rec exclusive u.txn (free_from_none rec exclusive u.txn x.locks free))) copy

    alone_open : (rec : ℕ) (l : Lent) → May catalogue x u rec deed → is_empty (other_holders catalogue x rec) ≡ true → Locked x u rec l → Open catalogue w rec v
    alone_open rec l may alone (Locked.no_copy none e) = let q = holder_elsewhere catalogue w s x d.up k rec deed may.enough none in absurd (empty_not (other_holders catalogue x rec) q.0 alone q.1)
    alone_open rec l may alone (Locked.locked stored copy free e) = copy_open rec true stored may.usable copy free

    on_read : (rec : ℕ) (value : Option (List ℕ)) → deed ≡ Deed.operates (op.Read rec value) → Open catalogue w rec v → Open catalogue w (record_of deed) v
    on_read rec value is opened = subst (λ (deed : Deed). Open catalogue w (record_of deed) v) (sym is) opened

    on_change : (rec : ℕ) → Changes catalogue p rec deed → Open catalogue w rec v → Open catalogue w (record_of deed) v
    on_change rec changes opened = subst (λ (n : ℕ). Open catalogue w n v) (sym changes.on) opened

    deed_open : (l : Lent) → Completes catalogue x given u p deed l → Open catalogue w (record_of deed) v
    deed_open l (Completes.own_write rec value next reads a wrote is e) = on_read rec value is (had rec (inr (written_changed u rec value wrote)))
    deed_open l (Completes.own_copy rec stored next reads a none copy free is e) = on_read rec stored.value is (copy_open rec false stored a copy free)
    deed_open l (Completes.change_again rec before next changes may was e) = on_change rec changes (had rec (inr (change_there (last_changes (entry_of u)) rec before was)))
    deed_open l (Completes.change_alone rec next changes may none alone taken) = on_change rec changes (alone_open rec l may alone taken)
    deed_open l (Completes.read_answered from rec value c last reads is e) =
        let request = read_request from u p rec value h last.pending reads c in
        on_read rec value is (refresh.used s from rec false x u v d.up h (HasAnswered.read (s, p.number, request.0, value, d.came from _ c, request.1)) (view_then s x u v d.up h agreed).1)
    deed_open l (Completes.change_answered from rec c last changes e) =
        let request = change_request from u p rec deed h last.pending changes c in
        on_change rec changes (refresh.used s from rec true x u v d.up h (HasAnswered.wrote (s, p.number, request.0, d.came from _ c, request.1)) (view_then s x u v d.up h agreed).1)

    done_open : (l : Lent) (rec : ℕ) → Completes catalogue x given u p deed l → HasUsed (done u p deed).ops rec ⊎ HasChanged (done u p deed) rec → Open catalogue w rec v
    done_open l rec c did = ⊎_elim
        (λ (used : HasUsed (done u p deed).ops rec). ⊎_elim
        (λ old. had rec (inl (used.0, old, used.2)))
        (λ now. subst (λ (n : ℕ). Open catalogue w n v) (ap record_of now ∙ used.2) (deed_open l c))
        (operation_there u.ops deed used.0 used.1))
        (λ changed. ⊎_elim
        (λ old. had rec (inr old))
        (λ (now : (alters deed rec ≡ true) × (record_of deed ≡ rec)). subst (λ (n : ℕ). Open catalogue w n v) now.1 (deed_open l c))
        (changed_by u p deed rec changed))
        did

  same_uses : (u t : Live) (rec : ℕ) (v : View) → Has x.live u → entry_of t ≡ entry_of u → HasUsed t.ops rec ⊎ HasChanged t rec → AgreedAs new t.view v → Open catalogue w rec v
  same_uses u t rec v h same did agreed = refresh.uses s x u rec v d.up h
      (⊎_elim
      (λ used. inl (subst (λ (e : Commit). HasUsed e.ops rec) same used))
      (λ changed. inr (subst (λ (e : Commit). Wrote e rec) same changed))
      did)
      (view_then s x u v d.up h (agreed.0, agreed.1 ∙ ap (λ (e : Commit). e.view) same)).1

  uses_here : (t : Live) (rec : ℕ) (v : View) → LiveNow catalogue x given t → HasUsed t.ops rec ⊎ HasChanged t rec → AgreedAs new t.view v → Open catalogue w rec v
  uses_here t rec v (LiveNow.still h) did agreed = same_uses t t rec v h refl did agreed
  uses_here t rec v (LiveNow.marked u h tick e) did agreed = same_uses u t rec v h (ap entry_of (sym e)) did agreed
  uses_here t rec v (LiveNow.waits u p from h f m l c e) did agreed = same_uses u t rec v h (ap entry_of (sym e)) did agreed
  uses_here t rec v (LiveNow.reads u p r q h a e) did agreed = same_uses u t rec v h (ap entry_of (sym e)) did agreed
  uses_here t rec v (LiveNow.writes u p r deed h a e) did agreed = same_uses u t rec v h (ap entry_of (sym e)) did agreed
  uses_here t rec v (LiveNow.prepares u p h a e) did agreed = same_uses u t rec v h (ap entry_of (sym e)) did agreed
  uses_here t rec v (LiveNow.completed u p deed l h c e) did agreed =
      done_open u p deed h v (subst (λ (t : Live). AgreedAs new t.view v) (sym e) agreed) l rec c (subst (λ (t : Live). HasUsed t.ops rec ⊎ HasChanged t rec) (sym e) did)
  uses_here t rec v (LiveNow.begins view h e) did agreed = absurd (⊎_elim
      (λ (used : HasUsed t.ops rec). has_none used.0 (subst (λ (t : Live). Has t.ops used.0) (sym e) used.1))
      (λ changed. has_none rec (subst (λ (t : Live). HasChanged t rec) (sym e) changed))
      did)

  uses_now : (j : ℕ) (y : SiteState) (t : Live) (rec : ℕ) (v : View) → plain_at new j ≡ Some y → Has y.live t → HasUsed t.ops rec ⊎ HasChanged t rec → AgreedAs new t.view v → Open catalogue new rec v
  uses_now j y t rec v up live did agreed = open_now catalogue w new s x given o k n d refresh rec v (go (now_is w new s x o d.st j y up))
    where
      go : NowIs w s o.site j y → Open catalogue w rec v
      go (NowIs.other m old) = refresh.uses j y t rec v old live did (view_then j y t v old live agreed).1
      go (NowIs.here z same) = uses_here t rec v (d.steps.live t (subst (λ (y : SiteState). Has y.live t) (sym same) live)) did agreed

  live_now : (j : ℕ) (y : SiteState) (t : Live) → Has y.live t → NowIs w s o.site j y → LiveUses catalogue y.held t
  live_now j y t h (NowIs.other z old) = refresh.live j y t old h
  live_now j y t h (NowIs.here e same) =
      let here : Has o.site.live t = subst (λ (y : SiteState). Has y.live t) (sym same) h in
      let from = d.steps.live t here in
      let held : x.held ≡ o.site.held = same_held catalogue w new s x given o t k.views n.views d.up d.st.now d.led (n.led.site s o.site d.st.now) d.st.moved.agreed here from in
      subst (λ (y : SiteState). LiveUses catalogue y.held t) same
      (subst (λ (v : Option View). LiveUses catalogue v t) held (live_uses catalogue x given (λ u there. refresh.live s x u d.up there) t from))

  pub refresh_keep : InvRefresh catalogue new
  refresh_keep = record {
    holder = λ p to rec view stored h. ⊎_elim (λ old. refresh.holder p to rec view stored old) (λ more. replied_holder p rec view stored (sent_now p to rec view stored more)) (d.st.sent _ h);
    closed = λ p to rec view stored h low. ⊎_elim
        (λ old. closed_at_lasts catalogue w new s x given o d.up d.here.kept d.below.parts d.shares d.leaves d.st p rec view (refresh.closed p to rec view stored old low))
        (λ more. replied_closed p rec view stored (sent_now p to rec view stored more)) (d.st.sent _ h);
    value = λ p to rec view stored h low. ⊎_elim
        (λ old. value_now catalogue w new s x given o k n d copies refresh stored.date rec (λ e entered wrote le. answer_keeps p to rec view stored e old low entered wrote le) ∙ refresh.value p to rec view stored old low)
        (λ more. replied_value p rec view stored (sent_now p to rec view stored more)) (d.st.sent _ h);
    between = λ p to rec view stored e v h there wrote later below agreed member. ⊎_elim
        (λ old. ⊎_elim
        (λ was. refresh.between p to rec view stored e v old was wrote later below (agreed_was catalogue w new s x given o k n d e v was agreed) member)
        (λ entered. answer_stops p to rec view stored e v old (Precedes-trans stored.date e.view view later below) entered wrote below agreed member)
        (d.st.entered e there))
        (λ more. replied_between p rec view stored (sent_now p to rec view stored more) e v there wrote later agreed member) (d.st.sent _ h);
    from = λ p to rec view stored h low. ⊎_elim
        (λ old. from_lasts catalogue w new s x given o k n d copies refresh p rec stored.date (refresh.from p to rec view stored old low))
        (λ more. replied_from p rec view stored (sent_now p to rec view stored more)) (d.st.sent _ h);
    live = λ j y t up h. live_now j y t h (now_is w new s x o d.st j y up);
    uses = uses_now;
    entry = entries_open catalogue w new s x given o k n d refresh;
    weighed = entries_weighed catalogue w new s x given o k n d refresh;
    used = used_new;
    asked = asked_now;
  }
