-- Each date is still that of an entry, and each kept answer to a refresh was sent.
use Rattle.std.proofs.Common.{◌≡◌, ◌∙◌, ap, sym, subst, ℕ, true, List, refl, inl, inr, ⊎_elim}
use Rattle.std.specs.Prelude.{Option, Some, not, ◌==◌, ◌&&◌}
use Rattle.vp_model.specs.Types.{Change, ViewId, View, Sent, Commit, Input, Stored, Refreshing}
use Rattle.vp_model.specs.Types.message
use Rattle.vp_model.specs.Words.{has, keys}
use Rattle.vp_model.specs.Catalogue.{Catalogue, holders, start_copies}
use Rattle.vp_model.specs.Durable.{DurableState, empty_durable}
use Rattle.vp_model.specs.Refresh.{unanswered, members_in, other_holders}
use Rattle.vp_model.specs.Site.{SiteState, Stepped}
use Rattle.vp_model.specs.Step.{durable_of}
use Rattle.vp_model.specs.Transactions.{last_changes, writes_held}
use Rattle.vp_laws.proofs.Lists.Members.{Has, has_from_test, filter_has, both_true}
use Rattle.vp_laws.proofs.Lists.Changes.{mapped_has}
use Rattle.vp_laws.proofs.Moves.LocalViews.{letter}
use Rattle.vp_laws.proofs.Worlds.Scenes.{Scene, plain_at, kept_at, Acted, scene_of}
use Rattle.vp_laws.proofs.Table.Shares.{ReplyTo, is_reply, Shares}
use Rattle.vp_laws.proofs.Table.Copies.{AnswerNow, CopyNow, Copies, value_pair}
use Rattle.vp_laws.proofs.Invariant.Endings.{InvEndings}
use Rattle.vp_laws.proofs.Invariant.Shares.{InvShares}
use Rattle.vp_laws.proofs.Worlds.Events.{Arrives, came_in}
use Rattle.vp_laws.proofs.Worlds.Sites.{NowIs, now_is, KeptIs, kept_is, Quiet, quiet_is, quiet_kept, started, start_kept, start_sent, no_refresh, refresh_still}
use Rattle.vp_laws.proofs.Lists.Numbers.{differs}
use Rattle.vp_laws.proofs.Invariant.Dated.{InvDated, IsDated, WasSent}
use Rattle.vp_laws.proofs.Keeping.Settled.{holding}
use Rattle.vp_model.specs.World.{start_world}
use Rattle.vp_laws.proofs.Journal.ValuesAfter.{Wrote}

module _ (catalogue : Catalogue) (w new : Scene) (s : ℕ) (x : SiteState) (given : Input) (o : Stepped) (up : plain_at w s ≡ Some x) (arrives : Arrives w s given) (id : x.id ≡ s) (was_kept : durable_of x ≡ kept_at w s) (ends : InvEndings w) (shares : InvShares catalogue w) (inv : InvDated catalogue w) (c : Copies catalogue x given o) (p : Shares x given o) (st : Acted w new s x o) where
  dated_on : (rec : ℕ) (date : ViewId) → IsDated w rec date → IsDated new rec date
  dated_on rec date (inl e) = inl e
  dated_on rec date (inr (e, h, wrote, same)) = inr (e, st.moved.journal e h, wrote, same)

  sent_on : (k rec : ℕ) (v : View) (a : ℕ × Stored) → WasSent catalogue w k rec v a → WasSent catalogue new k rec v a
  sent_on k rec v a h = (st.moved.sent _ h.0, h.1, h.2, h.3)

  copy_was : (a : ℕ × Stored) → Has x.copies a → IsDated w a.0 a.1.date
  copy_was a h = inv.copies s a (subst (λ (k : DurableState). Has k.copies a) was_kept h)

  answer_dated : (rec : ℕ) (k : ℕ × Stored) → AnswerNow catalogue x given rec k → IsDated w rec k.1.date
  answer_dated rec k (AnswerNow.was r h e a) = let q = inv.kept s x r k up h a in subst (λ (n : ℕ). IsDated w n k.1.date) e (inv.sent k.0 s r.rec q.0.id k.1 q.2.0)
  answer_dated rec k (AnswerNow.came from view r stored comes is held h e u) = subst (λ (k : ℕ × Stored). IsDated w rec k.1.date) is (inv.sent from s rec view stored (came_in w s given arrives from _ comes))

  -- the records that an entry wrote, among those that a site holds
  wrote_held : (e : Commit) (k : ℕ) (a : ℕ × Change) → Has (writes_held catalogue k (last_changes e)) a → Wrote e a.0
  wrote_held e k a h = mapped_has (λ (p : ℕ × Change). p.0) (last_changes e) a (filter_has (λ (w : ℕ × Change). has (holders catalogue w.0) k) (last_changes e) a h).0

  copy_now : (a : ℕ × Stored) → CopyNow catalogue x given o.effects.commits a → IsDated new a.0 a.1.date
  copy_now a (CopyNow.still h) = dated_on a.0 a.1.date (copy_was a h)
  copy_now a (CopyNow.outcome from d b comes h there old was is) =
      let e = (ends.told (letter from s (message.Outcome d.txn true)) (came_in w s given arrives from _ comes)).1 in
      let q = shares.doubts s d (subst (λ (k : DurableState). Has k.doubts d) was_kept h) in
      let says = shares.entry e.0 e.1 q.0.0 s d.view q.0.1 q.0.2 d.writes (rw e.2 q.0.3) in
      subst (λ (a : ℕ × Stored). IsDated new a.0 a.1.date) is (inr (e.0, st.moved.journal e.0 e.1, wrote_held e.0 s b (rw says.1 there), says.0))
  copy_now a (CopyNow.entered e b h there old was is) = subst (λ (a : ℕ × Stored). IsDated new a.0 a.1.date) is (inr (e, st.enters e h, wrote_held e x.id b there, refl))
  copy_now a (CopyNow.refreshed k now is) = dated_on a.0 a.1.date (subst (λ (c : Stored). IsDated w a.0 c.date) is (answer_dated a.0 k now))

  reply_dated : (m : Sent) → ReplyTo x given o.site.participant m → (view : ViewId) (rec : ℕ) (stored : Stored) → m.message ≡ message.RefreshAnswer view rec stored → IsDated w rec stored.date
  reply_dated m (ReplyTo.other quiet) view rec stored e = absurd (let z = ap is_reply e in cc)
  reply_dated m (ReplyTo.doubt_again d a b i f) view rec stored e = absurd (let z = f ∙ e in cc)
  reply_dated m (ReplyTo.vote_again part a b i z f) view rec stored e = absurd (let z = f ∙ e in cc)
  reply_dated m (ReplyTo.vote_reading part reads writes a none i f) view rec stored e = absurd (let z = f ∙ e in cc)
  reply_dated m (ReplyTo.vote_writing part reads writes a some i f) view rec stored e = absurd (let z = f ∙ e in cc)
  reply_dated m (ReplyTo.acks t a none f) view rec stored e = absurd (let z = f ∙ e in cc)
  reply_dated m (ReplyTo.read_answer t n r own a f) view rec stored e = absurd (let z = f ∙ e in cc)
  reply_dated m (ReplyTo.write_answer t n r own a f) view rec stored e = absurd (let z = f ∙ e in cc)
  reply_dated m (ReplyTo.refresh_answer i r own a held certain copy f) view rec stored e =
      let z = f ∙ e in
      let same : r ≡ rec = cc in
      let on : own ≡ stored = cc in
      rw (← same, ← on) (copy_was (r, own) (value_pair r x.copies own copy))

  -- a kept answer
  pub answer_sent : (r : ℕ) (k : ℕ × Stored) → AnswerNow catalogue x given r k → (v : View) × (x.held ≡ Some v) × WasSent catalogue w s r v k
  answer_sent rec k (AnswerNow.was r h e a) = let q = inv.kept s x r k up h a in (q.0, q.1, subst (λ (n : ℕ). WasSent catalogue w s n q.0 k) e q.2)
  answer_sent rec k (AnswerNow.came from view r stored comes is held h e u) =
      let v = holding x view held in
      let asked = (filter_has (λ q. not (has (keys r.answers) q)) (other_holders catalogue x r.rec) from (has_from_test (unanswered catalogue x r) from u)).0 in
      let f = filter_has (λ (q : ℕ). has (members_in x.held) q && not (q == x.id)) (holders catalogue r.rec) from asked in
      let b = both_true (has (members_in x.held) from) (not (from == x.id)) f.1 in (
        v.0,
        v.1,
        subst (WasSent catalogue w s rec v.0) is (
          rw v.2 (came_in w s given arrives from _ comes),
          has_from_test v.0.members from (subst (λ (held : Option View). has (members_in held) from ≡ true) v.1 b.0),
          subst (λ (n : ℕ). Has (holders catalogue n) from) e f.0,
          (λ z. differs from x.id b.1 (z ∙ sym id)),
        ),
      )

  pub dated_keep : InvDated catalogue new
  dated_keep = record {
    copies = λ k a h. copy_at k a h (kept_is w new s x o st k);
    sent = λ k to rec view stored h. ⊎_elim (λ old. dated_on rec stored.date (inv.sent k to rec view stored old)) (λ more. dated_on rec stored.date (reply_dated (letter k to (message.RefreshAnswer view rec stored)) (p.replies _ more) view rec stored refl)) (st.sent _ h);
    kept = λ k y r a g h z. kept_now k y r a h z (now_is w new s x o st k y g);
  }
    where
      copy_at : (k : ℕ) (a : ℕ × Stored) → Has (kept_at new k).copies a → KeptIs w new s (durable_of o.site) k → IsDated new a.0 a.1.date
      copy_at k a h (KeptIs.other n same) = dated_on a.0 a.1.date (inv.copies k a (subst (λ (k : DurableState). Has k.copies a) same h))
      copy_at k a h (KeptIs.here e same) = copy_now a (c.copies a (subst (λ (k : DurableState). Has k.copies a) same h))

      kept_now : (k : ℕ) (y : SiteState) (r : Refreshing) (a : ℕ × Stored) → Has y.refresh r → Has r.answers a → NowIs w s o.site k y → (v : View) × (y.held ≡ Some v) × WasSent catalogue new k r.rec v a
      kept_now k y r a h z (NowIs.other n old) = let q = inv.kept k y r a old h z in (q.0, q.1, sent_on k r.rec q.0 a q.2)
      kept_now k y r a h z (NowIs.here e same) =
          let n = c.answers r a (subst (λ (y : SiteState). Has y.refresh r) (sym same) h) z in
          let q = answer_sent r.rec a n.0 in
          (q.0, sym (ap (λ (y : SiteState). y.held) same) ∙ n.1 ∙ q.1, subst (λ (k : ℕ). WasSent catalogue new k r.rec q.0 a) (sym e) (sent_on s r.rec q.0 a q.2))

pub dated_starts : (catalogue : Catalogue) → InvDated catalogue (scene_of (start_world catalogue))
dated_starts catalogue = record {
  copies = λ s a h. inl ((start_kept catalogue s).dated a h);
  sent = λ p to rec view stored h. absurd (start_sent catalogue _ h);
  kept = λ s x r a up h k. absurd (no_refresh catalogue s (empty_durable (start_copies catalogue s)) r (subst (λ (x : SiteState). Has x.refresh r) (sym (started catalogue s x up)) h));
}

pub dated_quiet : (catalogue : Catalogue) (w new : Scene) (s : ℕ) → Quiet catalogue w new s → InvDated catalogue w → InvDated catalogue new
dated_quiet catalogue w new s q inv = record {
  copies = λ k a h. dated_on w new s q a (inv.copies k a (subst (λ (cs : List (ℕ × Stored)). Has cs a) (quiet_kept catalogue w new s q (λ (d : DurableState). d.copies) q.copies k) h));
  sent = λ p to rec view stored h. rw q.journal (inv.sent p to rec view stored (rw q.sent at h));
  kept = λ k y r a up h z.
      let was = inv.kept k y r a (refresh_still catalogue w s k y r h (quiet_is catalogue w new s q k y up)) h z in
      (was.0, was.1, still_sent w new s q k r.rec was.0 a was.2);
}
  where
    dated_on : (w new : Scene) (s : ℕ) → Quiet catalogue w new s → (a : ℕ × Stored) → IsDated w a.0 a.1.date → IsDated new a.0 a.1.date
    dated_on w new s q a h = rw q.journal h

    still_sent : (w new : Scene) (s : ℕ) → Quiet catalogue w new s → (k rec : ℕ) (v : View) (a : ℕ × Stored) → WasSent catalogue w k rec v a → WasSent catalogue new k rec v a
    still_sent w new s q k rec v a h = (rw q.sent h.0, h.1, h.2, h.3)
