-- The small moves keep what a step sends about views.
use Rattle.std.proofs.Common.{◌≡◌, ◌⊎◌, ◌∙◌, ap, sym, ℕ, Bool, true, false, List, [], ◌∷◌, refl, arith, inl, inr, ⊎_elim}
use Rattle.std.specs.Prelude.{Option, Some, None, ◌&&◌, ◌==◌, not, option_map, filter}
use Rattle.vp_model.specs.Types.{ViewId, TxnId, View, Stored, Message, Sent, Input, Refreshing, Pending, Live, Ending, Doubt, Decision}
use Rattle.vp_base.specs.declared.site.Ending.TheVariants.{Committed}
use Rattle.vp_model.specs.Types.input
use Rattle.vp_model.specs.Types.message
use Rattle.vp_model.specs.Words.{view_before, is_view, has, put_number, same_view}
use Rattle.vp_model.specs.Catalogue.{Catalogue}
use Rattle.vp_model.specs.Durable.{doubt_of}
use Rattle.vp_model.specs.Site.{ViewState, change_views, SiteState, Lent, Stepped, begin_step, lent, put_back, letters}
use Rattle.vp_model.specs.Transactions.{decide, keep_writes, complete}
use Rattle.vp_model.specs.Refresh.{unlist, end_refresh, start_refresh, other_holders}
use Rattle.vp_model.specs.Views.{with_invitation, is_spent, other_sites, drop_view, start_inviting, hold}
use Rattle.vp_model.specs.Calls.{start_txn, take_lock, read_at, write_at, prepare_parts, prepare_for}
use Rattle.vp_model.specs.Messages.{with_wait, accept, on_accept, with_acceptance, on_stale, with_heard, grant, end_here}
use Rattle.vp_model.specs.Step.{with_monitor, step, fix, without_wait, probe_all, mark_calls, resend_one}
use Rattle.vp_laws.proofs.Lists.Members.{Has, has_none, has_one, has_one_is, has_cases, has_from_test, map_has, both_true}
use Rattle.vp_laws.proofs.Lists.Views.{AtMost, Precedes, AtMost-refl, AtMost-same, Precedes-at_most, from_before, same_is, is_view_is, put_keeps, put_only}
use Rattle.vp_laws.proofs.Moves.Frames.{Ends, close-ends, decided-ends, decide-cases, take-cases}
use Rattle.vp_laws.proofs.Moves.Rows.{step-keeps}
use Rattle.vp_laws.proofs.Moves.Table.{Comes, next_view, lent_at, Left, Back, SendsBack, Table, AsksAgain}
use Rattle.vp_laws.proofs.Moves.LocalViews.{letter, Tidy, MaySend, Local, IsNew, is_quiet, quiet-may, beside, silent, letters_quiet, letter_quiet, may_rise}

-- the acceptance of an invitation
grown : (from : ℕ) (id : ViewId) (old : ViewId × List ℕ) (inviting : Option (ViewId × List ℕ)) (b : ViewId × List ℕ) → inviting ≡ Some old → option_map (with_acceptance from id) inviting ≡ Some b → (b ≡ old) ⊎ ((id ≡ b.0) × (b.0 ≡ old.0) × (b.1 ≡ put_number from old.1))
grown from id old inviting b e h = go (same_view old.0 id) refl
  where
    go : (t : Bool) → same_view old.0 id ≡ t → (b ≡ old) ⊎ ((id ≡ b.0) × (b.0 ≡ old.0) × (b.1 ≡ put_number from old.1))
    go true t = let same = same_is old.0 id t in grind (arith, e, h, t, same)
    go false t = grind (arith, e, h, t)

grown_from : (from : ℕ) (id : ViewId) (inviting : Option (ViewId × List ℕ)) (b : ViewId × List ℕ) → option_map (with_acceptance from id) inviting ≡ Some b → (old : ViewId × List ℕ) × (inviting ≡ Some old)
grown_from from id None b h = cc
grown_from from id (Some old) b h = (old, refl)

module _ (catalogue : Catalogue) (x : SiteState) (given : Input) (tidy : Tidy x) where
  abbrev Invites : ViewId × List ℕ → Type 0
  Invites b = (b.0 ≡ x.promise) × (x.held ≡ None) × (x.waiting ≡ None) × (b.0.site ≡ x.id) × Has b.1 x.id

  begins : Local x given (begin_step x)
  begins = record {
    id = refl;
    rises = AtMost-refl x.promise;
    origin = inl refl;
    tidy = tidy;
    held = λ v e. inl e;
    waiting = λ i e. inl e;
    inviting = λ b e. inl e;
    sent = λ m h. absurd (has_none m h);
  }

  abbrev K : Lent → Type 0
  K = Back x (Local x given)

  ends : (t : Live) (why : Ending) (commit : Bool) (l now : Lent) → Ends x.id t why commit l now → K l → K now
  ends t why commit l now e q =
      beside x given (put_back (begin_step x) l) (put_back (begin_step x) now) _ refl refl e.messages (letters_quiet x given x.id (λ q. message.Outcome t.txn commit) t.parts (λ q. refl)) q

  hushed : (l now : Lent) → now.effects.messages ≡ l.effects.messages → K l → K now
  hushed l now e q = silent x given (put_back (begin_step x) l) (put_back (begin_step x) now) refl refl e q

  keeps_writes : (t : Live) (l : Lent) → K l → K (keep_writes catalogue x.id t l)
  unfolding keep_writes
  keeps_writes t l q = hushed l _ refl q

  decides : (t : Live) → K (decide catalogue x.id t (lent_at x))
  decides t = decide-cases K catalogue x.id t (lent_at x) (λ e. ends t Committed true _ _ (decided-ends x.id t (lent_at x)) begins) (λ e. ends t Committed true _ _ (decided-ends x.id t _) (keeps_writes t (lent_at x) begins))

  drops : (o : Stepped) → o.site.live ≡ [] → o.site.views ≡ x.views → Local x given o → Local x given (drop_view o)
  unfolding drop_view
  drops o none same l = record {
    id = l.id;
    rises = l.rises;
    origin = l.origin;
    tidy = record { held = λ v e. cc; waiting = λ i e. cc; inviting = λ b e. cc };
    held = λ v e. cc;
    waiting = λ i e. cc;
    inviting = λ b e. cc;
    sent = λ m h. ((l.sent m h).0, dropped m.message (l.sent m h).1);
  }
    where
      dropped : (m : Message) → MaySend x given o.site.views m → MaySend x given (drop_view o).site.views m
      dropped (message.Invite i) q = q
      dropped (message.Accept i) q = q
      dropped (message.Stale i w) q = q
      dropped (message.ViewCommit i ms) q = absurd (let a = q.0 in let b = (tidy.inviting (i, ms) a).1 in let c = q.1 in let d = ap (λ (v : ViewState). v.held) same in cc)
      dropped m q = tt

  invites : (o : Stepped) → is_spent x.views ≡ false → Left x o → Local x given o → Local x given (start_inviting catalogue (next_view x) o)
  unfolding start_inviting
  invites o spent left l =
      let up : AtMost o.site.promise (next_view x) = raised in
      record {
        id = l.id;
        rises = raised_from;
        origin = inr (inl refl);
        tidy = record {
          held = λ v e. let a = ap (λ (v : ViewState). v.held) left.views in cc;
          waiting = λ i e. let a = ap (λ (v : ViewState). v.waiting) left.views in cc;
          inviting = λ b e. invited b e;
        };
        held = λ v e. let a = ap (λ (v : ViewState). v.held) left.views in cc;
        waiting = λ i e. let a = ap (λ (v : ViewState). v.waiting) left.views in cc;
        inviting = λ b e. inr (inl (new b e));
        sent = λ m h. ⊎_elim (λ old. ((l.sent m old).0, may_rise x given o.site.views (with_invitation (next_view x) o.site.id o.site.views) m.message up (ap (λ (v : ViewState). v.held) left.views) (l.sent m old).1))
            (λ more. let r = map_has (λ (q : ℕ). letter o.site.id q (message.Invite (next_view x))) (other_sites catalogue o.site.id) m more in
            rw (← r.2) (l.id, (AtMost-refl (next_view x), refl)))
            (has_cases o.effects.messages (letters o.site.id (λ q. message.Invite (next_view x)) (other_sites catalogue o.site.id)) m h);
      }
    where
      above : Precedes x.promise (next_view x)
      above = omega arith

      raised_from : AtMost x.promise (next_view x)
      raised_from = Precedes-at_most x.promise (next_view x) above

      raised : AtMost o.site.promise (next_view x)
      raised = rw (ap (λ (v : ViewState). v.promise) left.views) raised_from

      invited : (b : ViewId × List ℕ) → Some (next_view x, o.site.id ∷ []) ≡ Some b → (b.0 ≡ next_view x) × (o.site.held ≡ None) × (o.site.waiting ≡ None) × (b.0.site ≡ o.site.id) × Has b.1 o.site.id
      invited b e = let q : (next_view x, o.site.id ∷ []) ≡ b = grind (arith, e) in rw (← q) (refl, ap (λ (v : ViewState). v.held) left.views, ap (λ (v : ViewState). v.waiting) left.views, sym l.id, has_one o.site.id)

      new : (b : ViewId × List ℕ) → Some (next_view x, o.site.id ∷ []) ≡ Some b → IsNew x b
      new b e = let q : (next_view x, o.site.id ∷ []) ≡ b = grind (arith, e) in rw (← q) (above, refl, ap (λ n. n ∷ []) l.id)

  accepts : (from : ℕ) (id : ViewId) (o : Stepped) → Comes given from (message.Invite id) → view_before x.promise id ≡ true → Left x o → Local x given o → Local x given (accept from id o)
  unfolding accept
  accepts from id o c e left l =
      let above = from_before x.promise id e in
      let up_from : AtMost x.promise id = Precedes-at_most x.promise id above in
      let up : AtMost o.site.promise id = rw (ap (λ (v : ViewState). v.promise) left.views) up_from in
      let none = ap (λ (v : ViewState). v.held) left.views in
      let not_inviting = ap (λ (v : ViewState). v.inviting) left.views in
      record {
        id = l.id;
        rises = up_from;
        origin = inr (inr (from, c));
        tidy = record {
          held = λ v e. cc;
          waiting = λ i e. let q : id ≡ i = grind (arith, e) in (sym q, none, not_inviting);
          inviting = λ b e. cc;
        };
        held = λ v e. cc;
        waiting = λ i e. let q : id ≡ i = grind (arith, e) in inr (rw (← q) ((from, c), above));
        inviting = λ b e. cc;
        sent = λ m h. ⊎_elim (λ old. ((l.sent m old).0, may_rise x given o.site.views (with_wait id o.site.views) m.message up none (l.sent m old).1))
            (λ more. rw (← (has_one_is (letter o.site.id from (message.Accept id)) m more)) (l.id, AtMost-refl id))
            (has_cases o.effects.messages (letter o.site.id from (message.Accept id) ∷ []) m h);
      }

  one_more : (words : Message) (to : ℕ) → MaySend x given x.views words → Local x given (record (begin_step x) { effects = record (begin_step x).effects { messages = letter x.id to words ∷ [] } })
  one_more words to may = record {
    id = refl;
    rises = AtMost-refl x.promise;
    origin = inl refl;
    tidy = tidy;
    held = λ v e. inl e;
    waiting = λ i e. inl e;
    inviting = λ b e. inl e;
    sent = λ m h. rw (← (has_one_is (letter x.id to words) m h)) (refl, may);
  }

  still_invites : (from : ℕ) (id : ViewId) (old b : ViewId × List ℕ) → Invites old → (b ≡ old) ⊎ ((id ≡ b.0) × (b.0 ≡ old.0) × (b.1 ≡ put_number from old.1)) → Invites b
  still_invites from id old b t h =
      ⊎_elim (λ (same : b ≡ old). rw same t)
      (λ (more : (id ≡ b.0) × (b.0 ≡ old.0) × (b.1 ≡ put_number from old.1)). (more.1 ∙ t.0, t.1, t.2, ap (λ (v : ViewId). v.site) more.1 ∙ t.3, rw more.2 (put_keeps from old.1 x.id t.4)))
      h

  one_more_beside : (to : ℕ) (words : Message) → is_quiet words ≡ true → (o : Stepped) → o.site.id ≡ x.id → o.site.views ≡ x.views → o.effects.messages ≡ letter x.id to words ∷ [] → Local x given o
  one_more_beside to words quiet o i v ms = beside x given (begin_step x) o (letter x.id to words ∷ []) i v ms (letter_quiet x given x.id to words quiet) begins

  accepteds : (from : ℕ) (id : ViewId) → Comes given from (message.Accept id) → Local x given (on_accept from id (begin_step x))
  unfolding on_accept
  accepteds from id c = record {
    id = refl;
    rises = AtMost-refl x.promise;
    origin = inl refl;
    tidy = record {
      held = λ v e. let t = tidy.held v e in let n : x.inviting ≡ None = t.2 in (t.0, t.1, rw n refl, t.3);
      waiting = λ i e. let t = tidy.waiting i e in let n : x.inviting ≡ None = t.2 in (t.0, t.1, rw n refl);
      inviting = λ b e. let old = grown_from from id x.inviting b e in still_invites from id old.0 b (tidy.inviting old.0 old.1) (grown from id old.0 x.inviting b old.1 e);
    };
    held = λ v e. inl e;
    waiting = λ i e. inl e;
    inviting = λ b e.
        let old = grown_from from id x.inviting b e in
        ⊎_elim (λ (same : b ≡ old.0). inl (old.1 ∙ ap (λ (p : ViewId × List ℕ). Some p) (sym same)))
        (λ (more : (id ≡ b.0) × (b.0 ≡ old.0.0) × (b.1 ≡ put_number from old.0.1)).
        inr (inr (old.0, from, old.1, c ∙ ap (λ i. input.Message from (message.Accept i)) more.0, more.1, (λ a q. put_only from old.0.1 a (rw more.2 at q)))))
        (grown from id old.0 x.inviting b old.1 e);
    sent = λ m h. absurd (has_none m h);
  }

  holds : (from : ℕ) (id : ViewId) (members : List ℕ) → Comes given from (message.ViewCommit id members) → (is_view x.waiting id && has members x.id) ≡ true → Local x given (hold (record { id = id; members = members }) (begin_step x))
  unfolding hold
  holds from id members c e =
      let both = both_true _ _ e in
      let t = tidy.waiting id (is_view_is x.waiting id both.0) in
      record {
        id = refl;
        rises = AtMost-refl x.promise;
        origin = inl refl;
        tidy = record {
          held = λ v q. let s : record { id = id; members = members } ≡ v = grind (arith, q) in rw (← s) (t.0, refl, refl, has_from_test members x.id both.1);
          waiting = λ i q. cc;
          inviting = λ b q. cc;
        };
        held = λ v q. let s : record { id = id; members = members } ≡ v = grind (arith, q) in inr (inr (rw (← s) (from, c)));
        waiting = λ i q. cc;
        inviting = λ b q. cc;
        sent = λ m h. absurd (has_none m h);
      }

  fixes : (view : View) → given ≡ input.Tick → x.inviting ≡ Some (view.id, view.members) → Local x given (fix view (begin_step x))
  unfolding fix hold
  fixes view c e =
      let t = tidy.inviting (view.id, view.members) e in
      record {
        id = refl;
        rises = AtMost-refl x.promise;
        origin = inl refl;
        tidy = record {
          held = λ v q. let s : view ≡ v = grind (arith, q) in rw (← s) (t.0, refl, refl, t.4);
          waiting = λ i q. cc;
          inviting = λ b q. cc;
        };
        held = λ v q. let s : view ≡ v = grind (arith, q) in inr (inl (rw (← s) e));
        waiting = λ i q. cc;
        inviting = λ b q. cc;
        sent = λ m h.
            let r = map_has (λ (q : ℕ). letter x.id q (message.ViewCommit view.id view.members)) (filter (λ q. not (q == x.id)) view.members) m h in
            rw (← r.2) (refl, (e, refl));
      }

  unwaits : Local x given (record (begin_step x) { site = record x { views = without_wait x.views } })
  unwaits = record {
    id = refl;
    rises = AtMost-refl x.promise;
    origin = inl refl;
    tidy = record { held = λ v e. let t = tidy.held v e in (t.0, refl, t.2, t.3); waiting = λ i e. cc; inviting = λ b e. let t = tidy.inviting b e in (t.0, t.1, refl, t.3, t.4) };
    held = λ v e. inl e;
    waiting = λ i e. cc;
    inviting = λ b e. inl e;
    sent = λ m h. absurd (has_none m h);
  }

  -- another monitor, or another number seen, and quiet messages
  other_views : (o : Stepped) → o.site.id ≡ x.id → o.site.promise ≡ x.promise → o.site.held ≡ x.held → o.site.waiting ≡ x.waiting → o.site.inviting ≡ x.inviting → ((m : Sent) → Has o.effects.messages m → (m.from ≡ x.id) × MaySend x given o.site.views m.message) → Local x given o
  other_views o id p h w i sent = record {
    id = id;
    rises = rw p (AtMost-refl x.promise);
    origin = inl p;
    tidy = record { held = rw (h, p, w, i, id) tidy.held; waiting = rw (h, p, w, i) tidy.waiting; inviting = rw (h, p, w, i, id) tidy.inviting };
    held = λ v e. inl (sym h ∙ e);
    waiting = λ j e. inl (sym w ∙ e);
    inviting = λ b e. inl (sym i ∙ e);
    sent = sent;
  }

  sends_none : (o : Stepped) → o.effects.messages ≡ [] → (m : Sent) → Has o.effects.messages m → (m.from ≡ x.id) × MaySend x given o.site.views m.message
  sends_none o e m h = absurd (has_none m (rw e at h))

  probes : (view : View) → Local x given (probe_all catalogue view (begin_step x))
  probes view =
      other_views (probe_all catalogue view (begin_step x)) refl refl refl refl refl
      (λ m h. let q = letters_quiet x given x.id (λ q. message.Probe view.id) (other_sites catalogue x.id) (λ q. refl) m h in (q.0, quiet-may x given (with_monitor x.views) m.message q.1))

  starts_refresh : (view : View) (rec : ℕ) (o : Stepped) → Local x given o → Local x given (start_refresh catalogue view rec o)
  unfolding start_refresh
  starts_refresh view rec o l =
      beside x given o _ _ refl refl refl (letters_quiet x given o.site.id (λ q. message.RefreshRequest view.id rec) (other_holders catalogue o.site rec) (λ q. refl)) l

  ends_refresh : (r : Refreshing) (own : Stored) (o : Stepped) → Local x given o → Local x given (end_refresh catalogue r own o)
  unfolding end_refresh unlist
  ends_refresh r own o l = silent x given _ _ refl refl refl (take-cases (Local x given) catalogue r own o (silent x given o _ refl refl refl l) l (silent x given o _ refl refl refl l))

  ends_here : (from : ℕ) (txn : TxnId) (commit : Bool) (doubt : Option Doubt) → Local x given (end_here from txn commit doubt (begin_step x))
  unfolding end_here
  ends_here from txn true None = one_more_beside from (message.Ack txn) refl _ refl refl refl
  ends_here from txn false None = silent x given (begin_step x) _ refl refl refl begins
  ends_here from txn true (Some d) = one_more_beside from (message.Ack txn) refl _ refl refl refl
  ends_here from txn false (Some d) = silent x given (begin_step x) _ refl refl refl begins

  writes_at : (t : Live) (p : Pending) (rec : ℕ) (sites : List ℕ) (l : Lent) → K l → K (write_at x.id t p rec sites l)
  unfolding write_at
  writes_at t p rec sites l q = beside x given (put_back (begin_step x) l) (put_back (begin_step x) _) _ refl refl refl (letters_quiet x given x.id (λ q. message.WriteRequest t.txn t.view p.number rec) sites (λ q. refl)) q

  resends : (d : Decision) (o : Stepped) → Local x given o → Local x given (put_back o (resend_one o.site.id d (lent o)))
  unfolding resend_one
  resends d o l = beside x given o _ _ refl refl refl (letters_quiet x given o.site.id (λ q. message.Outcome d.txn true) d.waiting (λ q. refl)) l

  back_may : (from : ℕ) (m : Message) → SendsBack x given from m → MaySend x given x.views m
  back_may from _ (SendsBack.stale id c e) = ((from, c), refl)
  back_may from _ (SendsBack.accept_again id c e) = AtMost-same id x.promise (tidy.waiting id (is_view_is x.waiting id e)).0
  back_may from m t = tt

  again_quiet : (o : Stepped) (to : ℕ) (m : Message) → AsksAgain catalogue x given o to m → is_quiet m ≡ true
  again_quiet o to _ (AsksAgain.refresh view r e h v q) = refl
  again_quiet o to m a = refl

  pub table : Table catalogue x given (Local x given)
  unfolding start_txn take_lock complete read_at prepare_parts mark_calls grant on_stale
  table = record {
    sends_back = λ from m t. one_more m from (back_may from m t);
    asks_again = λ o ms all p. beside x given o _ ms refl refl refl (λ m h. let q = all m h in (q.0, again_quiet o m.to m.message q.1)) p;
    drop_view = λ l e z p. drops (put_back (begin_step x) l) e refl p;
    start_inviting = invites;
    accept = accepts;
    accepted = accepteds;
    seen = λ from id promise c. other_views (on_stale promise (begin_step x)) refl refl refl refl refl (sends_none (on_stale promise (begin_step x)) refl);
    hold = holds;
    heard = λ from view c e. other_views (change_views (with_heard from) (begin_step x)) refl refl refl refl refl (sends_none (change_views (with_heard from) (begin_step x)) refl);
    fix = fixes;
    without_wait = λ id c i w. unwaits;
    probe = λ view c e. probes view;
    start_refresh = λ view rec o e h l. starts_refresh view rec o l;
    end_refresh = λ rec r own o e a d v l. ends_refresh r own o l;
    keep_answer = λ from view rec stored r c e f g. silent x given (begin_step x) _ refl refl refl begins;
    grant_read = λ from txn view number rec stored c e n v f u. one_more_beside from _ refl _ refl refl refl;
    grant_write = λ from txn view number rec stored c e n v f u. one_more_beside from _ refl _ refl refl refl;
    vote_reading = λ from txn view number reads writes part c e n d f v a w. one_more_beside from (message.Vote part.txn) refl _ refl refl refl;
    vote_writing = λ from txn view number reads writes part c e n d f v a w. one_more_beside from (message.Vote part.txn) refl _ refl refl refl;
    end_here = λ from txn commit c. ends_here from txn commit (doubt_of txn x.doubts);
    coordinator = record {
      begin = λ port view e g u. hushed (lent_at x) _ refl begins;
      answers = λ words port why y. hushed (lent_at x) _ refl begins;
      take_lock = λ t rec exclusive stored h i a v c. hushed (lent_at x) _ refl begins;
      complete = λ t p deed l h g y e q. hushed l _ refl q;
      read_at = λ t p rec q h n r a w c o y. one_more_beside q _ refl _ refl refl refl;
      write_at = λ t p rec value l h n w a e o d y v q. writes_at t p rec (other_holders catalogue x rec) l q;
      prepare_parts = λ t p h i g e. beside x given (begin_step x) _ _ refl refl refl (letters_quiet x given x.id (prepare_for catalogue t p) t.parts (λ q. refl)) begins;
      still_waits = λ t p from h e m f c. hushed (lent_at x) _ refl begins;
      decide = λ t h d. decides t;
      close = λ t why l h a z y q. ends t why false l _ (close-ends x.id t why l) q;
      mark_calls = λ l c z q. hushed l _ refl q;
      acknowledge = λ from txn c w. hushed (lent_at x) _ refl begins;
    };
    answers_inviting = λ port c s l. silent x given _ _ refl refl refl l;
    resend_one = λ d o c h l. resends d o l;
  }

pub local-step : (catalogue : Catalogue) (x : SiteState) (given : Input) → Tidy x → Local x given (step catalogue x given)
local-step catalogue x given tidy = step-keeps catalogue x given (Local x given) (table catalogue x given tidy) (begins catalogue x given tidy)
