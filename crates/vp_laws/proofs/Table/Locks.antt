-- The locks of a site after a step, and which locks of transactions are released.
use Rattle.std.proofs.Common.{◌≡◌, ◌≢◌, ◌⊎◌, ◌∙◌, ap, sym, subst, ℕ, Bool, true, false, cond, List, [], ◌∷◌, ◌++◌, map, refl, inl, inr, ⊎_elim}
use Rattle.std.specs.Prelude.{Option, Some, None, filter, not, ◌==◌, ◌&&◌, ◌||◌, nat_lt}
use Rattle.std.specs.List.{list_all}
use Rattle.std.proofs.lemmas.Bool.{eqb-true}
use Rattle.vp_laws.proofs.Journal.Changed.{changed_by, operation_there, change_there, written_changed, read_alters_none, alters}
use Rattle.vp_model.specs.Types.{Commit, Change, ViewId, TxnId, View, Message, Input, Stored, Lock, Part, Pending, Live, Ending, Refreshing, Doubt}
use Rattle.vp_base.specs.declared.site.Ending.TheVariants.{Committed}
use Rattle.vp_model.specs.Types.input
use Rattle.vp_model.specs.Types.message
use Rattle.vp_model.specs.Types.op
use Rattle.vp_model.specs.Types.owner
use Rattle.vp_model.specs.Words.{same_txn, same_owner, txn_before, put_at, put_number, for_each, change_first, without_first, put, view_before, value_at, keys, has, opening}
use Rattle.vp_model.specs.Catalogue.{Catalogue}
use Rattle.vp_model.specs.Durable.{doubt_of, without_doubt}
use Rattle.vp_model.specs.Locks.{conflict, holds, with_lock, without_owner, without_guard}
use Rattle.vp_model.specs.Site.{ViewState, ParticipantState, CoordinatorState, Here, SiteState, Lent, Stepped, begin_step, put_back}
use Rattle.vp_model.specs.Transactions.{Deed, last_changes, entry_of, wait_for, writes_held, keep_writes, complete}
use Rattle.vp_model.specs.Refresh.{newest, unlist, end_refresh, start_refresh, other_holders}
use Rattle.vp_model.specs.Views.{part_of, drop_view, start_inviting, hold, has_part, has_doubt}
use Rattle.vp_model.specs.Calls.{begun, start_txn, take_lock, read_at, write_at, prepare_parts}
use Rattle.vp_model.specs.Messages.{put_part, with_vote, with_new_doubt, with_answer, has_all_locks, accept, on_accept, on_stale, grant, end_here}
use Rattle.vp_model.specs.Step.{fix, mark, marked_call, mark_calls, ask_again, resend_one, known, inquire, step}
use Rattle.vp_laws.specs.Votes.{is_commit}
use Rattle.vp_records.proofs.Held.{replaced_keys, written_keys, outcome_keys}
use Rattle.vp_laws.proofs.Lists.Members.{Has, has_none, has_left, has_first, has_more, has_cons, has_cases, has_one_is, map_has, filter_keeps, find_true, any_true, any_false, both_true, either_true}
use Rattle.vp_laws.proofs.Lists.Views.{Precedes, is_view_is}
use Rattle.vp_model.proofs.SameTxn.{same_txn-is, same_txn-turned}
use Rattle.vp_laws.proofs.Lists.Names.{Apart, named, apart_without, without_gone, change_cases, apart_change, apart_more, apart_mark}
use Rattle.vp_laws.proofs.Lists.Changes.{without_first_has, put_has, put_new, put_old, mapped_has}
use Rattle.vp_laws.proofs.Moves.Frames.{Ends, close-ends, decided-ends, decide-cases, judged, take-cases}
use Rattle.vp_laws.proofs.Lists.LockTables.{same_owner_is, HasLock, free_from_none, lock_kept, lock_taken, lock_stays}
use Rattle.vp_laws.proofs.Moves.LocalViews.{Tidy, none_refreshed}
use Rattle.vp_laws.proofs.Table.LocalLocks.{IsKnown, LowerDoubt, OwnLocks, LocksOk, takes, renews, shares_change, views_change, ends, ends_part, leaves, begins_refresh, ends_refresh}
use Rattle.vp_laws.proofs.Moves.Table.{record_of, Comes, Left, Joined, next_name, next_view, lent_at, Handled, Reads, Changes, remaining, Locked, Completes, Back, Table}
use Rattle.vp_laws.proofs.Moves.Rows.{step-keeps}
use Rattle.vp_laws.proofs.Table.Led.{Led}
use Rattle.vp_laws.proofs.Table.Below.{Below}
use Rattle.vp_laws.proofs.Table.Endings.{NotLive}
use Rattle.vp_laws.proofs.Table.Shares.{OutcomeComes}
use Rattle.vp_laws.proofs.Table.Leaves.{Uses, unused, uses_same, invites_only, accepts_only}
use Rattle.vp_laws.proofs.Lists.Numbers.{one_above}
use Rattle.vp_laws.proofs.Moves.Calls.{read_not_write_asked, no_commit_writes, same_writes, done, reads_same, writes_same, read_not_write}
use Rattle.vp_laws.proofs.Lists.Pairs.{not_copied}

-- why a transaction's lock is gone: its outcome came, the site has left its view, or it was of this site and is not live
pub data Gone (x : SiteState) (given : Input) (o : Stepped) (txn : TxnId) : Type 0 where
  over : OutcomeComes given txn → Gone x given o txn
  left : ((i : ViewId) → Uses o.site i → Precedes x.promise i) → Gone x given o txn
  ended : (t : Live) → Has x.live t → t.txn ≡ txn → NotLive o.site.live txn → Gone x given o txn

abbrev pub LocksAt : Catalogue → SiteState → Type 0
LocksAt catalogue x = LocksOk catalogue x.live x.parts x.doubts x.refresh x.held (keys x.copies) x.locks

pub record Guards (catalogue : Catalogue) (x : SiteState) (given : Input) (o : Stepped) : Type 0 where
  pub apart : Apart o.site.live
  pub ok : LocksAt catalogue o.site
  -- no record gets its first copy here
  pub copied : keys o.site.copies ≡ keys x.copies
  -- a lock of a transaction stays, or is gone for a reason
  pub stays : (rec : ℕ) (exclusive : Bool) (txn : TxnId) → HasLock rec exclusive (owner.Txn txn) x.locks → HasLock rec exclusive (owner.Txn txn) o.site.locks ⊎ Gone x given o txn

change_names : (t : Live) (live : List Live) (u : Live) → Has live u → (v : Live) × Has (change_first (named t.txn) (λ u. t) live) v × (v.txn ≡ u.txn)
change_names t [] u h = absurd (has_none u h)
change_names t (a ∷ live) u h = go (same_txn a.txn t.txn) refl (λ q. change_names t live u q)
  where
    go : (b : Bool) → same_txn a.txn t.txn ≡ b → (Has live u → (v : Live) × Has (change_first (named t.txn) (λ u. t) live) v × (v.txn ≡ u.txn)) → (v : Live) × Has (cond b (t ∷ live) (a ∷ change_first (named t.txn) (λ u. t) live)) v × (v.txn ≡ u.txn)
    go true e rest = ⊎_elim (λ (one : a ≡ u). (t, has_first t live, sym (same_txn-is a.txn t.txn e) ∙ ap (λ (t : Live). t.txn) one)) (λ more. (u, has_more t live u more, refl)) (has_cons a live u h)
    go false e rest = ⊎_elim (λ (one : a ≡ u). (a, has_first a _, ap (λ (t : Live). t.txn) one)) (λ more. let r = rest more in (r.0, has_more a _ r.0 r.1, r.2)) (has_cons a live u h)

weaker : (rec : ℕ) (txn : TxnId) (locks : List Lock) → HasLock rec true (owner.Txn txn) locks → HasLock rec false (owner.Txn txn) locks
weaker rec txn locks h = record { lock = h.lock; has = h.has; on = h.on; by = h.by; strong = λ e. cc }

module _ (catalogue : Catalogue) (x : SiteState) (given : Input) (tidy : Tidy x) (led : Led x) (below : Below x) (apart : Apart x.live) (ok : LocksAt catalogue x) (outcomes : (from : ℕ) (txn : TxnId) (commit : Bool) → Comes given from (message.Outcome txn commit) → NotLive x.live txn) (awaited : (i : ViewId) → x.waiting ≡ Some i → Precedes opening i × ((d : Doubt) → Has x.doubts d → Precedes d.view i)) (invited : (b : ViewId × List ℕ) → x.inviting ≡ Some b → Precedes opening b.0 × ((d : Doubt) → Has x.doubts d → Precedes d.view b.0)) where
  abbrev P : Stepped → Type 0
  P = Guards catalogue x given

  pub starts : P (begin_step x)
  starts = record { apart = apart; ok = ok; copied = refl; stays = λ rec e txn h. inl h }

  gone_on : (o e : Stepped) (txn : TxnId) → e.site.views ≡ o.site.views → ((t : Live) → Has e.site.live t → (u : Live) × Has o.site.live u × (u.txn ≡ t.txn)) → Gone x given o txn → Gone x given e txn
  gone_on o e txn v names (Gone.over c) = Gone.over c
  gone_on o e txn v names (Gone.left f) = Gone.left (λ i u. f i (uses_same e.site o.site i (ap (λ (v : ViewState). v.held) v) (ap (λ (v : ViewState). v.waiting) v) (ap (λ (v : ViewState). v.inviting) v) u))
  gone_on o e txn v names (Gone.ended t h is n) = Gone.ended t h is (λ u k g. let r = names u k in n r.0 r.1 (r.2 ∙ g))

  -- nothing changes of what is spoken of
  same : (o e : Stepped) → e.site.views ≡ o.site.views → e.site.participant ≡ o.site.participant → e.site.live ≡ o.site.live → e.site.refresh ≡ o.site.refresh → keys e.site.copies ≡ keys o.site.copies → e.site.locks ≡ o.site.locks → P o → P e
  same o e v p l r c k g = record {
    apart = rw l g.apart;
    ok = rw (l, ap (λ (p : ParticipantState). p.parts) p, ap (λ (p : ParticipantState). p.doubts) p, r, ap (λ (v : ViewState). v.held) v, c, k) g.ok;
    copied = c ∙ g.copied;
    stays = λ rec z txn h. ⊎_elim (λ still. inl (rw k still)) (λ gone. inr (gone_on o e txn v (λ t q. (t, rw l at q, refl)) gone)) (g.stays rec z txn h);
  }

  -- other views at first, with no record under refresh where another one is held
  viewed : (e : Stepped) → e.site.participant ≡ x.participant → e.site.live ≡ x.live → e.site.refresh ≡ x.refresh → e.site.copies ≡ x.copies → e.site.locks ≡ x.locks → ((r : Refreshing) → Has x.refresh r → x.held ≡ e.site.held) → P e
  viewed e p l r c k held = record {
    apart = rw l apart;
    ok = rw (l, ap (λ (p : ParticipantState). p.parts) p, ap (λ (p : ParticipantState). p.doubts) p, r, ap (λ (c : List (ℕ × Stored)). keys c) c, k) (views_change catalogue x.live x.parts x.doubts x.refresh x.held (keys x.copies) x.locks ok e.site.held held);
    copied = ap (λ (c : List (ℕ × Stored)). keys c) c;
    stays = λ rec z txn h. inl (rw k h);
  }

  -- nothing is under refresh while no view is held
  none_under_refresh : x.held ≡ None → (now : Option View) → (r : Refreshing) → Has x.refresh r → x.held ≡ now
  none_under_refresh e now r h = absurd (none_refreshed x (λ r h. let q = ok.lower r h in (q.0, q.1)) e r h)

  drops : (l : Lent) → l.live ≡ [] → P (put_back (begin_step x) l) → P (drop_view (put_back (begin_step x) l))
  unfolding drop_view
  drops l e g = record {
    apart = g.apart;
    ok = leaves catalogue l.live x.parts x.doubts x.refresh x.held (keys l.copies) l.locks g.ok x.participant refl refl e;
    copied = g.copied;
    stays = λ rec z txn h. inr (Gone.left (λ i u. absurd (unused _ i refl refl refl u)));
  }

  -- without a view, after it was left
  moved_on : (o e : Stepped) → Left x o → e.site.participant ≡ o.site.participant → e.site.live ≡ o.site.live → e.site.refresh ≡ o.site.refresh → e.site.copies ≡ o.site.copies → e.site.locks ≡ o.site.locks → ((i : ViewId) → Uses e.site i → Precedes x.promise i) → P o → P e
  moved_on o e gone p l r c k uses g = record {
    apart = rw l g.apart;
    ok = rw (l, ap (λ (p : ParticipantState). p.parts) p, ap (λ (p : ParticipantState). p.doubts) p, r, ap (λ (c : List (ℕ × Stored)). keys c) c, k) (views_change catalogue o.site.live o.site.parts o.site.doubts o.site.refresh o.site.held (keys o.site.copies) o.site.locks g.ok e.site.held (λ a h. absurd (has_none a (rw gone.refresh at h))));
    copied = ap (λ (c : List (ℕ × Stored)). keys c) c ∙ g.copied;
    stays = λ rec z txn h. inr (Gone.left uses);
  }

  invites : (o : Stepped) → Left x o → P o → P (start_inviting catalogue (next_view x) o)
  unfolding start_inviting
  invites o l g = moved_on o (start_inviting catalogue (next_view x) o) l refl refl refl refl refl (invites_only catalogue x given o l) g

  accepts : (from : ℕ) (id : ViewId) (o : Stepped) → view_before x.promise id ≡ true → Left x o → P o → P (accept from id o)
  unfolding accept
  accepts from id o e l g = moved_on o (accept from id o) l refl refl refl refl refl (accepts_only catalogue x given from id o e l) g

  -- refresh
  finishes : (r : Refreshing) (own : Stored) (o : Stepped) → P o → P (end_refresh catalogue r own o)
  unfolding end_refresh unlist
  finishes r own o p = let g = take-cases P catalogue r own o (same o _ refl refl refl refl (replaced_keys r.rec (newest own r.answers) o.site.copies) refl p) p (same o _ refl refl refl refl refl refl p) in unguards (judged catalogue r own o) g
    where
      unguards : (n : Stepped) → P n → P (record n { site = record n.site { here = record n.site.here { locks = without_guard r.rec n.site.locks }; refresh = filter (λ other. not (other.rec == r.rec)) n.site.refresh } })
      unguards n g = record {
        apart = g.apart;
        ok = ends_refresh catalogue n.site.live n.site.parts n.site.doubts n.site.refresh n.site.held (keys n.site.copies) n.site.locks g.ok r.rec;
        copied = g.copied;
        stays = λ rec z txn h. ⊎_elim (λ still. inl (guard_not rec z txn n.site.locks still)) (λ gone. inr (gone_on n _ txn refl (λ t q. (t, q, refl)) gone)) (g.stays rec z txn h);
      }
        where
          of_txn : (b : Bool) → not (b && false) ≡ true
          of_txn true = refl
          of_txn false = refl

          guard_not : (rec : ℕ) (z : Bool) (txn : TxnId) (locks : List Lock) → HasLock rec z (owner.Txn txn) locks → HasLock rec z (owner.Txn txn) (without_guard r.rec locks)
          guard_not rec z txn locks h = record { lock = h.lock; has = filter_keeps _ locks h.lock h.has (rw h.by (of_txn (h.lock.rec == r.rec))); on = h.on; by = h.by; strong = h.strong }

  lower_doubt : (view : View) (o : Stepped) → Joined x view o → (txn : TxnId) → IsKnown o.site.live o.site.parts o.site.doubts txn → LowerDoubt o.site.doubts view.id txn
  lower_doubt view o j txn k = go k
    where
      none : x.held ≡ None
      none = ⊎_elim (λ e. (tidy.waiting view.id e).1) (λ e. (tidy.inviting (view.id, view.members) e).1) j.origin

      below_it : (d : Doubt) → Has x.doubts d → Precedes d.view view.id
      below_it d h = ⊎_elim (λ e. (awaited view.id e).1 d h) (λ e. (invited (view.id, view.members) e).1 d h) j.origin

      go : IsKnown o.site.live o.site.parts o.site.doubts txn → LowerDoubt o.site.doubts view.id txn
      go (inl (t, h, e)) = absurd (let q = led.live t (rw j.live at h) in let z = q.1 in let n = none in cc)
      go (inr (inl (p, h, e))) = absurd (let q = below.parts p (rw (ap (λ (p : ParticipantState). p.parts) j.participant) at h) in let z = q.1 in let n = none in cc)
      go (inr (inr (d, h, e))) = (d, h, e, below_it d (rw (ap (λ (p : ParticipantState). p.doubts) j.participant) at h))

  refreshes : (view : View) (rec : ℕ) (o : Stepped) → Joined x view o → P o → P (start_refresh catalogue view rec o)
  unfolding start_refresh
  refreshes view rec o j g = record {
    apart = g.apart;
    ok = begins_refresh catalogue o.site.live o.site.parts o.site.doubts o.site.refresh o.site.held (keys o.site.copies) o.site.locks g.ok rec view j.held
        (⊎_elim (λ e. (awaited view.id e).0) (λ e. (invited (view.id, view.members) e).0) j.origin)
        (λ l txn h e. lower_doubt view o j txn (g.ok.owners l txn h e)) (put same_rec before_rec fresh o.site.refresh)
        (λ r h. ⊎_elim (λ (e : r ≡ fresh). inl (ap (λ (r : Refreshing). r.rec) e)) (λ old. inr old) (put_has same_rec before_rec fresh o.site.refresh r h))
        (λ r h. split r h (rec == r.rec) refl) (fresh, put_new same_rec before_rec fresh o.site.refresh, refl);
    copied = g.copied;
    stays = λ r z txn h. ⊎_elim (λ still. inl (lock_kept r z (owner.Txn txn) rec true owner.Refresh o.site.locks still)) (λ gone. inr (gone_on o (start_refresh catalogue view rec o) txn refl (λ t q. (t, q, refl)) gone)) (g.stays r z txn h);
  }
    where
      fresh : Refreshing
      fresh = record { rec = rec; answers = [] }

      same_rec : Refreshing → Refreshing → Bool
      same_rec a b = a.rec == b.rec

      before_rec : Refreshing → Refreshing → Bool
      before_rec a b = nat_lt a.rec b.rec

      split : (r : Refreshing) → Has o.site.refresh r → (b : Bool) → (rec == r.rec) ≡ b → (s : Refreshing) × Has (put same_rec before_rec fresh o.site.refresh) s × (s.rec ≡ r.rec)
      split r h true e = (fresh, put_new same_rec before_rec fresh o.site.refresh, eqb-true rec r.rec e)
      split r h false e = (r, put_old same_rec before_rec fresh o.site.refresh r h e, refl)

  keeps_answer : (rec from : ℕ) (stored : Stored) → P (record (begin_step x) { site = record x { refresh = map (with_answer rec from stored) x.refresh } })
  keeps_answer rec from stored = record {
    apart = apart;
    ok = record {
      apart = ok.apart;
      owners = ok.owners;
      doubted = ok.doubted;
      listed = λ r h. let q = map_has (with_answer rec from stored) x.refresh r h in rw (sym (ap (λ (r : Refreshing). r.rec) q.2) ∙ rec_same q.0) (ok.listed q.0 q.1);
      guard = λ l h e. let q = ok.guard l h e in (with_answer rec from stored q.0, mapped_has (with_answer rec from stored) x.refresh q.0 q.1, rec_same q.0 ∙ q.2);
      lower = λ r h. let q = map_has (with_answer rec from stored) x.refresh r h in let a = ok.lower q.0 q.1 in (a.0, a.1, a.2, (λ l u k on by. a.3 l u k (on ∙ sym (ap (λ (r : Refreshing). r.rec) q.2) ∙ rec_same q.0) by));
      own = ok.own;
    };
    copied = refl;
    stays = λ r z txn h. inl h;
  }
    where
      rec_same : (r : Refreshing) → (with_answer rec from stored r).rec ≡ r.rec
      rec_same r = go (r.rec == rec)
        where
          go : (b : Bool) → (cond b (record r { answers = put_at from stored r.answers }) r).rec ≡ r.rec
          go true = refl
          go false = refl

  -- parts
  -- the parts with one more, or with another one of its name
  put_known : (part : Part) (txn : TxnId) → ((p : Part) × Has x.parts p × (p.txn ≡ txn)) → (p : Part) × Has (put_part part x.parts) p × (p.txn ≡ txn)
  put_known part txn (p, h, e) = split (same_txn part.txn p.txn) refl
    where
      split : (b : Bool) → same_txn part.txn p.txn ≡ b → (p : Part) × Has (put_part part x.parts) p × (p.txn ≡ txn)
      split true is = (part, put_new (λ (a : Part) (b : Part). same_txn a.txn b.txn) (λ (a : Part) (b : Part). txn_before a.txn b.txn) part x.parts, same_txn-is part.txn p.txn is ∙ e)
      split false is = (p, put_old (λ (a : Part) (b : Part). same_txn a.txn b.txn) (λ (a : Part) (b : Part). txn_before a.txn b.txn) part x.parts p h is, e)

  grants : (from : ℕ) (txn : TxnId) (view : ViewId) (rec : ℕ) (exclusive : Bool) (words : Message) → conflict rec exclusive txn x.locks ≡ None → P (grant txn view rec exclusive words from (begin_step x))
  unfolding grant
  grants from txn view rec exclusive words free = go (has_part txn x.parts || has_doubt txn x.doubts) refl
    where
      one_more : Part
      one_more = record { txn = txn; view = view; voted = false }

      locked_ok : (parts : List Part) → LocksOk catalogue x.live parts x.doubts x.refresh x.held (keys x.copies) x.locks → IsKnown x.live parts x.doubts txn → LocksOk catalogue x.live parts x.doubts x.refresh x.held (keys x.copies) (with_lock rec exclusive (owner.Txn txn) x.locks)
      locked_ok parts was known = takes catalogue x.live parts x.doubts x.refresh x.held (keys x.copies) x.locks was rec exclusive txn (free_from_none rec exclusive txn x.locks free) known

      more_ok : LocksOk catalogue x.live (put_part one_more x.parts) x.doubts x.refresh x.held (keys x.copies) x.locks
      more_ok = shares_change catalogue x.live x.parts x.doubts x.refresh x.held (keys x.copies) x.locks ok (put_part one_more x.parts) x.doubts (λ u p. inl (put_known one_more u p)) (λ d h. h) ok.doubted

      kept : (rec2 : ℕ) (z : Bool) (u : TxnId) → HasLock rec2 z (owner.Txn u) x.locks → HasLock rec2 z (owner.Txn u) (with_lock rec exclusive (owner.Txn txn) x.locks)
      kept rec2 z u h = lock_kept rec2 z (owner.Txn u) rec exclusive (owner.Txn txn) x.locks h

      there : (has_part txn x.parts || has_doubt txn x.doubts) ≡ true → IsKnown x.live x.parts x.doubts txn
      there e = ⊎_elim
          (λ p. let q = any_true (λ (part : Part). same_txn part.txn txn) x.parts p in inr (inl (q.0, q.1, same_txn-is q.0.txn txn q.2)))
          (λ d. let q = any_true (λ (d : Doubt). same_txn d.txn txn) x.doubts d in inr (inr (q.0, q.1, same_txn-is q.0.txn txn q.2)))
          (either_true _ _ e)

      site : ParticipantState → SiteState
      site p = record x { here = record x.here { locks = with_lock rec exclusive (owner.Txn txn) x.locks }; participant = p }

      go : (b : Bool) → (has_part txn x.parts || has_doubt txn x.doubts) ≡ b → P (record { site = site (cond b x.participant (record x.participant { parts = put_part one_more x.parts })); effects = (grant txn view rec exclusive words from (begin_step x)).effects })
      go true e = record { apart = apart; ok = locked_ok x.parts ok (there e); copied = refl; stays = λ r z u h. inl (kept r z u h) }
      go false e = record { apart = apart; ok = locked_ok (put_part one_more x.parts) more_ok (inr (inl (one_more, put_new (λ (a : Part) (b : Part). same_txn a.txn b.txn) (λ (a : Part) (b : Part). txn_before a.txn b.txn) one_more x.parts, refl))); copied = refl; stays = λ r z u h. inl (kept r z u h) }

  -- votes
  shared : (e : Stepped) (p : ParticipantState) → e.site.participant ≡ p → e.site.views ≡ x.views → e.site.live ≡ x.live → e.site.refresh ≡ x.refresh → e.site.copies ≡ x.copies → e.site.locks ≡ x.locks → LocksOk catalogue x.live p.parts p.doubts x.refresh x.held (keys x.copies) x.locks → P e
  shared e p s v l r c k now = record {
    apart = rw l apart;
    ok = rw (l, ap (λ (p : ParticipantState). p.parts) s, ap (λ (p : ParticipantState). p.doubts) s, r, ap (λ (v : ViewState). v.held) v, ap (λ (c : List (ℕ × Stored)). keys c) c, k) now;
    copied = ap (λ (c : List (ℕ × Stored)). keys c) c;
    stays = λ rec z txn h. inl (rw k h);
  }

  voted_ok : (part : Part) → LocksOk catalogue x.live (with_vote part x.participant).parts x.doubts x.refresh x.held (keys x.copies) x.locks
  voted_ok part = shares_change catalogue x.live x.parts x.doubts x.refresh x.held (keys x.copies) x.locks ok _ x.doubts (λ u p. inl (put_known (record part { voted = true }) u p)) (λ d h. h) ok.doubted

  holds_has : (rec : ℕ) (txn : TxnId) (locks : List Lock) → holds rec true (owner.Txn txn) locks ≡ true → HasLock rec true (owner.Txn txn) locks
  holds_has rec txn locks e =
      let q = any_true (λ (lock : Lock). (lock.rec == rec) && (not true || lock.exclusive) && same_owner lock.owner (owner.Txn txn)) locks e in
      let a = three (q.0.rec == rec) q.0.exclusive (same_owner q.0.owner (owner.Txn txn)) q.2 in
      record { lock = q.0; has = q.1; on = eqb-true q.0.rec rec a.0; by = same_owner_is q.0.owner (owner.Txn txn) a.2; strong = λ z. a.1 }
    where
      three : (a b c : Bool) → (a && b && c) ≡ true → (a ≡ true) × (b ≡ true) × (c ≡ true)
      three true true true e = (refl, refl, refl)
      three true true false e = cc
      three true false c e = cc
      three false b c e = cc

  all_held : (recs : List ℕ) (txn : TxnId) → list_all (λ rec. holds rec true (owner.Txn txn) x.locks) recs ≡ true → (rec : ℕ) → Has recs rec → HasLock rec true (owner.Txn txn) x.locks
  all_held [] txn e rec h = absurd (has_none rec h)
  all_held (r ∷ recs) txn e rec h =
      let b = both_true (holds r true (owner.Txn txn) x.locks) (list_all (λ rec. holds rec true (owner.Txn txn) x.locks) recs) e in
      ⊎_elim (λ (one : r ≡ rec). rw (← one) (holds_has r txn x.locks b.0)) (λ more. all_held recs txn b.1 rec more) (has_cons r recs rec h)

  doubting_ok : (part : Part) (reads : List ℕ) (writes : List (ℕ × Change)) → has_doubt part.txn x.doubts ≡ false → has_all_locks x.locks part.txn reads writes ≡ true → LocksOk catalogue x.live (with_new_doubt part writes x.participant).parts (with_new_doubt part writes x.participant).doubts x.refresh x.held (keys x.copies) x.locks
  doubting_ok part reads writes certain all = shares_change catalogue x.live x.parts x.doubts x.refresh x.held (keys x.copies) x.locks ok _ _
      (λ u p. split u p (same_txn p.0.txn part.txn) refl)
      (λ d h. put_old same_name before_name new x.doubts d h (unlike_it d h))
      (λ d rec h k. ⊎_elim (λ (is : d ≡ new). rw (ap (λ (d : Doubt). d.txn) is) (all_held (keys writes) part.txn (both_true _ _ all).0 rec (rw (ap (λ (d : Doubt). d.writes) is) at k))) (λ old. ok.doubted d rec old k) (put_has same_name before_name new x.doubts d h))
    where
      new : Doubt
      new = (record { txn = part.txn; view = part.view; writes = writes })

      same_name : Doubt → Doubt → Bool
      same_name a b = same_txn a.txn b.txn

      before_name : Doubt → Doubt → Bool
      before_name a b = txn_before a.txn b.txn

      unlike_it : (d : Doubt) → Has x.doubts d → same_txn part.txn d.txn ≡ false
      unlike_it d h = same_txn-turned d.txn part.txn (any_false (λ (d : Doubt). same_txn d.txn part.txn) x.doubts certain d h)

      split : (u : TxnId) (p : (p : Part) × Has x.parts p × (p.txn ≡ u)) (b : Bool) → same_txn p.0.txn part.txn ≡ b → ((q : Part) × Has (filter (λ (other : Part). not (same_txn other.txn part.txn)) x.parts) q × (q.txn ≡ u)) ⊎ ((d : Doubt) × Has (put same_name before_name new x.doubts) d × (d.txn ≡ u))
      split u (p, h, e) true is = inr (new, put_new same_name before_name new x.doubts, sym (same_txn-is p.txn part.txn is) ∙ e)
      split u (p, h, e) false is = inl (p, filter_keeps (λ (other : Part). not (same_txn other.txn part.txn)) x.parts p h (rw is refl), e)

  ends_here : (from : ℕ) (txn : TxnId) (commit : Bool) (doubt : Option Doubt) → Comes given from (message.Outcome txn commit) → P (end_here from txn commit doubt (begin_step x))
  unfolding end_here
  ends_here from txn commit doubt c = go commit doubt c
    where
      now : (e : Stepped) → Comes given from (message.Outcome txn commit) → e.site.live ≡ x.live → e.site.parts ≡ filter (λ (part : Part). not (same_txn part.txn txn)) x.parts → e.site.doubts ≡ without_doubt txn x.doubts → e.site.refresh ≡ x.refresh → e.site.held ≡ x.held → keys e.site.copies ≡ keys x.copies → e.site.locks ≡ without_owner (owner.Txn txn) x.locks → P e
      now e c l p d r v k f = record {
        apart = rw l apart;
        ok = rw (l, p, d, r, v, k, f) (ends_part catalogue x.live x.parts x.doubts x.refresh x.held (keys x.copies) x.locks ok txn (outcomes from txn commit c));
        copied = k;
        stays = λ rec z u h. split rec z u h (same_txn u txn) refl;
      }
        where
          split : (rec : ℕ) (z : Bool) (u : TxnId) → HasLock rec z (owner.Txn u) x.locks → (b : Bool) → same_txn u txn ≡ b → HasLock rec z (owner.Txn u) e.site.locks ⊎ Gone x given e u
          split rec z u h true is = inr (Gone.over (from, commit, c ∙ ap (λ (t : TxnId). input.Message from (message.Outcome t commit)) (sym (same_txn-is u txn is))))
          split rec z u h false is = inl (rw f (lock_stays rec z (owner.Txn u) (owner.Txn txn) x.locks is h))

      go : (commit2 : Bool) (doubt : Option Doubt) → Comes given from (message.Outcome txn commit) → P (end_here from txn commit2 doubt (begin_step x))
      go true None c = now _ c refl refl refl refl refl refl refl
      go false None c = now _ c refl refl refl refl refl refl refl
      go true (Some d) c = now _ c refl refl refl refl refl (outcome_keys (Some d) true x.copies) refl
      go false (Some d) c = now _ c refl refl refl refl refl refl refl

  abbrev K : Lent → Type 0
  K = Back x P

  -- the coordinator does nothing of the kind
  quiet : (l now : Lent) → now.live ≡ l.live → now.copies ≡ l.copies → now.locks ≡ l.locks → K l → K now
  quiet l now v c k g = same (put_back (begin_step x) l) (put_back (begin_step x) now) refl refl v refl (ap (λ (c : List (ℕ × Stored)). keys c) c) k g

  -- other live transactions of the same names
  relive : (l now : Lent) → now.copies ≡ l.copies → now.locks ≡ l.locks → Apart now.live → ((u : Live) → Has l.live u → (t : Live) × Has now.live t × (t.txn ≡ u.txn)) → ((t : Live) → Has now.live t → (u : Live) × Has l.live u × (u.txn ≡ t.txn)) → ((t : Live) → Has now.live t → OwnLocks catalogue (keys l.copies) l.locks t) → K l → K now
  relive l now c k away on back own g = record {
    apart = away;
    ok = rw (c, k) (renews catalogue l.live x.parts x.doubts x.refresh x.held (keys l.copies) l.locks g.ok now.live on own);
    copied = ap (λ (c : List (ℕ × Stored)). keys c) c ∙ g.copied;
    stays = λ rec z txn h. ⊎_elim (λ still. inl (rw k still)) (λ gone. inr (gone_on (put_back (begin_step x) l) (put_back (begin_step x) now) txn refl back gone)) (g.stays rec z txn h);
  }

  -- one transaction moves on
  moves_on : (l now : Lent) (t u : Live) → now.live ≡ change_first (named t.txn) (λ u. t) l.live → now.copies ≡ l.copies → now.locks ≡ l.locks → Has l.live u → u.txn ≡ t.txn → OwnLocks catalogue (keys l.copies) l.locks t → K l → K now
  moves_on l now t u v c k h e own g = relive l now c k (rw v (apart_change t l.live g.apart))
      (λ a q. rw v (change_names t l.live a q))
      (λ a q. ⊎_elim (λ (is : a ≡ t). (u, h, e ∙ ap (λ (t : Live). t.txn) (sym is))) (λ old. (a, old.0, refl)) (change_cases t l.live g.apart a (rw v at q)))
      (λ a q. ⊎_elim (λ (is : a ≡ t). rw is own) (λ old. g.ok.own a old.0) (change_cases t l.live g.apart a (rw v at q))) g

  begins : (view : View) (now : Lent) → now.live ≡ x.live ++ begun (next_name x) view.id ∷ [] → now.copies ≡ x.copies → now.locks ≡ x.locks → K now
  begins view now v c k = record {
    apart = rw v (apart_more (begun (next_name x) view.id) x.live apart (λ t h e. one_above t.txn.seq x.seq (led.names t h).2 (ap (λ (t : TxnId). t.seq) e)));
    ok = rw (c, k) (renews catalogue x.live x.parts x.doubts x.refresh x.held (keys x.copies) x.locks ok now.live (λ u h. (u, rw v (has_left x.live _ u h), refl)) (λ t h. ⊎_elim (λ old. ok.own t old) (λ new. rw (← has_one_is (begun (next_name x) view.id) t new) fresh) (has_cases x.live (begun (next_name x) view.id ∷ []) t (rw v at h))));
    copied = ap (λ (c : List (ℕ × Stored)). keys c) c;
    stays = λ rec z txn h. inl (rw k h);
  }
    where
      fresh : OwnLocks catalogue (keys x.copies) x.locks (begun (next_name x) view.id)
      fresh = record { read = λ rec value h c. absurd (has_none _ h); wrote = λ rec h c. absurd (has_none _ h); reading = λ p rec e r c. cc; writing = λ p rec value e w c. cc }

  locks_copy : (t : Live) (rec : ℕ) (exclusive : Bool) (l : Lent) → Has x.live t → conflict rec exclusive t.txn x.locks ≡ None → l ≡ take_lock t.txn rec exclusive (lent_at x) → K (take_lock t.txn rec exclusive (lent_at x))
  unfolding take_lock
  locks_copy t rec exclusive l h free e = record {
    apart = apart;
    ok = takes catalogue x.live x.parts x.doubts x.refresh x.held (keys x.copies) x.locks ok rec exclusive t.txn (free_from_none rec exclusive t.txn x.locks free) (inl (t, h, refl));
    copied = refl;
    stays = λ r z u k. inl (lock_kept r z (owner.Txn u) rec exclusive (owner.Txn t.txn) x.locks k);
  }

  taken : (t : Live) (rec : ℕ) (exclusive : Bool) (l : Lent) → l ≡ take_lock t.txn rec exclusive (lent_at x) → HasLock rec exclusive (owner.Txn t.txn) l.locks
  unfolding take_lock
  taken t rec exclusive l e = rw e (lock_taken rec exclusive (owner.Txn t.txn) x.locks)

  write_locked : (t : Live) (rec : ℕ) (l : Lent) → Locked x t rec l → keys l.copies ≡ keys x.copies → Has (keys l.copies) rec → HasLock rec true (owner.Txn t.txn) l.locks
  write_locked t rec l (Locked.no_copy n e) k c = absurd (not_copied rec x.copies n (rw k at c))
  write_locked t rec l (Locked.locked stored v free e) k c = taken t rec true l e

  -- what is done has its lock
  abbrev Done : Live → Deed → Lent → Type 0
  Done t deed l = ((rec : ℕ) (value : Option (List ℕ)) → deed ≡ Deed.operates (op.Read rec value) → Has (keys l.copies) rec → HasLock rec false (owner.Txn t.txn) l.locks) × ((rec : ℕ) → (alters deed rec ≡ true) × (record_of deed ≡ rec) → Has (keys l.copies) rec → HasLock rec true (owner.Txn t.txn) l.locks)

  done_read : (t : Live) (deed : Deed) (l : Lent) (rec : ℕ) (value : Option (List ℕ)) → deed ≡ Deed.operates (op.Read rec value) → (Has (keys l.copies) rec → HasLock rec false (owner.Txn t.txn) l.locks) → Done t deed l
  done_read t deed l rec value e has = ((λ r v f c. let z = sym e ∙ f in let same : rec ≡ r = cc in rw (← same) (has (rw same c))), (λ r f c. read_alters_none deed rec r value e f.0))

  done_change : (t : Live) (p : Pending) (deed : Deed) (l : Lent) (rec : ℕ) → Changes catalogue p rec deed → (Has (keys l.copies) rec → HasLock rec true (owner.Txn t.txn) l.locks) → Done t deed l
  done_change t p deed l rec w has = ((λ r v f c. read_not_write_asked catalogue p deed r v f w), (λ r f c. let same : rec ≡ r = sym w.on ∙ f.1 in rw (← same) (has (rw same c))))

  done_locks : (t : Live) (p : Pending) (deed : Deed) (l : Lent) → Completes catalogue x given t p deed l → keys l.copies ≡ keys x.copies → OwnLocks catalogue (keys l.copies) l.locks t → Done t deed l
  done_locks t p deed l (Completes.own_write rec value next r a v e f) k own = done_read t deed l rec value e (λ c. weaker rec t.txn l.locks (own.wrote rec (written_changed t rec value v) c))
  done_locks t p deed l (Completes.own_copy rec stored next r a v s free e f) k own = done_read t deed l rec stored.value e (λ c. taken t rec false l f)
  done_locks t p deed l (Completes.change_again rec before next r a v f) k own = done_change t p deed l rec r (λ c. own.wrote rec (change_there (last_changes (entry_of t)) rec before v) c)
  done_locks t p deed l (Completes.change_alone rec next r a v n f) k own = done_change t p deed l rec r (λ c. write_locked t rec l f k c)
  done_locks t p deed l (Completes.read_answered from rec value c last r e f) k own = done_read t deed l rec value e (λ h. absurd (own.reading p rec last.pending r h))
  done_locks t p deed l (Completes.change_answered from rec c last r f) k own = done_change t p deed l rec r (λ h. own.writing p rec deed last.pending r h)

  own_done : (t : Live) (p : Pending) (deed : Deed) (l : Lent) → OwnLocks catalogue (keys l.copies) l.locks t → Done t deed l → OwnLocks catalogue (keys l.copies) l.locks (done t p deed)
  own_done t p deed l own new = record {
    read = λ rec value h c. ⊎_elim (λ old. own.read rec value old c) (λ more. new.0 rec value more c) (operation_there t.ops deed _ h);
    wrote = λ rec h c. ⊎_elim (λ old. own.wrote rec old c) (λ more. new.1 rec more c) (changed_by t p deed rec h);
    reading = λ p rec e r c. cc;
    writing = λ p rec value e w c. cc;
  }

  completes : (t : Live) (p : Pending) (deed : Deed) (l : Lent) → Has x.live t → Completes catalogue x given t p deed l → l.live ≡ x.live → K l → K (complete t p deed l)
  unfolding complete
  completes t p deed l h c e g =
      let there : Has l.live t = rw e h in
      let own = g.ok.own t there in
      moves_on l _ (done t p deed) t refl refl refl there refl (own_done t p deed l own (done_locks t p deed l c g.copied own)) g

  -- another pending call
  own_pending : (t now : Live) (q : Pending) (copied : List ℕ) (locks : List Lock) → now.txn ≡ t.txn → entry_of now ≡ entry_of t → now.pending ≡ Some q → OwnLocks catalogue copied locks t → ((rec : ℕ) → Reads catalogue q rec → Has copied rec → ⊥) → ((rec : ℕ) (deed : Deed) → Changes catalogue q rec deed → Has copied rec → HasLock rec true (owner.Txn t.txn) locks) → OwnLocks catalogue copied locks now
  own_pending t now q copied locks name ops pending own reads writes = record {
    read = λ rec value h c. rw name (own.read rec value (subst (λ (e : Commit). Has e.ops (op.Read rec value)) ops h) c);
    wrote = λ rec h c. rw name (own.wrote rec (subst (λ (e : Commit). Has (keys (last_changes e)) rec) ops h) c);
    reading = λ p rec e r c. let z = sym pending ∙ e in let same : q ≡ p = cc in reads rec (rw same r) c;
    writing = λ p rec value e w c. let z = sym pending ∙ e in let same : q ≡ p = cc in rw name (writes rec value (rw same w) c);
  }

  -- the same call, with other sites missing
  reads_on : (p q : Pending) (rec : ℕ) → q.call ≡ p.call → Reads catalogue q rec → Reads catalogue p rec
  reads_on p q rec e r = record { txn = r.txn; number = r.number; name = r.name; words = sym e ∙ r.words; found = r.found }

  writes_on : (p q : Pending) (rec : ℕ) (deed : Deed) → q.call ≡ p.call → Changes catalogue q rec deed → Changes catalogue p rec deed
  writes_on p q rec value e r = same_writes catalogue p q rec value (sym e) r

  reads : (t : Live) (p : Pending) (rec q : ℕ) → Has x.live t → Reads catalogue p rec → value_at rec x.copies ≡ None → K (read_at x.id t p rec q (lent_at x))
  unfolding read_at
  reads t p rec q h r n = moves_on (lent_at x) _ (record t { remote = t.remote ++ (q, rec) ∷ []; parts = put_number q t.parts; pending = Some (record p { missing = q ∷ [] }) }) t refl refl refl h refl
      (own_pending t _ (record p { missing = q ∷ [] }) (keys x.copies) x.locks refl refl refl (ok.own t h)
      (λ rec2 s c. let same = reads_same catalogue p rec rec2 r (reads_on p (record p { missing = q ∷ [] }) rec2 refl s) in not_copied rec x.copies n (rw same c))
      (λ rec2 value s c. read_not_write catalogue p rec rec2 value r (writes_on p (record p { missing = q ∷ [] }) rec2 value refl s)))
      starts

  writes : (t : Live) (p : Pending) (rec : ℕ) (deed : Deed) (l : Lent) → Has x.live t → Changes catalogue p rec deed → Locked x t rec l → l.live ≡ x.live → K l → K (write_at x.id t p rec (other_holders catalogue x rec) l)
  unfolding write_at
  writes t p rec value l h w d e g =
      let there : Has l.live t = rw e h in
      moves_on l _ (record t { parts = for_each (other_holders catalogue x rec) put_number t.parts; pending = Some (record p { missing = other_holders catalogue x rec }) }) t refl refl refl there refl
      (own_pending t _ (record p { missing = other_holders catalogue x rec }) (keys l.copies) l.locks refl refl refl (g.ok.own t there)
      (λ rec2 s c. absurd (read_not_write {C = ⊥} catalogue p rec2 rec value (reads_on p (record p { missing = other_holders catalogue x rec }) rec2 refl s) w))
      (λ rec2 value2 s c. let same = writes_same catalogue p rec rec2 value value2 w (writes_on p (record p { missing = other_holders catalogue x rec }) rec2 value2 refl s) in rw (← same) (write_locked t rec l d g.copied (rw same c))))
      g

  asks_votes : (t : Live) (p : Pending) → Has x.live t → is_commit p.call ≡ true → K (prepare_parts catalogue x.id t p (lent_at x))
  unfolding prepare_parts
  asks_votes t p h commit = moves_on (lent_at x) _ (record t { pending = Some (record p { missing = t.parts }) }) t refl refl refl h refl
      (own_pending t _ (record p { missing = t.parts }) (keys x.copies) x.locks refl refl refl (ok.own t h)
      (λ rec s c. let z = ap is_commit s.words in cc) (λ rec value s c. no_commit_writes catalogue p rec value commit (same_writes catalogue p (record p { missing = t.parts }) rec value refl s)))
      starts

  waits : (t : Live) (p : Pending) (from : ℕ) → Has x.live t → t.pending ≡ Some p → K (wait_for t p (remaining from p) (lent_at x))
  waits t p from h e = moves_on (lent_at x) _ (record t { pending = Some (record p { missing = remaining from p }) }) t refl refl refl h refl
      (own_pending t _ (record p { missing = remaining from p }) (keys x.copies) x.locks refl refl refl (ok.own t h)
      (λ rec s c. (ok.own t h).reading p rec e (reads_on p (record p { missing = remaining from p }) rec refl s) c)
      (λ rec value s c. (ok.own t h).writing p rec value e (writes_on p (record p { missing = remaining from p }) rec value refl s) c))
      starts

  -- a transaction of this site ends
  ends_one : (t : Live) (why : Ending) (commit : Bool) (l now : Lent) → Handled x t → Ends x.id t why commit l now → K l → K now
  ends_one t why commit l now n e g = record {
    apart = rw live (apart_without t.txn l.live g.apart);
    ok = rw (live, copies, locks) (ends catalogue l.live x.parts x.doubts x.refresh x.held (keys l.copies) l.locks g.ok t.txn g.apart other_doubt);
    copied = ap (λ (c : List (ℕ × Stored)). keys c) copies ∙ g.copied;
    stays = λ rec z u h. ⊎_elim (λ still. split rec z u still (same_txn u t.txn) refl)
        (λ gone. inr (gone_on (put_back (begin_step x) l) (put_back (begin_step x) now) u refl (λ a q. (a, without_first_has (named t.txn) l.live a (rw live at q), refl)) gone)) (g.stays rec z u h);
  }
    where
      live : now.live ≡ without_first (named t.txn) l.live
      live = ap (λ (c : CoordinatorState). c.live) e.coordinator

      copies : now.copies ≡ l.copies
      copies = ap (λ (h : Here). h.copies) e.here

      locks : now.locks ≡ without_owner (owner.Txn t.txn) l.locks
      locks = ap (λ (h : Here). h.locks) e.here

      named_so : n.was.txn ≡ t.txn
      named_so = sym (ap (λ (t : Live). t.txn) n.same)

      other_doubt : (d : Doubt) → Has x.doubts d → d.txn ≢ t.txn
      other_doubt d h z = (below.doubts d h).1 (ap (λ (t : TxnId). t.site) (z ∙ sym named_so) ∙ (led.names n.was n.live).0)

      split : (rec : ℕ) (z : Bool) (u : TxnId) → HasLock rec z (owner.Txn u) l.locks → (b : Bool) → same_txn u t.txn ≡ b → HasLock rec z (owner.Txn u) now.locks ⊎ Gone x given (put_back (begin_step x) now) u
      split rec z u h true is = let same : u ≡ t.txn = same_txn-is u t.txn is in inr (Gone.ended n.was n.live (named_so ∙ sym same) (λ a q f. without_gone t.txn l.live g.apart a (rw live at q) (f ∙ same)))
      split rec z u h false is = inl (rw locks (lock_stays rec z (owner.Txn u) (owner.Txn t.txn) l.locks is h))

  keeps_copies : (t : Live) → K (keep_writes catalogue x.id t (lent_at x))
  unfolding keep_writes
  keeps_copies t = same (begin_step x) (put_back (begin_step x) (keep_writes catalogue x.id t (lent_at x))) refl refl refl refl (written_keys t.view (writes_held catalogue x.id (last_changes (entry_of t))) x.copies) refl starts

  marks : (l : Lent) → K l → K (mark_calls l)
  unfolding mark_calls
  marks l g = relive l _ refl refl (apart_mark l.live g.apart) (λ u h. (mark u, mapped_has mark l.live u h, refl)) (λ t h. let q = map_has mark l.live t h in (q.0, q.1, ap (λ (t : Live). t.txn) q.2)) (λ t h. let q = map_has mark l.live t h in rw (← q.2) (own_marked q.0 (g.ok.own q.0 q.1))) g
    where
      unmarked : (o : Option Pending) (p : Pending) → marked_call o ≡ Some p → (q : Pending) × (o ≡ Some q) × (p.call ≡ q.call)
      unmarked None p e = cc
      unmarked (Some q) p e = let z : record q { marked = true } ≡ p = cc in (q, refl, ap (λ (p : Pending). p.call) (sym z))

      own_marked : (t : Live) → OwnLocks catalogue (keys l.copies) l.locks t → OwnLocks catalogue (keys l.copies) l.locks (mark t)
      own_marked t own = record {
        read = own.read;
        wrote = own.wrote;
        reading = λ p rec e r c. let q = unmarked t.pending p e in own.reading q.0 rec q.1 (reads_on q.0 p rec q.2 r) c;
        writing = λ p rec value e w c. let q = unmarked t.pending p e in own.writing q.0 rec value q.1 (writes_on q.0 p rec value q.2 w) c;
      }

  pub table : Table catalogue x given P
  unfolding on_stale on_accept hold fix ask_again start_txn resend_one inquire
  table = record {
    sends_back = λ from m t. same (begin_step x) _ refl refl refl refl refl refl starts;
    asks_again = λ o ms all p. same o _ refl refl refl refl refl refl p;
    drop_view = λ l e z p. drops l e p;
    start_inviting = λ o s l p. invites o l p;
    accept = λ from id o c e l p. accepts from id o e l p;
    accepted = λ from id c. viewed _ refl refl refl refl refl (λ r h. refl);
    seen = λ from id promise c. viewed _ refl refl refl refl refl (λ r h. refl);
    hold = λ from id members c e. viewed _ refl refl refl refl refl (none_under_refresh (tidy.waiting id (is_view_is x.waiting id (both_true _ _ e).0)).1 _);
    heard = λ from view c e. viewed _ refl refl refl refl refl (λ r h. refl);
    fix = λ view c e. viewed _ refl refl refl refl refl (none_under_refresh (tidy.inviting (view.id, view.members) e).1 _);
    without_wait = λ id c i w. viewed _ refl refl refl refl refl (λ r h. refl);
    probe = λ view c e. viewed _ refl refl refl refl refl (λ r h. refl);
    answers_inviting = λ port c s p. same _ _ refl refl refl refl refl refl p;
    start_refresh = λ view rec o e h p. refreshes view rec o e p;
    end_refresh = λ rec r own o e a d v p. finishes r own o p;
    keep_answer = λ from view rec stored r c e f g. keeps_answer rec from stored;
    grant_read = λ from txn view number rec stored c e n v f u. grants from txn view rec false (message.ReadAnswer txn number stored.value) f;
    grant_write = λ from txn view number rec stored c e n v f u. grants from txn view rec true (message.WriteAnswer txn number) f;
    vote_reading = λ from txn view number reads writes part c e n d f v a w. shared _ (with_vote part x.participant) refl refl refl refl refl refl (voted_ok part);
    vote_writing = λ from txn view number reads writes part c e n d f v a w. shared _ (with_new_doubt part writes x.participant) refl refl refl refl refl refl (doubting_ok part reads writes (certain part txn f d) a);
    end_here = λ from txn commit c. ends_here from txn commit (doubt_of txn x.doubts) c;
    coordinator = record {
      begin = λ port view e g u. begins view _ refl refl refl;
      answers = λ words port why y. quiet (lent_at x) _ refl refl refl starts;
      take_lock = λ t rec exclusive stored h i a v c. locks_copy t rec exclusive _ h c refl;
      complete = λ t p deed l h g y e q. completes t p deed l h g e q;
      read_at = λ t p rec q h n r a w c o y. reads t p rec q h r c;
      write_at = λ t p rec value l h n w a e o d y v q. writes t p rec value l h w d v q;
      prepare_parts = λ t p h i g e. asks_votes t p h g;
      still_waits = λ t p from h e m f c. waits t p from h e;
      decide = λ t n d. decide-cases K catalogue x.id t (lent_at x) (λ e. ends_one t Committed true (lent_at x) _ n (decided-ends x.id t (lent_at x)) starts) (λ e. ends_one t Committed true (keep_writes catalogue x.id t (lent_at x)) _ n (decided-ends x.id t _) (keeps_copies t));
      close = λ t why l n a z y q. ends_one t why false l _ n (close-ends x.id t why l) q;
      mark_calls = λ l c z q. marks l q;
      acknowledge = λ from txn c w. quiet (lent_at x) _ refl refl refl starts;
    };
    resend_one = λ d o c h p. same o _ refl refl refl refl refl refl p;
  }
    where
      certain : (part : Part) (txn : TxnId) → part_of txn x.parts ≡ Some part → has_doubt txn x.doubts ≡ false → has_doubt part.txn x.doubts ≡ false
      certain part txn f d = rw (same_txn-is part.txn txn (find_true (λ (p : Part). same_txn p.txn txn) x.parts part f)) d

pub guards-step : (catalogue : Catalogue) (x : SiteState) (given : Input) → Tidy x → Led x → Below x → Apart x.live → LocksAt catalogue x → ((from : ℕ) (txn : TxnId) (commit : Bool) → Comes given from (message.Outcome txn commit) → NotLive x.live txn) → ((i : ViewId) → x.waiting ≡ Some i → Precedes opening i × ((d : Doubt) → Has x.doubts d → Precedes d.view i)) → ((b : ViewId × List ℕ) → x.inviting ≡ Some b → Precedes opening b.0 × ((d : Doubt) → Has x.doubts d → Precedes d.view b.0)) → Guards catalogue x given (step catalogue x given)
guards-step catalogue x given tidy led below apart ok outcomes awaited invited = step-keeps catalogue x given (Guards catalogue x given) (table catalogue x given tidy led below apart ok outcomes awaited invited) (starts catalogue x given tidy led below apart ok outcomes awaited invited)
