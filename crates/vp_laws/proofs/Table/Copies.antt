-- Where each copy and each kept answer to a refresh comes from in a step.
use Rattle.std.proofs.Common.{arith, ◌≢◌, ◌≡◌, ◌⊎◌, ◌∙◌, ap, sym, subst, ℕ, Bool, true, false, cond, List, [], ◌∷◌, map, refl, inl, inr, ⊎_elim}
use Rattle.std.specs.Prelude.{Option, Some, None, filter, find, option_map, not, ◌==◌, nat_lt}
use Rattle.std.proofs.lemmas.Bool.{eqb-true}
use Rattle.std.proofs.lemmas.Bool.Decides.{nat_tests}
use Rattle.vp_model.specs.Types.{Change, ViewId, TxnId, View, Commit, Input, Stored, Live, Ending, Refreshing, Doubt}
use Rattle.vp_model.specs.Types.input
use Rattle.vp_model.specs.Types.message
use Rattle.vp_model.specs.Words.{same_txn, put_at, view_before, change_at, replace_at, keys, value_at, has}
use Rattle.vp_model.specs.Catalogue.{Catalogue, holders}
use Rattle.vp_model.specs.Locks.{without_guard}
use Rattle.vp_model.specs.Durable.{changed, doubt_of, with_writes}
use Rattle.vp_model.specs.Site.{Here, SiteState, Lent, Stepped, begin_step, put_back}
use Rattle.vp_model.specs.Transactions.{last_changes, entry_of, writes_held, close, keep_writes, decide, complete}
use Rattle.vp_model.specs.Refresh.{newer, newest, unlist, end_refresh, start_refresh, refreshing_of, unanswered}
use Rattle.vp_model.specs.Views.{drop_view, start_inviting, hold}
use Rattle.vp_model.specs.Calls.{start_txn, take_lock, read_at, write_at, prepare_parts}
use Rattle.vp_model.specs.Messages.{holds_view, with_answer, accept, on_accept, on_stale, grant, end_here}
use Rattle.vp_model.specs.Step.{fix, mark_calls, ask_again, resend_one, inquire, step}
use Rattle.vp_laws.specs.Decisions.{dated_at}
use Rattle.vp_laws.proofs.Lists.Members.{Has, has_cons, has_none, has_one, has_first, has_more, map_has, filter_has, find_has, find_true, both_true}
use Rattle.vp_model.proofs.SameTxn.{same_txn-is}
use Rattle.vp_laws.proofs.Lists.Changes.{mapped_has, put_has}
use Rattle.vp_laws.proofs.Lists.Pairs.{Differ, kept_differ}
use Rattle.vp_laws.proofs.Journal.LastChanges.{changes_differ}
use Rattle.vp_laws.proofs.Lists.Views.{is_view_is}
use Rattle.vp_laws.proofs.Moves.Frames.{close-ends, close-commits, decided-ends, decided-commits, decide-cases, judged, take-cases}
use Rattle.vp_laws.proofs.Moves.LocalViews.{Tidy, none_refreshed}
use Rattle.vp_laws.proofs.Moves.Table.{Comes, Left, lent_at, Back, Table}
use Rattle.vp_laws.proofs.Moves.Rows.{step-keeps}

-- an answer was kept, or comes now in the held view from a site that had not answered
pub data AnswerNow (catalogue : Catalogue) (x : SiteState) (given : Input) (rec : ℕ) (k : ℕ × Stored) : Type 0 where
  was : (r : Refreshing) → Has x.refresh r → r.rec ≡ rec → Has r.answers k → AnswerNow catalogue x given rec k
  came : (from : ℕ) (view : ViewId) (r : Refreshing) (stored : Stored) → Comes given from (message.RefreshAnswer view rec stored) → (from, stored) ≡ k → holds_view x view ≡ true → Has x.refresh r → r.rec ≡ rec → has (unanswered catalogue x r) from ≡ true → AnswerNow catalogue x given rec k

-- a copy was there, is of a doubt that commits, of an entry of this step, or of an answer to a refresh
pub data CopyNow (catalogue : Catalogue) (x : SiteState) (given : Input) (commits : List Commit) (a : ℕ × Stored) : Type 0 where
  still : Has x.copies a → CopyNow catalogue x given commits a
  outcome : (from : ℕ) (d : Doubt) (w : ℕ × Change) → Comes given from (message.Outcome d.txn true) → Has x.doubts d → Has d.writes w → (old : Stored) → Has x.copies (w.0, old) → dated_at d.view w old ≡ a → CopyNow catalogue x given commits a
  entered : (e : Commit) (w : ℕ × Change) → Has commits e → Has (writes_held catalogue x.id (last_changes e)) w → (old : Stored) → Has x.copies (w.0, old) → dated_at e.view w old ≡ a → CopyNow catalogue x given commits a
  refreshed : (k : ℕ × Stored) → AnswerNow catalogue x given a.0 k → k.1 ≡ a.1 → CopyNow catalogue x given commits a

pub record Copies (catalogue : Catalogue) (x : SiteState) (given : Input) (o : Stepped) : Type 0 where
  pub copies : (a : ℕ × Stored) → Has o.site.copies a → CopyNow catalogue x given o.effects.commits a
  -- answers are kept while the view is held
  pub answers : (r : Refreshing) (k : ℕ × Stored) → Has o.site.refresh r → Has r.answers k → AnswerNow catalogue x given r.rec k × (o.site.held ≡ x.held)

pub replaced_from : (n : ℕ) (v : Stored) (pairs : List (ℕ × Stored)) (a : ℕ × Stored) → Has (replace_at n v pairs) a → (a ≡ (n, v)) ⊎ Has pairs a
replaced_from n v pairs a h = let r = map_has (λ (p : ℕ × Stored). cond (p.0 == n) (n, v) p) pairs a h in go (r.0.0 == n) r.0 r.1 r.2
  where
    go : (b : Bool) (p : ℕ × Stored) → Has pairs p → cond b (n, v) p ≡ a → (a ≡ (n, v)) ⊎ Has pairs a
    go true p k e = inl (sym e)
    go false p k e = inr (rw (← e) k)

changed_from : (n : ℕ) (f : Stored → Stored) (pairs : List (ℕ × Stored)) (a : ℕ × Stored) → Has (change_at n f pairs) a → ((old : Stored) × Has pairs (n, old) × ((n, f old) ≡ a)) ⊎ (Has pairs a × (n ≢ a.0))
changed_from n f pairs a h = let r = map_has (λ (p : ℕ × Stored). cond (p.0 == n) (n, f p.1) p) pairs a h in go (r.0.0 == n) r.0 refl r.1 r.2
  where
    differs : (c b : ℕ) → (c == b) ≡ false → b ≢ c
    differs c b e = grind (arith, nat_tests, e)

    pair : (p : ℕ × Stored) → p.0 ≡ n → p ≡ (n, p.1)
    pair p e = rw (← e) refl

    go : (b : Bool) (p : ℕ × Stored) → (p.0 == n) ≡ b → Has pairs p → cond b (n, f p.1) p ≡ a → ((old : Stored) × Has pairs (n, old) × ((n, f old) ≡ a)) ⊎ (Has pairs a × (n ≢ a.0))
    go true p t k e = inl (p.1, subst (Has pairs) (pair p (eqb-true p.0 n t)) k, e)
    go false p t k e = inr (rw (← e) k, (λ z. differs p.0 n t (z ∙ ap (λ (q : ℕ × Stored). q.0) (sym e))))

-- after changes of different records a copy was changed by one of them, or is as it was and none of them changes it
pub written_from : (date : ViewId) (writes : List (ℕ × Change)) → Differ (keys writes) → (copies : List (ℕ × Stored)) (a : ℕ × Stored) → Has (with_writes date writes copies) a → ((w : ℕ × Change) × Has writes w × (old : Stored) × Has copies (w.0, old) × (dated_at date w old ≡ a)) ⊎ (Has copies a × (Has (keys writes) a.0 → ⊥))
written_from date [] apart copies a h = inr (h, (λ k. has_none a.0 k))
written_from date (w ∷ writes) apart copies a h = ⊎_elim
    (λ (q : (v : ℕ × Change) × Has writes v × (old : Stored) × Has between (v.0, old) × (dated_at date v old ≡ a)). ⊎_elim
    (λ (twice : (old : Stored) × Has copies (w.0, old) × ((w.0, changed date w.1 old) ≡ (q.0.0, q.2))). absurd (apart.0 (subst (Has (keys writes)) (sym (ap (λ (p : ℕ × Stored). p.0) twice.2)) (mapped_has (λ (p : ℕ × Change). p.0) writes q.0 q.1))))
    (λ (before : Has copies (q.0.0, q.2) × (w.0 ≢ q.0.0)). inl (q.0, has_more w writes q.0 q.1, q.2, before.0, q.4))
    (changed_from w.0 (changed date w.1) copies (q.0.0, q.2) q.3))
    (λ (old : Has between a × (Has (keys writes) a.0 → ⊥)). ⊎_elim
    (λ (new : (was : Stored) × Has copies (w.0, was) × ((w.0, changed date w.1 was) ≡ a)). inl (w, has_first w writes, new.0, new.1, new.2))
    (λ (before : Has copies a × (w.0 ≢ a.0)). inr (before.0, (λ k. ⊎_elim (λ (one : w.0 ≡ a.0). before.1 one) (λ more. old.1 more) (has_cons w.0 (keys writes) a.0 k))))
    (changed_from w.0 (changed date w.1) copies a old.0))
    (written_from date writes apart.1 between a h)
  where
    between : List (ℕ × Stored)
    between = change_at w.0 (changed date w.1) copies

pub held_differ : (catalogue : Catalogue) (id : ℕ) (e : Commit) → Differ (keys (writes_held catalogue id (last_changes e)))
held_differ catalogue id e = kept_differ (λ (w : ℕ × Change). has (holders catalogue w.0) id) (last_changes e) (changes_differ e)

-- a doubt whose commit comes changes no record twice
abbrev pub OnceEach : SiteState → Input → Type 0
OnceEach x given = (from : ℕ) (d : Doubt) → Comes given from (message.Outcome d.txn true) → Has x.doubts d → Differ (keys d.writes)

pub value_pair : (n : ℕ) (pairs : List (ℕ × Stored)) (v : Stored) → value_at n pairs ≡ Some v → Has pairs (n, v)
value_pair n pairs v e = go (find (λ (p : ℕ × Stored). p.0 == n) pairs) refl e
  where
    is_pair : (p : ℕ × Stored) (n : ℕ) (v : Stored) → p.0 ≡ n → p.1 ≡ v → p ≡ (n, v)
    is_pair p n v e f = rw (← e, ← f) refl

    go : (o : Option (ℕ × Stored)) → find (λ (p : ℕ × Stored). p.0 == n) pairs ≡ o → option_map (λ (p : ℕ × Stored). p.1) o ≡ Some v → Has pairs (n, v)
    go None f q = cc
    go (Some p) f q =
        let same : p.1 ≡ v = cc in
        subst (Has pairs) (is_pair p n v (eqb-true p.0 n (find_true (λ (p : ℕ × Stored). p.0 == n) pairs p f)) same) (find_has (λ (p : ℕ × Stored). p.0 == n) pairs p f)

pub newest_from : (own : Stored) (answers : List (ℕ × Stored)) → (newest own answers ≡ own) ⊎ ((k : ℕ × Stored) × Has answers k × (k.1 ≡ newest own answers))
newest_from own [] = inl refl
newest_from own (a ∷ answers) = ⊎_elim
    (λ (e : newest (newer own a.1) answers ≡ newer own a.1). ⊎_elim (λ (f : newer own a.1 ≡ own). inl (e ∙ f)) (λ (f : newer own a.1 ≡ a.1). inr (a, has_first a answers, sym (e ∙ f))) (one_of (view_before own.date a.1.date)))
    (λ (q : (k : ℕ × Stored) × Has answers k × (k.1 ≡ newest (newer own a.1) answers)). inr (q.0, has_more a answers q.0 q.1, q.2))
    (newest_from (newer own a.1) answers)
  where
    one_of : (b : Bool) → (cond b a.1 own ≡ own) ⊎ (cond b a.1 own ≡ a.1)
    one_of true = inr refl
    one_of false = inl refl

module _ (catalogue : Catalogue) (x : SiteState) (given : Input) (tidy : Tidy x) (listed : (r : Refreshing) → Has x.refresh r → (v : View) × (x.held ≡ Some v)) (once : OnceEach x given) where
  abbrev P : Stepped → Type 0
  P = Copies catalogue x given

  starts : P (begin_step x)
  starts = record { copies = λ a h. CopyNow.still h; answers = λ r k h a. (AnswerNow.was r h refl a, refl) }

  -- copies and refreshes stay, in the same view
  same : (o e : Stepped) → e.site.held ≡ o.site.held → e.site.copies ≡ o.site.copies → e.site.refresh ≡ o.site.refresh → e.effects.commits ≡ o.effects.commits → P o → P e
  same o e v c r cs p = record {
    copies = λ a h. rw cs (p.copies a (rw c at h));
    answers = λ q k h a. let z = p.answers q k (rw r at h) a in (z.0, v ∙ z.1);
  }

  -- or no record is under refresh
  fresh : (o e : Stepped) → e.site.copies ≡ o.site.copies → ((r : Refreshing) → Has e.site.refresh r → ⊥) → e.effects.commits ≡ o.effects.commits → P o → P e
  fresh o e c none cs p = record {
    copies = λ a h. rw cs (p.copies a (rw c at h));
    answers = λ q k h a. absurd (none q h);
  }

  drops : (l : Lent) → P (put_back (begin_step x) l) → P (drop_view (put_back (begin_step x) l))
  unfolding drop_view
  drops l p = fresh (put_back (begin_step x) l) (drop_view (put_back (begin_step x) l)) refl (λ r h. has_none r h) refl p

  left_none : (o : Stepped) → Left x o → (r : Refreshing) → Has o.site.refresh r → ⊥
  left_none o l r h = has_none r (rw l.refresh at h)

  takes : (r : Refreshing) (own : Stored) (o : Stepped) → CopyNow catalogue x given o.effects.commits (r.rec, newest own r.answers) → P o → P (judged catalogue r own o)
  takes r own o new p = take-cases P catalogue r own o
      (record {
        copies = λ a h. ⊎_elim (λ (is : a ≡ (r.rec, newest own r.answers)). rw is new) (λ old. p.copies a old) (replaced_from r.rec (newest own r.answers) o.site.copies a h);
        answers = p.answers;
      })
      p (record { copies = p.copies; answers = p.answers })

  finishes : (rec : ℕ) (r : Refreshing) (own : Stored) (o : Stepped) → refreshing_of rec o.site.refresh ≡ Some r → value_at r.rec o.site.copies ≡ Some own → P o → P (end_refresh catalogue r own o)
  unfolding end_refresh unlist
  finishes rec r own o e v p = removes (judged catalogue r own o) (takes r own o new p)
    where
      there : Has o.site.refresh r
      there = find_has (λ (q : Refreshing). q.rec == rec) o.site.refresh r e

      new : CopyNow catalogue x given o.effects.commits (r.rec, newest own r.answers)
      new = ⊎_elim
          (λ (is : newest own r.answers ≡ own). rw is (p.copies (r.rec, own) (value_pair r.rec o.site.copies own v)))
          (λ (q : (k : ℕ × Stored) × Has r.answers k × (k.1 ≡ newest own r.answers)). CopyNow.refreshed q.0 (p.answers r q.0 there q.1).0 q.2)
          (newest_from own r.answers)

      removes : (n : Stepped) → P n → P (record n { site = record n.site { here = record n.site.here { locks = without_guard r.rec n.site.locks }; refresh = filter (λ other. not (other.rec == r.rec)) n.site.refresh } })
      removes n g = record { copies = g.copies; answers = λ q k h a. g.answers q k (filter_has (λ (other : Refreshing). not (other.rec == r.rec)) n.site.refresh q h).0 a }

  refreshes : (view : View) (rec : ℕ) (o : Stepped) → P o → P (start_refresh catalogue view rec o)
  unfolding start_refresh
  refreshes view rec o p = record {
    copies = p.copies;
    answers = λ r k h a. ⊎_elim
        (λ (new : r ≡ record { rec = rec; answers = [] }). absurd (has_none k (rw (ap (λ (r : Refreshing). r.answers) new) at a)))
        (λ old. p.answers r k old a)
        (put_has (λ (a : Refreshing) (b : Refreshing). a.rec == b.rec) (λ (a : Refreshing) (b : Refreshing). nat_lt a.rec b.rec) (record { rec = rec; answers = [] }) o.site.refresh r h);
  }

  keeps_answer : (from : ℕ) (view : ViewId) (rec : ℕ) (stored : Stored) (r : Refreshing) → Comes given from (message.RefreshAnswer view rec stored) → holds_view x view ≡ true → refreshing_of rec x.refresh ≡ Some r → has (unanswered catalogue x r) from ≡ true → P (record (begin_step x) { site = record x { refresh = map (with_answer rec from stored) x.refresh } })
  keeps_answer from view rec stored r c held f u = record {
    copies = λ a h. CopyNow.still h;
    answers = λ q k h a. let z = map_has (with_answer rec from stored) x.refresh q h in (go z.0 z.1 (z.0.rec == rec) refl q k z.2 a, refl);
  }
    where
      go : (old : Refreshing) → Has x.refresh old → (b : Bool) → (old.rec == rec) ≡ b → (q : Refreshing) (k : ℕ × Stored) → cond b (record old { answers = put_at from stored old.answers }) old ≡ q → Has q.answers k → AnswerNow catalogue x given q.rec k
      go old there false e q k same a = AnswerNow.was old there (ap (λ (r : Refreshing). r.rec) same) (rw (← (ap (λ (r : Refreshing). r.answers) same)) at a)
      go old there true e q k same a = ⊎_elim
          (λ (new : k ≡ (from, stored)). subst (λ (n : ℕ). AnswerNow catalogue x given n k) (sym (eqb-true old.rec rec e) ∙ ap (λ (r : Refreshing). r.rec) same)
          (AnswerNow.came from view r stored c (sym new) held (find_has (λ (q : Refreshing). q.rec == rec) x.refresh r f) (eqb-true r.rec rec (find_true (λ (q : Refreshing). q.rec == rec) x.refresh r f)) u))
          (λ before. AnswerNow.was old there (ap (λ (r : Refreshing). r.rec) same) before)
          (put_has (λ (a : ℕ × Stored) (b : ℕ × Stored). a.0 == b.0) (λ (a : ℕ × Stored) (b : ℕ × Stored). nat_lt a.0 b.0) (from, stored) old.answers k (rw (← (ap (λ (r : Refreshing). r.answers) same)) at a))

  ends_here : (from : ℕ) (txn : TxnId) (commit : Bool) (doubt : Option Doubt) → doubt_of txn x.doubts ≡ doubt → Comes given from (message.Outcome txn commit) → P (end_here from txn commit doubt (begin_step x))
  unfolding end_here
  ends_here from txn true None f c = same (begin_step x) _ refl refl refl refl starts
  ends_here from txn false None f c = same (begin_step x) _ refl refl refl refl starts
  ends_here from txn false (Some d) f c = same (begin_step x) _ refl refl refl refl starts
  ends_here from txn true (Some d) f c = record {
    copies = λ a h. ⊎_elim
        (λ (q : (w : ℕ × Change) × Has d.writes w × (old : Stored) × Has x.copies (w.0, old) × (dated_at d.view w old ≡ a)). CopyNow.outcome from d q.0 comes there q.1 q.2 q.3 q.4)
        (λ (old : Has x.copies a × (Has (keys d.writes) a.0 → ⊥)). CopyNow.still old.0)
        (written_from d.view d.writes (once from d comes there) x.copies a h);
    answers = starts.answers;
  }
    where
      there : Has x.doubts d
      there = find_has (λ (d : Doubt). same_txn d.txn txn) x.doubts d f

      comes : Comes given from (message.Outcome d.txn true)
      comes = c ∙ ap (λ (t : TxnId). input.Message from (message.Outcome t true)) (sym (same_txn-is d.txn txn (find_true (λ (d : Doubt). same_txn d.txn txn) x.doubts d f)))

  abbrev K : Lent → Type 0
  K = Back x P

  quiet : (l now : Lent) → now.copies ≡ l.copies → now.effects.commits ≡ l.effects.commits → K l → K now
  quiet l now c cs p = same (put_back (begin_step x) l) (put_back (begin_step x) now) refl c refl cs p

  closes : (t : Live) (why : Ending) (l : Lent) → K l → K (close x.id t why l)
  closes t why l p = quiet l (close x.id t why l) (ap (λ (h : Here). h.copies) (close-ends x.id t why l).here) (close-commits x.id t why l) p

  decides : (t : Live) → K (decide catalogue x.id t (lent_at x))
  unfolding keep_writes
  decides t = decide-cases K catalogue x.id t (lent_at x)
      (λ e. record { copies = λ a h. CopyNow.still (rw (ap (λ (h : Here). h.copies) (decided-ends x.id t (lent_at x)).here) at h); answers = starts.answers })
      (λ e. let l = keep_writes catalogue x.id t (lent_at x) in record {
        copies = λ a h. ⊎_elim
            (λ (q : (w : ℕ × Change) × Has (writes_held catalogue x.id (last_changes (entry_of t))) w × (old : Stored) × Has x.copies (w.0, old) × (dated_at t.view w old ≡ a)). CopyNow.entered (entry_of t) q.0 (rw (decided-commits x.id t l) (has_one _)) q.1 q.2 q.3 q.4)
            (λ (old : Has x.copies a × (Has (keys (writes_held catalogue x.id (last_changes (entry_of t)))) a.0 → ⊥)). CopyNow.still old.0)
            (written_from t.view (writes_held catalogue x.id (last_changes (entry_of t))) (held_differ catalogue x.id (entry_of t)) x.copies a (rw (ap (λ (h : Here). h.copies) (decided-ends x.id t l).here) at h));
        answers = starts.answers;
      })

  pub table : Table catalogue x given P
  unfolding on_stale on_accept hold fix ask_again start_inviting accept grant start_txn take_lock complete read_at write_at prepare_parts mark_calls resend_one inquire
  table = record {
    sends_back = λ from m t. same (begin_step x) _ refl refl refl refl starts;
    asks_again = λ o ms all p. same o _ refl refl refl refl p;
    drop_view = λ l e z p. drops l p;
    start_inviting = λ o s l p. fresh o _ refl (left_none o l) refl p;
    accept = λ from id o c e l p. fresh o _ refl (left_none o l) refl p;
    accepted = λ from id c. same (begin_step x) _ refl refl refl refl starts;
    seen = λ from id promise c. same (begin_step x) _ refl refl refl refl starts;
    hold = λ from id members c e. fresh (begin_step x) _ refl (none_refreshed x listed (tidy.waiting id (is_view_is x.waiting id (both_true _ _ e).0)).1) refl starts;
    heard = λ from view c e. same (begin_step x) _ refl refl refl refl starts;
    fix = λ view c e. fresh (begin_step x) _ refl (none_refreshed x listed (tidy.inviting (view.id, view.members) e).1) refl starts;
    without_wait = λ id c i w. same (begin_step x) _ refl refl refl refl starts;
    probe = λ view c e. same (begin_step x) _ refl refl refl refl starts;
    answers_inviting = λ port c s p. same _ _ refl refl refl refl p;
    start_refresh = λ view rec o e h p. refreshes view rec o p;
    end_refresh = λ rec r own o e a d v p. finishes rec r own o e v p;
    keep_answer = λ from view rec stored r c e f g. keeps_answer from view rec stored r c e f g;
    grant_read = λ from txn view number rec stored c e n v f u. same (begin_step x) _ refl refl refl refl starts;
    grant_write = λ from txn view number rec stored c e n v f u. same (begin_step x) _ refl refl refl refl starts;
    vote_reading = λ from txn view number reads writes part c e n d f v a w. same (begin_step x) _ refl refl refl refl starts;
    vote_writing = λ from txn view number reads writes part c e n d f v a w. same (begin_step x) _ refl refl refl refl starts;
    end_here = λ from txn commit c. ends_here from txn commit (doubt_of txn x.doubts) refl c;
    coordinator = record {
      begin = λ port view e g u. quiet (lent_at x) _ refl refl starts;
      answers = λ words port why y. quiet (lent_at x) _ refl refl starts;
      take_lock = λ t rec exclusive stored h i a v c. quiet (lent_at x) _ refl refl starts;
      complete = λ t p deed l h g y e q. quiet l _ refl refl q;
      read_at = λ t p rec q h n r a w c o y. quiet (lent_at x) _ refl refl starts;
      write_at = λ t p rec value l h n w a e o d y v q. quiet l _ refl refl q;
      prepare_parts = λ t p h i g e. quiet (lent_at x) _ refl refl starts;
      still_waits = λ t p from h e m f c. quiet (lent_at x) _ refl refl starts;
      decide = λ t n d. decides t;
      close = λ t why l n a z y q. closes t why l q;
      mark_calls = λ l c z q. quiet l _ refl refl q;
      acknowledge = λ from txn c w. quiet (lent_at x) _ refl refl starts;
    };
    resend_one = λ d o c h p. same o _ refl refl refl refl p;
  }

pub copies-step : (catalogue : Catalogue) (x : SiteState) (given : Input) → Tidy x → ((r : Refreshing) → Has x.refresh r → (v : View) × (x.held ≡ Some v)) → OnceEach x given → Copies catalogue x given (step catalogue x given)
copies-step catalogue x given tidy listed once = step-keeps catalogue x given (Copies catalogue x given) (table catalogue x given tidy listed once) (starts catalogue x given tidy listed once)
