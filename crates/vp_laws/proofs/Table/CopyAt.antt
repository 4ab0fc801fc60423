-- Where each copy comes from in a step, and what has not been written: a copy that stays belongs to no doubt that commits now and
-- to no entry, and one that a refresh brings is as new as the copy that was here and as each answer.
use Rattle.std.proofs.Common.{◌≡◌, ◌≢◌, ◌⊎◌, ◌∙◌, ap, sym, subst, ℕ, Bool, true, false, cond, List, [], ◌∷◌, map, refl, arith, inl, inr, ⊎_elim}
use Rattle.std.specs.Prelude.{Option, Some, None, filter, not, ◌==◌, nat_lt}
use Rattle.std.proofs.lemmas.Bool.{eqb-true}
use Rattle.std.proofs.lemmas.Bool.Decides.{nat_tests}
use Rattle.vp_model.specs.Types.{Change, ViewId, TxnId, View, Commit, Input, Stored, Live, Ending, Refreshing, Doubt}
use Rattle.vp_model.specs.Types.input
use Rattle.vp_model.specs.Types.message
use Rattle.vp_model.specs.Words.{same_txn, put_at, view_before, replace_at, value_at, has, keys, is_empty}
use Rattle.vp_model.specs.Catalogue.{Catalogue, table_or, accessible_by}
use Rattle.vp_model.specs.Locks.{without_guard}
use Rattle.vp_model.specs.Durable.{doubt_of, without_doubt}
use Rattle.vp_model.specs.Site.{Here, SiteState, Lent, Stepped, begin_step, put_back}
use Rattle.vp_model.specs.Transactions.{last_changes, entry_of, writes_held, close, keep_writes, decide, complete}
use Rattle.vp_model.specs.Refresh.{members, newer, newest, unlist, end_refresh, start_refresh, refreshing_of, unanswered, is_doubtful}
use Rattle.vp_model.specs.Views.{drop_view, start_inviting, hold}
use Rattle.vp_model.specs.Calls.{start_txn, take_lock, read_at, write_at, prepare_parts}
use Rattle.vp_model.specs.Messages.{holds_view, with_answer, accept, on_accept, on_stale, grant, end_here}
use Rattle.vp_model.specs.Step.{fix, mark_calls, ask_again, resend_one, inquire}
use Rattle.vp_laws.proofs.Lists.Members.{Has, has_none, has_one, has_one_is, has_cons, map_has, filter_has, find_has, find_true, any_false, both_true, has_test}
use Rattle.vp_model.proofs.SameTxn.{same_txn-is, same_txn-clash}
use Rattle.vp_laws.proofs.Lists.Changes.{put_has}
use Rattle.vp_laws.proofs.Lists.Views.{AtMost, AtMost-refl, AtMost-trans, Precedes-at_most, from_before, is_view_is}
use Rattle.vp_laws.proofs.Moves.Frames.{close-ends, close-commits, decided-ends, decided-commits, decide-cases, judging, judged, judged-cases}
use Rattle.vp_laws.proofs.Moves.LocalViews.{Tidy, none_refreshed}
use Rattle.vp_laws.proofs.Moves.Table.{Comes, Left, lent_at, Back, Table}
use Rattle.vp_laws.specs.Decisions.{dated_at}
use Rattle.vp_laws.proofs.Table.Copies.{AnswerNow, OnceEach, replaced_from, written_from, held_differ, value_pair, newest_from}
use Rattle.vp_laws.proofs.Journal.UpTo.{up_to_from}

-- no doubt on the record has been made a copy, and no entry of this step wrote it here
pub record Untaken (catalogue : Catalogue) (x : SiteState) (given : Input) (doubts : List Doubt) (commits : List Commit) (rec : ℕ) : Type 0 where
  -- a doubt on it whose commit came is here still
  pub outcome : (from : ℕ) (d : Doubt) → Comes given from (message.Outcome d.txn true) → doubt_of d.txn x.doubts ≡ Some d → Has (keys d.writes) rec → Has doubts d
  -- an entry of this step has not written it
  pub entered : (e : Commit) → Has commits e → Has (keys (writes_held catalogue x.id (last_changes e))) rec → ⊥

-- a copy was there and is untaken, or is of a doubt that commits, which is gone, or of an entry of this step
pub data OwnCopy (catalogue : Catalogue) (x : SiteState) (given : Input) (doubts : List Doubt) (commits : List Commit) (a : ℕ × Stored) : Type 0 where
  still : Has x.copies a → Untaken catalogue x given doubts commits a.0 → OwnCopy catalogue x given doubts commits a
  outcome : (from : ℕ) (d : Doubt) (w : ℕ × Change) → Comes given from (message.Outcome d.txn true) → Has x.doubts d → Has d.writes w → (old : Stored) → Has x.copies (w.0, old) → dated_at d.view w old ≡ a → ((u : Doubt) → Has doubts u → u.txn ≢ d.txn) → OwnCopy catalogue x given doubts commits a
  entered : (e : Commit) (w : ℕ × Change) → Has commits e → Has (writes_held catalogue x.id (last_changes e)) w → (old : Stored) → Has x.copies (w.0, old) → dated_at e.view w old ≡ a → OwnCopy catalogue x given doubts commits a

-- no doubt among these writes the record
abbrev pub Certain : List Doubt → ℕ → Type 0
Certain doubts rec = (d : Doubt) → Has doubts d → Has (keys d.writes) rec → ⊥

-- a refresh of the record has ended in the view of the start: each other holder has answered, the copy is as new as each answer, and by its
-- table the members have more than half of the weight
pub record Refreshed (catalogue : Catalogue) (x : SiteState) (given : Input) (doubts : List Doubt) (rec : ℕ) (c : Stored) : Type 0 where
  pub r : Refreshing
  pub answers : (k : ℕ × Stored) → Has r.answers k → AnswerNow catalogue x given rec k
  pub on : r.rec ≡ rec
  pub all : is_empty (unanswered catalogue x r) ≡ true
  pub certain : Certain doubts rec
  pub newest : (k : ℕ × Stored) → Has r.answers k → AtMost k.1.date c.date
  -- it is of one of them
  pub taken : (k : ℕ × Stored) × Has r.answers k × (k.1 ≡ c)
  pub enough : accessible_by (table_or catalogue rec c.table) (members x) ≡ true

-- a copy is the own one, or one that a refresh brought
pub data CopyAt (catalogue : Catalogue) (x : SiteState) (given : Input) (doubts : List Doubt) (commits : List Commit) (a : ℕ × Stored) : Type 0 where
  here : OwnCopy catalogue x given doubts commits a → CopyAt catalogue x given doubts commits a
  refreshed : (b : Stored) → OwnCopy catalogue x given doubts commits (a.0, b) → AtMost b.date a.1.date → Refreshed catalogue x given doubts a.0 a.1 → CopyAt catalogue x given doubts commits a

pub record CopiesAt (catalogue : Catalogue) (x : SiteState) (given : Input) (o : Stepped) : Type 0 where
  pub id : o.site.id ≡ x.id
  -- where each copy is from
  pub copies : (a : ℕ × Stored) → Has o.site.copies a → CopyAt catalogue x given o.site.doubts o.effects.commits a
  -- answers are kept while the view is held
  pub answers : (r : Refreshing) (k : ℕ × Stored) → Has o.site.refresh r → Has r.answers k → AnswerNow catalogue x given r.rec k × (o.site.held ≡ x.held)

-- the newest of some copies is as new as each of them
newer_both : (own next : Stored) → AtMost own.date (newer own next).date × AtMost next.date (newer own next).date
newer_both own next = go (view_before own.date next.date) refl
  where
    go : (b : Bool) → view_before own.date next.date ≡ b → AtMost own.date (cond b next own).date × AtMost next.date (cond b next own).date
    go true e = (Precedes-at_most own.date next.date (from_before own.date next.date e), AtMost-refl next.date)
    go false e = (AtMost-refl own.date, up_to_from own.date next.date e)

pub newest_own : (own : Stored) (answers : List (ℕ × Stored)) → AtMost own.date (newest own answers).date
newest_own own [] = AtMost-refl own.date
newest_own own (a ∷ answers) = AtMost-trans _ _ _ (newer_both own a.1).0 (newest_own (newer own a.1) answers)

pub newest_each : (own : Stored) (answers : List (ℕ × Stored)) (k : ℕ × Stored) → Has answers k → AtMost k.1.date (newest own answers).date
newest_each own [] k h = absurd (has_none k h)
newest_each own (a ∷ answers) k h = ⊎_elim
    (λ (one : a ≡ k). subst (λ (k : ℕ × Stored). AtMost k.1.date (newest (newer own a.1) answers).date) one (AtMost-trans _ _ _ (newer_both own a.1).1 (newest_own (newer own a.1) answers)))
    (λ more. newest_each (newer own a.1) answers k more)
    (has_cons a answers k h)

pub replaced_not : (n : ℕ) (v : Stored) (pairs : List (ℕ × Stored)) (a : ℕ × Stored) → Has (replace_at n v pairs) a → (a ≡ (n, v)) ⊎ (Has pairs a × (n ≢ a.0))
replaced_not n v pairs a h = let r = map_has (λ (p : ℕ × Stored). cond (p.0 == n) (n, v) p) pairs a h in go (r.0.0 == n) r.0 refl r.1 r.2
  where
    differs : (c b : ℕ) → (c == b) ≡ false → b ≢ c
    differs c b e = grind (arith, nat_tests, e)

    go : (b : Bool) (p : ℕ × Stored) → (p.0 == n) ≡ b → Has pairs p → cond b (n, v) p ≡ a → (a ≡ (n, v)) ⊎ (Has pairs a × (n ≢ a.0))
    go true p t k e = inl (sym e)
    go false p t k e = inr (rw (← e) k, (λ z. differs p.0 n t (z ∙ ap (λ (q : ℕ × Stored). q.0) (sym e))))

module _ (catalogue : Catalogue) (x : SiteState) (given : Input) (tidy : Tidy x) (listed : (r : Refreshing) → Has x.refresh r → (v : View) × (x.held ≡ Some v)) (once : OnceEach x given) where
  abbrev P : Stepped → Type 0
  P = CopiesAt catalogue x given

  at_start : (rec : ℕ) → Untaken catalogue x given x.doubts [] rec
  at_start rec = record { outcome = λ from d c f k. find_has (λ (u : Doubt). same_txn u.txn d.txn) x.doubts d f; entered = λ e h k. has_none e h }

  kept : (a : ℕ × Stored) → Has x.copies a → CopyAt catalogue x given x.doubts [] a
  kept a h = CopyAt.here (OwnCopy.still h (at_start a.0))

  pub starts : P (begin_step x)
  starts = record { id = refl; copies = kept; answers = λ r k h a. (AnswerNow.was r h refl a, refl) }

  -- copies and refreshes stay, in the same view
  same : (o e : Stepped) → e.site.id ≡ o.site.id → e.site.held ≡ o.site.held → e.site.copies ≡ o.site.copies → e.site.refresh ≡ o.site.refresh → e.effects.commits ≡ o.effects.commits → e.site.doubts ≡ o.site.doubts → P o → P e
  same o e i v c r cs ds p = record {
    id = i ∙ p.id;
    copies = λ a h. rw (cs, ds) (p.copies a (rw c at h));
    answers = λ q k h a. let z = p.answers q k (rw r at h) a in (z.0, v ∙ z.1);
  }

  -- or no record is under refresh
  fresh : (o e : Stepped) → e.site.id ≡ o.site.id → e.site.copies ≡ o.site.copies → ((r : Refreshing) → Has e.site.refresh r → ⊥) → e.effects.commits ≡ o.effects.commits → e.site.doubts ≡ o.site.doubts → P o → P e
  fresh o e i c none cs ds p = record {
    id = i ∙ p.id;
    copies = λ a h. rw (cs, ds) (p.copies a (rw c at h));
    answers = λ q k h a. absurd (none q h);
  }

  drops : (l : Lent) → P (put_back (begin_step x) l) → P (drop_view (put_back (begin_step x) l))
  unfolding drop_view
  drops l p = fresh (put_back (begin_step x) l) (drop_view (put_back (begin_step x) l)) refl refl (λ r h. has_none r h) refl refl p

  left_none : (o : Stepped) → Left x o → (r : Refreshing) → Has o.site.refresh r → ⊥
  left_none o l r h = has_none r (rw l.refresh at h)

  takes : (r : Refreshing) (own : Stored) (o : Stepped) → (accessible_by (judging catalogue r own) (members o.site) ≡ true → CopyAt catalogue x given o.site.doubts o.effects.commits (r.rec, newest own r.answers)) → P o → P (judged catalogue r own o)
  takes r own o new p = judged-cases P catalogue r own o
      (λ enough. record {
        id = p.id;
        copies = λ a h. ⊎_elim (λ (is : a ≡ (r.rec, newest own r.answers)). rw is (new enough)) (λ old. p.copies a old) (replaced_from r.rec (newest own r.answers) o.site.copies a h);
        answers = p.answers;
      })
      p (record { id = p.id; copies = p.copies; answers = p.answers })

  finishes : (rec : ℕ) (r : Refreshing) (own : Stored) (o : Stepped) → refreshing_of rec o.site.refresh ≡ Some r → is_empty (unanswered catalogue o.site r) ≡ true → is_doubtful o.site r.rec ≡ false → value_at r.rec o.site.copies ≡ Some own → P o → P (end_refresh catalogue r own o)
  unfolding end_refresh unlist
  finishes rec r own o e all sure v p = removes (judged catalogue r own o) (takes r own o new p)
    where
      there : Has o.site.refresh r
      there = find_has (λ (q : Refreshing). q.rec == rec) o.site.refresh r e

      new : accessible_by (judging catalogue r own) (members o.site) ≡ true → CopyAt catalogue x given o.site.doubts o.effects.commits (r.rec, newest own r.answers)
      new enough = ⊎_elim
          (λ (is : newest own r.answers ≡ own). rw is (p.copies (r.rec, own) (value_pair r.rec o.site.copies own v)))
          (λ (q : (k : ℕ × Stored) × Has r.answers k × (k.1 ≡ newest own r.answers)). over (ended q enough) (p.copies (r.rec, own) (value_pair r.rec o.site.copies own v)))
          (newest_from own r.answers)
        where
          certain : Certain o.site.doubts r.rec
          certain d h k = let t = any_false (λ (d : Doubt). has (keys d.writes) r.rec) o.site.doubts sure d h in let z = has_test (keys d.writes) r.rec k in cc

          ended : (k : ℕ × Stored) × Has r.answers k × (k.1 ≡ newest own r.answers) → accessible_by (judging catalogue r own) (members o.site) ≡ true → Refreshed catalogue x given o.site.doubts r.rec (newest own r.answers)
          ended q enough = record {
            r = r;
            answers = λ k h. (p.answers r k there h).0;
            on = refl;
            all = rw (sym p.id, sym (p.answers r q.0 there q.1).1) all;
            certain = certain;
            newest = newest_each own r.answers;
            taken = q;
            enough = rw (sym (p.answers r q.0 there q.1).1) enough;
          }

          over : Refreshed catalogue x given o.site.doubts r.rec (newest own r.answers) → CopyAt catalogue x given o.site.doubts o.effects.commits (r.rec, own) → CopyAt catalogue x given o.site.doubts o.effects.commits (r.rec, newest own r.answers)
          over f (CopyAt.here q) = CopyAt.refreshed own q (newest_own own r.answers) f
          over f (CopyAt.refreshed b q le before) = CopyAt.refreshed b q (AtMost-trans _ _ _ le (newest_own own r.answers)) f

      removes : (n : Stepped) → P n → P (record n { site = record n.site { here = record n.site.here { locks = without_guard r.rec n.site.locks }; refresh = filter (λ other. not (other.rec == r.rec)) n.site.refresh } })
      removes n g = record { id = g.id; copies = g.copies; answers = λ q k h a. g.answers q k (filter_has (λ (other : Refreshing). not (other.rec == r.rec)) n.site.refresh q h).0 a }

  refreshes : (view : View) (rec : ℕ) (o : Stepped) → P o → P (start_refresh catalogue view rec o)
  unfolding start_refresh
  refreshes view rec o p = record {
    id = p.id;
    copies = p.copies;
    answers = λ r k h a. ⊎_elim
        (λ (new : r ≡ record { rec = rec; answers = [] }). absurd (has_none k (rw (ap (λ (r : Refreshing). r.answers) new) at a)))
        (λ old. p.answers r k old a)
        (put_has (λ (a : Refreshing) (b : Refreshing). a.rec == b.rec) (λ (a : Refreshing) (b : Refreshing). nat_lt a.rec b.rec) (record { rec = rec; answers = [] }) o.site.refresh r h);
  }

  keeps_answer : (from : ℕ) (view : ViewId) (rec : ℕ) (stored : Stored) (r : Refreshing) → Comes given from (message.RefreshAnswer view rec stored) → holds_view x view ≡ true → refreshing_of rec x.refresh ≡ Some r → has (unanswered catalogue x r) from ≡ true → P (record (begin_step x) { site = record x { refresh = map (with_answer rec from stored) x.refresh } })
  keeps_answer from view rec stored r c held f u = record {
    id = refl;
    copies = kept;
    answers = λ q k h a. let z = map_has (with_answer rec from stored) x.refresh q h in (go z.0 z.1 (z.0.rec == rec) refl q k z.2 a, refl);
  }
    where
      go : (old : Refreshing) → Has x.refresh old → (b : Bool) → (old.rec == rec) ≡ b → (q : Refreshing) (k : ℕ × Stored) → cond b (record old { answers = put_at from stored old.answers }) old ≡ q → Has q.answers k → AnswerNow catalogue x given q.rec k
      go old there false e q k same a = AnswerNow.was old there (ap (λ (r : Refreshing). r.rec) same) (rw (← (ap (λ (r : Refreshing). r.answers) same)) at a)
      go old there true e q k same a = ⊎_elim
          (λ (new : k ≡ (from, stored)). subst (λ (n : ℕ). AnswerNow catalogue x given n k) (sym (eqb-true old.rec rec e) ∙ ap (λ (r : Refreshing). r.rec) same)
          (AnswerNow.came from view r stored c (sym new) held (find_has (λ (q : Refreshing). q.rec == rec) x.refresh r f) (eqb-true r.rec rec (find_true (λ (q : Refreshing). q.rec == rec) x.refresh r f)) u))
          (λ before. AnswerNow.was old there (ap (λ (r : Refreshing). r.rec) same) before)
          (put_has (λ (a : ℕ × Stored) (b : ℕ × Stored). a.0 == b.0) (λ (a : ℕ × Stored) (b : ℕ × Stored). nat_lt a.0 b.0) (from, stored) old.answers k (rw (← (ap (λ (r : Refreshing). r.answers) same)) at a))

  -- copies as the step began, where no doubt with a copy goes
  taken_none : (e : Stepped) → e.site.id ≡ x.id → e.site.held ≡ x.held → e.site.copies ≡ x.copies → e.site.refresh ≡ x.refresh → e.effects.commits ≡ [] → ((from : ℕ) (d : Doubt) → Comes given from (message.Outcome d.txn true) → doubt_of d.txn x.doubts ≡ Some d → Has e.site.doubts d) → P e
  taken_none e i v c r cs keep = record {
    id = i;
    copies = λ a h. CopyAt.here (OwnCopy.still (rw c at h) (record { outcome = λ from d k f z. keep from d k f; entered = λ u h z. has_none u (rw cs at h) }));
    answers = λ q k h a. let z = starts.answers q k (rw r at h) a in (z.0, v ∙ z.1);
  }

  ends_here : (from : ℕ) (txn : TxnId) (commit : Bool) (doubt : Option Doubt) → doubt_of txn x.doubts ≡ doubt → Comes given from (message.Outcome txn commit) → P (end_here from txn commit doubt (begin_step x))
  unfolding end_here
  ends_here from txn true None f c = taken_none _ refl refl refl refl refl (λ other d k g. absurd (let same : d.txn ≡ txn = (let z = sym k ∙ c in cc) in let h : doubt_of txn x.doubts ≡ Some d = subst (λ (t : TxnId). doubt_of t x.doubts ≡ Some d) same g in cc))
  ends_here from txn false None f c = taken_none _ refl refl refl refl refl (λ other d k g. absurd (let z = sym k ∙ c in cc))
  ends_here from txn false (Some d) f c = taken_none _ refl refl refl refl refl (λ other u k g. absurd (let z = sym k ∙ c in cc))
  ends_here from txn true (Some d) f c = record {
    id = refl;
    copies = λ a h. ⊎_elim
        (λ (q : (w : ℕ × Change) × Has d.writes w × (old : Stored) × Has x.copies (w.0, old) × (dated_at d.view w old ≡ a)). CopyAt.here (OwnCopy.outcome from d q.0 comes there q.1 q.2 q.3 q.4 gone))
        (λ (old : Has x.copies a × (Has (keys d.writes) a.0 → ⊥)). CopyAt.here (OwnCopy.still old.0 (record { outcome = λ other u k g z. absurd (old.1 (subst (λ (d : Doubt). Has (keys d.writes) a.0) (only u other k g) z)); entered = λ e h z. has_none e h })))
        (written_from d.view d.writes (once from d comes there) x.copies a h);
    answers = starts.answers;
  }
    where
      is_named : d.txn ≡ txn
      is_named = same_txn-is d.txn txn (find_true (λ (d : Doubt). same_txn d.txn txn) x.doubts d f)

      there : Has x.doubts d
      there = find_has (λ (d : Doubt). same_txn d.txn txn) x.doubts d f

      comes : Comes given from (message.Outcome d.txn true)
      comes = c ∙ ap (λ (t : TxnId). input.Message from (message.Outcome t true)) (sym is_named)

      gone : (u : Doubt) → Has (without_doubt txn x.doubts) u → u.txn ≢ d.txn
      gone u h same = same_txn-clash u.txn txn (filter_has (λ (d : Doubt). not (same_txn d.txn txn)) x.doubts u h).1 (same ∙ is_named)

      only : (u : Doubt) (other : ℕ) → Comes given other (message.Outcome u.txn true) → doubt_of u.txn x.doubts ≡ Some u → u ≡ d
      only u other k g =
          let same : u.txn ≡ txn = (let z = sym k ∙ c in cc) in
          let h : doubt_of txn x.doubts ≡ Some u = subst (λ (t : TxnId). doubt_of t x.doubts ≡ Some u) same g in
          cc

  abbrev K : Lent → Type 0
  K = Back x P

  quiet : (l now : Lent) → now.copies ≡ l.copies → now.effects.commits ≡ l.effects.commits → K l → K now
  quiet l now c cs p = same (put_back (begin_step x) l) (put_back (begin_step x) now) refl refl c refl cs refl p

  closes : (t : Live) (why : Ending) (l : Lent) → K l → K (close x.id t why l)
  closes t why l p = quiet l (close x.id t why l) (ap (λ (h : Here). h.copies) (close-ends x.id t why l).here) (close-commits x.id t why l) p

  decides : (t : Live) → K (decide catalogue x.id t (lent_at x))
  unfolding keep_writes
  decides t = decide-cases K catalogue x.id t (lent_at x)
      (λ e. record {
        id = refl;
        copies = λ a h. CopyAt.here (OwnCopy.still (rw (ap (λ (h : Here). h.copies) (decided-ends x.id t (lent_at x)).here) at h) (record {
          outcome = λ from d c f k. find_has (λ (u : Doubt). same_txn u.txn d.txn) x.doubts d f;
          entered = λ u g k. wrote_none u (has_one_is (entry_of t) u (rw (decided-commits x.id t (lent_at x)) at g)) (is_none (last_changes (entry_of t)) e) a.0 k;
        }));
        answers = starts.answers;
      })
      (λ e. let l = keep_writes catalogue x.id t (lent_at x) in record {
        id = refl;
        copies = λ a h. ⊎_elim
            (λ (q : (w : ℕ × Change) × Has (writes_held catalogue x.id (last_changes (entry_of t))) w × (old : Stored) × Has x.copies (w.0, old) × (dated_at t.view w old ≡ a)). CopyAt.here (OwnCopy.entered (entry_of t) q.0 (rw (decided-commits x.id t l) (has_one _)) q.1 q.2 q.3 q.4))
            (λ (old : Has x.copies a × (Has (keys (writes_held catalogue x.id (last_changes (entry_of t)))) a.0 → ⊥)). CopyAt.here (OwnCopy.still old.0 (record {
              outcome = λ from d c f k. find_has (λ (u : Doubt). same_txn u.txn d.txn) x.doubts d f;
              entered = λ u g k. old.1 (subst (λ (u : Commit). Has (keys (writes_held catalogue x.id (last_changes u))) a.0) (sym (has_one_is (entry_of t) u (rw (decided-commits x.id t l) at g))) k);
            })))
            (written_from t.view (writes_held catalogue x.id (last_changes (entry_of t))) (held_differ catalogue x.id (entry_of t)) x.copies a (rw (ap (λ (h : Here). h.copies) (decided-ends x.id t l).here) at h));
        answers = starts.answers;
      })
    where
      is_none : (ws : List (ℕ × Change)) → is_empty ws ≡ true → ws ≡ []
      is_none [] e = refl
      is_none (w ∷ ws) e = cc

      wrote_none : (u : Commit) → entry_of t ≡ u → last_changes (entry_of t) ≡ [] → (rec : ℕ) → Has (keys (writes_held catalogue x.id (last_changes u))) rec → ⊥
      wrote_none u is none rec k =
          let same : last_changes u ≡ [] = ap last_changes (sym is) ∙ none in
          has_none rec (subst (λ (ws : List (ℕ × Change)). Has (keys (writes_held catalogue x.id ws)) rec) same k)

  pub table : Table catalogue x given P
  unfolding on_stale on_accept hold fix ask_again start_inviting accept grant start_txn take_lock complete read_at write_at prepare_parts mark_calls resend_one inquire
  table = record {
    sends_back = λ from m t. same (begin_step x) _ refl refl refl refl refl refl starts;
    asks_again = λ o ms all p. same o _ refl refl refl refl refl refl p;
    drop_view = λ l e z p. drops l p;
    start_inviting = λ o s l p. fresh o _ refl refl (left_none o l) refl refl p;
    accept = λ from id o c e l p. fresh o _ refl refl (left_none o l) refl refl p;
    accepted = λ from id c. same (begin_step x) _ refl refl refl refl refl refl starts;
    seen = λ from id promise c. same (begin_step x) _ refl refl refl refl refl refl starts;
    hold = λ from id members c e. fresh (begin_step x) _ refl refl (none_refreshed x listed (tidy.waiting id (is_view_is x.waiting id (both_true _ _ e).0)).1) refl refl starts;
    heard = λ from view c e. same (begin_step x) _ refl refl refl refl refl refl starts;
    fix = λ view c e. fresh (begin_step x) _ refl refl (none_refreshed x listed (tidy.inviting (view.id, view.members) e).1) refl refl starts;
    without_wait = λ id c i w. same (begin_step x) _ refl refl refl refl refl refl starts;
    probe = λ view c e. same (begin_step x) _ refl refl refl refl refl refl starts;
    answers_inviting = λ port c s p. same _ _ refl refl refl refl refl refl p;
    start_refresh = λ view rec o e h p. refreshes view rec o p;
    end_refresh = λ rec r own o e a d v p. finishes rec r own o e a d v p;
    keep_answer = λ from view rec stored r c e f g. keeps_answer from view rec stored r c e f g;
    grant_read = λ from txn view number rec stored c e n v f u. taken_none _ refl refl refl refl refl (λ other u k g. absurd (let z = sym k ∙ c in cc));
    grant_write = λ from txn view number rec stored c e n v f u. taken_none _ refl refl refl refl refl (λ other u k g. absurd (let z = sym k ∙ c in cc));
    vote_reading = λ from txn view number reads writes part c e n d f v a w. same (begin_step x) _ refl refl refl refl refl refl starts;
    vote_writing = λ from txn view number reads writes part c e n d f v a w. taken_none _ refl refl refl refl refl (λ other u k g. absurd (let z = sym k ∙ c in cc));
    end_here = λ from txn commit c. ends_here from txn commit (doubt_of txn x.doubts) refl c;
    coordinator = record {
      begin = λ port view e g u. quiet (lent_at x) _ refl refl starts;
      answers = λ words port why y. quiet (lent_at x) _ refl refl starts;
      take_lock = λ t rec exclusive stored h i a v c. quiet (lent_at x) _ refl refl starts;
      complete = λ t p deed l h g y e q. quiet l _ refl refl q;
      read_at = λ t p rec q h n r a w c o y. quiet (lent_at x) _ refl refl starts;
      write_at = λ t p rec value l h n w a e o d y v q. quiet l _ refl refl q;
      prepare_parts = λ t p h i g e. quiet (lent_at x) _ refl refl starts;
      still_waits = λ t p from h e m f c. quiet (lent_at x) _ refl refl starts;
      decide = λ t n d. decides t;
      close = λ t why l n a z y q. closes t why l q;
      mark_calls = λ l c z q. quiet l _ refl refl q;
      acknowledge = λ from txn c w. quiet (lent_at x) _ refl refl starts;
    };
    resend_one = λ d o c h p. same o _ refl refl refl refl refl refl p;
  }
