-- Why a record is not under refresh after a step: it was not before, in the same view; its refresh has ended; or the view is joined
-- now.
use Rattle.std.proofs.Common.{◌≡◌, ◌≢◌, ◌⊎◌, ◌∙◌, ap, sym, subst, ℕ, Bool, true, false, cond, List, [], ◌∷◌, refl, arith, inl, inr, ⊎_elim}
use Rattle.std.specs.Prelude.{Option, Some, None, filter, find, option_map, not, ◌==◌, ◌&&◌, nat_lt}
use Rattle.std.proofs.lemmas.Bool.{eqb-true}
use Rattle.std.proofs.lemmas.Bool.Decides.{nat_tests}
use Rattle.vp_model.specs.Types.{TxnId, View, Input, Stored, Live, Ending, Refreshing, Doubt}
use Rattle.vp_base.specs.declared.site.Ending.TheVariants.{Committed}
use Rattle.vp_model.specs.Transactions.{keep_writes, complete, decide}
use Rattle.vp_model.specs.Calls.{start_txn, take_lock, read_at, write_at, prepare_parts}
use Rattle.vp_model.specs.Types.log_record
use Rattle.vp_model.specs.Types.input
use Rattle.vp_model.specs.Types.message
use Rattle.vp_model.specs.Words.{keys, put, put_at, view_before, replace_at, value_at, is_empty, is_view, has}
use Rattle.vp_model.specs.Catalogue.{Catalogue, Table as Weights, table_or, accessible_by, weight_inside, weight_total}
use Rattle.vp_model.specs.Locks.{without_guard}
use Rattle.vp_model.specs.Site.{Here, SiteState, Lent, Stepped, begin_step, put_back, force, change_copies, change_bars}
use Rattle.vp_model.specs.Refresh.{members, newest, take_newer, with_bar, unlist, end_refresh, start_refresh, refreshing_of, unanswered, is_doubtful}
use Rattle.vp_model.specs.Views.{drop_view, start_inviting, hold}
use Rattle.vp_model.specs.Durable.{doubt_of}
use Rattle.vp_model.specs.Messages.{with_answer, accept, on_accept, on_stale, grant, end_here}
use Rattle.vp_model.specs.Step.{fix, mark_calls, ask_again, resend_one, inquire, step}
use Rattle.vp_laws.proofs.Lists.Members.{Has, filter_keeps, find_has}
use Rattle.vp_laws.proofs.Lists.Changes.{mapped_has, put_new, put_old}
use Rattle.vp_laws.proofs.Lists.Views.{Precedes, from_before, not_both, same_site}
use Rattle.vp_laws.proofs.Journal.Order.{Precedes-trans}
use Rattle.vp_laws.proofs.Journal.Play.{value_put}
use Rattle.vp_laws.proofs.Moves.Frames.{Ends, close-ends, decided-ends, decide-cases, judging, judged}
use Rattle.vp_laws.proofs.Moves.Table.{Comes, Left, lent_at, Back, Table}
use Rattle.vp_laws.proofs.Table.Copies.{AnswerNow}
use Rattle.vp_laws.proofs.Table.CopyAt.{CopiesAt}
use Rattle.vp_laws.proofs.Table.Listed.{IsUnlisted, ListedNow, Listing}
use Rattle.vp_laws.proofs.Table.Barred.{Barring}
use Rattle.vp_laws.proofs.Moves.Rows.{step-keeps}
use Rattle.vp_laws.proofs.Journal.UpTo.{up_to_from}
use Rattle.vp_laws.proofs.Lists.Numbers.{eq_not, eq_self}

-- a bar has the sums by this table over these sites
abbrev pub sums_of : Weights → List ℕ → ℕ × ℕ
sums_of t sites = (weight_inside sites t, weight_total t)

-- how a refresh has ended: the newest copy is here, and by its table the members have more than half of the weight; or the own copy stays, and
-- the record is barred by that table
pub data Verdict (catalogue : Catalogue) (o : Stepped) (r : Refreshing) (rec : ℕ) : Type 0 where
  taken : (own : Stored) → value_at rec o.site.bars ≡ None → value_at rec o.site.copies ≡ Some (newest own r.answers) → accessible_by (table_or catalogue rec (newest own r.answers).table) (members o.site) ≡ true → Verdict catalogue o r rec
  barred : (own : Stored) → value_at rec o.site.bars ≡ Some (sums_of (table_or catalogue rec (newest own r.answers).table) (members o.site)) → value_at rec o.site.copies ≡ Some own → accessible_by (table_or catalogue rec (newest own r.answers).table) (members o.site) ≡ false → Verdict catalogue o r rec

-- each other holder has answered, and no doubt here is on the record
pub record Ended (catalogue : Catalogue) (x : SiteState) (given : Input) (o : Stepped) (rec : ℕ) : Type 0 where
  pub r : Refreshing
  pub on : r.rec ≡ rec
  pub answers : (k : ℕ × Stored) → Has r.answers k → AnswerNow catalogue x given rec k × (o.site.held ≡ x.held)
  pub all : is_empty (unanswered catalogue o.site r) ≡ true
  pub certain : is_doubtful o.site rec ≡ false
  -- it has a copy here, and was under refresh
  pub copied : Has (keys x.copies) rec
  pub since : ListedNow x o rec
  -- how it has ended
  pub verdict : Verdict catalogue o r rec

-- the view is joined now: its members came, or the invitation to it ends
pub data Joins (x : SiteState) (given : Input) (view : View) : Type 0 where
  came : (from : ℕ) → Comes given from (message.ViewCommit view.id view.members) → (is_view x.waiting view.id && has view.members x.id) ≡ true → Joins x given view
  fixed : given ≡ input.Tick → x.inviting ≡ Some (view.id, view.members) → Joins x given view

pub data Unlisted (catalogue : Catalogue) (x : SiteState) (given : Input) (o : Stepped) (rec : ℕ) : Type 0 where
  still : IsUnlisted x.refresh rec → o.site.held ≡ x.held → value_at rec o.site.bars ≡ value_at rec x.bars → Unlisted catalogue x given o rec
  ended : Ended catalogue x given o rec → Unlisted catalogue x given o rec
  joined : (view : View) → o.site.held ≡ Some view → Joins x given view → Unlisted catalogue x given o rec

-- where copies are from, which records are under refresh, and which are barred
abbrev pub Base : Catalogue → SiteState → Input → Stepped → Type 0
Base catalogue x given o = CopiesAt catalogue x given o × (Listing catalogue x given o × Barring catalogue x given o)

pub record Unlisting (catalogue : Catalogue) (x : SiteState) (given : Input) (o : Stepped) : Type 0 where
  pub base : Base catalogue x given o
  -- while a view is held, why each record that is not under refresh is not
  pub unlisted : (rec : ℕ) (v : View) → o.site.held ≡ Some v → IsUnlisted o.site.refresh rec → Unlisted catalogue x given o rec

value_replaced : (n k : ℕ) (v : Stored) (pairs : List (ℕ × Stored)) → n ≢ k → value_at k (replace_at n v pairs) ≡ value_at k pairs
value_replaced n k v [] d = refl
value_replaced n k v (p ∷ pairs) d = go (p.0 == n) (p.0 == k) refl refl (value_replaced n k v pairs d)
  where
    go : (a b : Bool) → (p.0 == n) ≡ a → (p.0 == k) ≡ b → value_at k (replace_at n v pairs) ≡ value_at k pairs → value_at k (cond a (n, v) p ∷ replace_at n v pairs) ≡ option_map (λ (q : ℕ × Stored). q.1) (cond b (Some p) (find (λ (q : ℕ × Stored). q.0 == k) pairs))
    go true true e f i = absurd (d (sym (eqb-true p.0 n e) ∙ eqb-true p.0 k f))
    go true false e f i = let t : (n == k) ≡ false = grind (arith, nat_tests, d) in rw t i
    go false true e f i = rw f refl
    go false false e f i = rw f i

-- what is replaced is there
value_replaced_here : (n : ℕ) (v w : Stored) (pairs : List (ℕ × Stored)) → value_at n pairs ≡ Some w → value_at n (replace_at n v pairs) ≡ Some v
value_replaced_here n v w [] e = cc
value_replaced_here n v w (p ∷ pairs) e = go (p.0 == n) refl e (λ q. value_replaced_here n v w pairs q)
  where
    go : (b : Bool) → (p.0 == n) ≡ b → option_map (λ (q : ℕ × Stored). q.1) (cond b (Some p) (find (λ (q : ℕ × Stored). q.0 == n) pairs)) ≡ Some w → (value_at n pairs ≡ Some w → value_at n (replace_at n v pairs) ≡ Some v) → value_at n (cond b (n, v) p ∷ replace_at n v pairs) ≡ Some v
    go true q f rest = let t : (n == n) ≡ true = eq_self n in rw t refl
    go false q f rest = rw q (rest f)

-- the newest copy is the own one, or has a later date
newest_later : (own : Stored) (answers : List (ℕ × Stored)) → (newest own answers ≡ own) ⊎ Precedes own.date (newest own answers).date
newest_later own [] = inl refl
newest_later own (a ∷ answers) = go (view_before own.date a.1.date) refl (newest_later own answers) (newest_later a.1 answers)
  where
    go : (b : Bool) → view_before own.date a.1.date ≡ b → (newest own answers ≡ own) ⊎ Precedes own.date (newest own answers).date → (newest a.1 answers ≡ a.1) ⊎ Precedes a.1.date (newest a.1 answers).date → (newest (cond b a.1 own) answers ≡ own) ⊎ Precedes own.date (newest (cond b a.1 own) answers).date
    go false e rest its = rest
    go true e rest its = ⊎_elim
        (λ (same : newest a.1 answers ≡ a.1). inr (subst (λ (c : Stored). Precedes own.date c.date) (sym same) (from_before own.date a.1.date e)))
        (λ (later : Precedes a.1.date (newest a.1 answers).date). inr (Precedes-trans own.date a.1.date (newest a.1 answers).date (from_before own.date a.1.date e) later))
        its

-- where it isn't later it is the own one
newest_is_own : (own : Stored) (answers : List (ℕ × Stored)) → view_before own.date (newest own answers).date ≡ false → newest own answers ≡ own
newest_is_own own answers e = ⊎_elim (λ same. same) (λ later. absurd (not_both own.date (newest own answers).date later (up_to_from own.date (newest own answers).date e))) (newest_later own answers)

-- the same of the copy and the bar
pub verdict_on : (catalogue : Catalogue) (o e : Stepped) (r : Refreshing) (rec : ℕ) → e.site.held ≡ o.site.held → value_at rec e.site.copies ≡ value_at rec o.site.copies → value_at rec e.site.bars ≡ value_at rec o.site.bars → Verdict catalogue o r rec → Verdict catalogue e r rec
verdict_on catalogue o e r rec v c bs (Verdict.taken own free copy a) = Verdict.taken own (bs ∙ free) (c ∙ copy) (rw v a)
verdict_on catalogue o e r rec v c bs (Verdict.barred own bar copy a) = Verdict.barred own (rw v (bs ∙ bar)) (c ∙ copy) (rw v a)

pub listed_on : {x : SiteState} (o e : Stepped) (rec : ℕ) → e.site.held ≡ o.site.held → ListedNow x o rec → ListedNow x e rec
listed_on o e rec v (ListedNow.still r h is same_view) = ListedNow.still r h is (v ∙ same_view)
listed_on o e rec v (ListedNow.joined view now origin) = ListedNow.joined view (v ∙ now) origin

pub ended_on : (catalogue : Catalogue) (x : SiteState) (given : Input) (o e : Stepped) (rec : ℕ) → e.site.id ≡ o.site.id → e.site.held ≡ o.site.held → e.site.doubts ≡ o.site.doubts → value_at rec e.site.copies ≡ value_at rec o.site.copies → value_at rec e.site.bars ≡ value_at rec o.site.bars → Ended catalogue x given o rec → Ended catalogue x given e rec
ended_on catalogue x given o e rec i v d c bs q = record {
  r = q.r;
  on = q.on;
  answers = λ k h. let z = q.answers k h in (z.0, v ∙ z.1);
  all = rw (i, v) q.all;
  certain = rw d q.certain;
  copied = q.copied;
  since = listed_on o e rec v q.since;
  verdict = verdict_on catalogue o e q.r rec v c bs q.verdict;
}

-- after the end of a refresh was judged
pub record Took (catalogue : Catalogue) (r : Refreshing) (own : Stored) (o n : Stepped) : Type 0 where
  pub id : n.site.id ≡ o.site.id
  pub held : n.site.held ≡ o.site.held
  pub doubts : n.site.doubts ≡ o.site.doubts
  pub refresh : n.site.refresh ≡ o.site.refresh
  pub other : (k : ℕ) → r.rec ≢ k → value_at k n.site.copies ≡ value_at k o.site.copies
  pub bars : (k : ℕ) → r.rec ≢ k → value_at k n.site.bars ≡ value_at k o.site.bars
  pub verdict : Verdict catalogue n r r.rec

pub took : (catalogue : Catalogue) (r : Refreshing) (own : Stored) (o : Stepped) → value_at r.rec o.site.copies ≡ Some own → value_at r.rec o.site.bars ≡ None → Took catalogue r own o (judged catalogue r own o)
unfolding take_newer
took catalogue r own o v free = go (accessible_by (judging catalogue r own) (members o.site)) refl
  where
    best : Stored
    best = newest own r.answers

    newer : accessible_by (judging catalogue r own) (members o.site) ≡ true → (b : Bool) → view_before own.date best.date ≡ b → Took catalogue r own o (cond b (force (log_record.Copy r.rec best) (change_copies (replace_at r.rec best) o)) o)
    newer a true e = record {
      id = refl;
      held = refl;
      doubts = refl;
      refresh = refl;
      other = λ k d. value_replaced r.rec k best o.site.copies d;
      bars = λ k d. refl;
      verdict = Verdict.taken own free (value_replaced_here r.rec best own o.site.copies v) a;
    }
    newer a false e = record {
      id = refl;
      held = refl;
      doubts = refl;
      refresh = refl;
      other = λ k d. refl;
      bars = λ k d. refl;
      verdict = Verdict.taken own free (v ∙ ap (λ (c : Stored). Some c) (sym (newest_is_own own r.answers e))) a;
    }

    go : (b : Bool) → accessible_by (judging catalogue r own) (members o.site) ≡ b → Took catalogue r own o (cond b (take_newer r.rec own best o) (change_bars (with_bar r.rec (judging catalogue r own) (members o.site)) o))
    go true a = newer a (view_before own.date best.date) refl
    go false a = record {
      id = refl;
      held = refl;
      doubts = refl;
      refresh = refl;
      other = λ k d. refl;
      bars = λ k d. value_put k r.rec (sums_of (judging catalogue r own) (members o.site)) o.site.bars ∙ rw (eq_not r.rec k d) refl;
      verdict = Verdict.barred own (value_put r.rec r.rec (sums_of (judging catalogue r own) (members o.site)) o.site.bars ∙ rw (eq_self r.rec) refl) v a;
    }

module _ (catalogue : Catalogue) (x : SiteState) (given : Input) (b : Table catalogue x given (Base catalogue x given)) (begun : Base catalogue x given (begin_step x)) where
  abbrev P : Stepped → Type 0
  P = Unlisting catalogue x given

  -- in the view of the start, with all that was under refresh then
  first : (e : Stepped) → Base catalogue x given e → e.site.held ≡ x.held → e.site.bars ≡ x.bars → ((r : Refreshing) → Has x.refresh r → (q : Refreshing) × Has e.site.refresh q × (q.rec ≡ r.rec)) → P e
  first e base v bs sub = record { base = base; unlisted = λ rec u h none. Unlisted.still (λ r g is. let q = sub r g in none q.0 q.1 (q.2 ∙ is)) v (ap (value_at rec) bs) }

  stays : (e : Stepped) → Base catalogue x given e → e.site.held ≡ x.held → e.site.bars ≡ x.bars → e.site.refresh ≡ x.refresh → P e
  stays e base v bs r = first e base v bs (λ q h. (q, rw r h, refl))

  gone : (e : Stepped) → e.site.held ≡ None → Base catalogue x given e → P e
  gone e v base = record { base = base; unlisted = λ rec u h none. absurd (let z = v in cc) }

  left_none : (o : Stepped) → Left x o → o.site.held ≡ None
  left_none o l = ap (λ v. v.held) l.views

  on : (o e : Stepped) (rec : ℕ) → e.site.id ≡ o.site.id → e.site.held ≡ o.site.held → e.site.doubts ≡ o.site.doubts → value_at rec e.site.copies ≡ value_at rec o.site.copies → value_at rec e.site.bars ≡ value_at rec o.site.bars → Unlisted catalogue x given o rec → Unlisted catalogue x given e rec
  on o e rec i v d c bs (Unlisted.still none same was) = Unlisted.still none (v ∙ same) (bs ∙ was)
  on o e rec i v d c bs (Unlisted.joined view now origin) = Unlisted.joined view (v ∙ now) origin
  on o e rec i v d c bs (Unlisted.ended q) = Unlisted.ended (ended_on catalogue x given o e rec i v d c bs q)

  same : (o e : Stepped) → e.site.id ≡ o.site.id → e.site.held ≡ o.site.held → e.site.doubts ≡ o.site.doubts → e.site.copies ≡ o.site.copies → e.site.bars ≡ o.site.bars → ((r : Refreshing) → Has o.site.refresh r → (q : Refreshing) × Has e.site.refresh q × (q.rec ≡ r.rec)) → Base catalogue x given e → P o → P e
  same o e i v d c bs sub base p = record { base = base; unlisted = λ rec u h none. on o e rec i v d (ap (value_at rec) c) (ap (value_at rec) bs) (p.unlisted rec u (sym v ∙ h) (λ r g is. let q = sub r g in none q.0 q.1 (q.2 ∙ is))) }

  abbrev unguarded : Refreshing → Stepped → Stepped
  unguarded r n = record n { site = record n.site { here = record n.site.here { locks = without_guard r.rec n.site.locks }; refresh = filter (λ other. not (other.rec == r.rec)) n.site.refresh } }

  differs : (a b c : ℕ) → a ≡ b → c ≢ b → not (a == c) ≡ true
  differs a b c e n = let t : (a == c) ≡ false = grind (arith, nat_tests, e, n) in rw t refl

  removes : (rec : ℕ) (r : Refreshing) (own : Stored) (o n : Stepped) → refreshing_of rec o.site.refresh ≡ Some r → is_empty (unanswered catalogue o.site r) ≡ true → is_doubtful o.site r.rec ≡ false → Took catalogue r own o n → P o → Base catalogue x given (unguarded r n) → P (unguarded r n)
  removes rec r own o n e a d t p base = record { base = base; unlisted = λ k u h none. go k u (sym t.held ∙ h) none (same_site r.rec k) }
    where
      there : Has o.site.refresh r
      there = find_has (λ (q : Refreshing). q.rec == rec) o.site.refresh r e

      go : (k : ℕ) (u : View) → o.site.held ≡ Some u → IsUnlisted (filter (λ other. not (other.rec == r.rec)) n.site.refresh) k → (r.rec ≡ k) ⊎ (r.rec ≢ k) → Unlisted catalogue x given (unguarded r n) k
      go k u h none (inl z) = Unlisted.ended (record {
        r = r;
        on = z;
        answers = λ q g. let b = p.base.0.answers r q there g in (subst (λ (n : ℕ). AnswerNow catalogue x given n q) z b.0, t.held ∙ b.1);
        all = rw (t.id, t.held) a;
        certain = subst (λ (k : ℕ). is_doubtful n.site k ≡ false) z (rw t.doubts d);
        copied = subst (Has (keys x.copies)) z (p.base.1.0.listed r there);
        since = subst (ListedNow x (unguarded r n)) z (listed_on o (unguarded r n) r.rec t.held (p.base.1.0.since r there));
        verdict = subst (Verdict catalogue (unguarded r n) r) z (verdict_on catalogue n (unguarded r n) r r.rec refl refl refl t.verdict);
      })
      go k u h none (inr z) = on o (unguarded r n) k t.id t.held t.doubts (t.other k z) (t.bars k z) (p.unlisted k u h (λ q g is. none q (filter_keeps (λ (other : Refreshing). not (other.rec == r.rec)) n.site.refresh q (rw t.refresh g) (differs q.rec k r.rec is z)) is))

  -- what is under refresh has no bar
  unbarred : (rec : ℕ) (r : Refreshing) (o : Stepped) → refreshing_of rec o.site.refresh ≡ Some r → P o → value_at r.rec o.site.bars ≡ None
  unbarred rec r o e p = go (value_at r.rec o.site.bars) refl
    where
      go : (bar : Option (ℕ × ℕ)) → value_at r.rec o.site.bars ≡ bar → value_at r.rec o.site.bars ≡ None
      go None q = q
      go (Some bar) q = absurd ((p.base.1.1.barred r.rec bar q).unlisted r (find_has (λ (q : Refreshing). q.rec == rec) o.site.refresh r e) refl)

  finishes : (rec : ℕ) (r : Refreshing) (own : Stored) (o : Stepped) → refreshing_of rec o.site.refresh ≡ Some r → is_empty (unanswered catalogue o.site r) ≡ true → is_doubtful o.site r.rec ≡ false → value_at r.rec o.site.copies ≡ Some own → Base catalogue x given (end_refresh catalogue r own o) → P o → P (end_refresh catalogue r own o)
  unfolding end_refresh unlist
  finishes rec r own o e a d v base p = removes rec r own o (judged catalogue r own o) e a d (took catalogue r own o v (unbarred rec r o e p)) p base

  refreshes : (view : View) (rec : ℕ) (o : Stepped) → Base catalogue x given (start_refresh catalogue view rec o) → P o → P (start_refresh catalogue view rec o)
  unfolding start_refresh
  refreshes view rec o base p = record { base = base; unlisted = λ k u h none. on o (start_refresh catalogue view rec o) k refl refl refl refl refl (p.unlisted k u h (λ r g is. none r (stays_listed k r g is none) is)) }
    where
      more : List Refreshing
      more = put (λ (a : Refreshing) (b : Refreshing). a.rec == b.rec) (λ (a : Refreshing) (b : Refreshing). nat_lt a.rec b.rec) (record { rec = rec; answers = [] }) o.site.refresh

      stays_listed : (k : ℕ) (r : Refreshing) → Has o.site.refresh r → r.rec ≡ k → IsUnlisted more k → Has more r
      stays_listed k r g is none = put_old (λ (a : Refreshing) (b : Refreshing). a.rec == b.rec) (λ (a : Refreshing) (b : Refreshing). nat_lt a.rec b.rec) (record { rec = rec; answers = [] }) o.site.refresh r g
          (eq_not rec r.rec (λ z. none (record { rec = rec; answers = [] }) (put_new (λ (a : Refreshing) (b : Refreshing). a.rec == b.rec) (λ (a : Refreshing) (b : Refreshing). nat_lt a.rec b.rec) (record { rec = rec; answers = [] }) o.site.refresh) (z ∙ is)))

  ends_here : (from : ℕ) (txn : TxnId) (commit : Bool) (doubt : Option Doubt) → Base catalogue x given (end_here from txn commit doubt (begin_step x)) → P (end_here from txn commit doubt (begin_step x))
  unfolding end_here
  ends_here from txn true None base = stays _ base refl refl refl
  ends_here from txn false None base = stays _ base refl refl refl
  ends_here from txn false (Some d) base = stays _ base refl refl refl
  ends_here from txn true (Some d) base = stays _ base refl refl refl

  rec_same : (rec from : ℕ) (stored : Stored) (r : Refreshing) → (with_answer rec from stored r).rec ≡ r.rec
  rec_same rec from stored r = go (r.rec == rec)
    where
      go : (b : Bool) → (cond b (record r { answers = put_at from stored r.answers }) r).rec ≡ r.rec
      go true = refl
      go false = refl

  each : (rs : List Refreshing) (r : Refreshing) → Has rs r → (q : Refreshing) × Has rs q × (q.rec ≡ r.rec)
  each rs r h = (r, h, refl)

  starts : P (begin_step x)
  starts = stays (begin_step x) begun refl refl refl

  abbrev K : Lent → Type 0
  K = Back x P

  abbrev G : Lent → Type 0
  G = Back x (Base catalogue x given)

  quiet : (l now : Lent) → G now → now.here.bars ≡ l.here.bars → now.copies ≡ l.copies → K l → K now
  quiet l now base bs c g = same (put_back (begin_step x) l) (put_back (begin_step x) now) refl refl refl c bs (λ r h. each _ r h) base g

  ends_one : (t : Live) (why : Ending) (commit : Bool) (l now : Lent) → G now → Ends x.id t why commit l now → K l → K now
  ends_one t why commit l now base e g = quiet l now base (ap (λ (h : Here). h.bars) e.here) (ap (λ (h : Here). h.copies) e.here) g

  decides : (t : Live) → G (decide catalogue x.id t (lent_at x)) → K (decide catalogue x.id t (lent_at x))
  unfolding keep_writes
  decides t base = decide-cases (λ (l : Lent). G l → K l) catalogue x.id t (lent_at x)
      (λ e g. ended (lent_at x) _ refl g (decided-ends x.id t (lent_at x)))
      (λ e g. ended (keep_writes catalogue x.id t (lent_at x)) _ refl g (decided-ends x.id t (keep_writes catalogue x.id t (lent_at x))))
      base
    where
      ended : (l now : Lent) → l.here.bars ≡ x.bars → G now → Ends x.id t Committed true l now → K now
      ended l now bs g e = stays (put_back (begin_step x) now) g refl (ap (λ (h : Here). h.bars) e.here ∙ bs) refl

  pub table : Table catalogue x given P
  unfolding drop_view on_stale on_accept hold fix ask_again start_inviting accept grant start_txn take_lock complete read_at write_at prepare_parts mark_calls resend_one inquire
  table = record {
    sends_back = λ from m t. stays _ (b.sends_back from m t) refl refl refl;
    asks_again = λ o ms all p. same o _ refl refl refl refl refl (λ q g. each _ q g) (b.asks_again o ms all p.base) p;
    drop_view = λ l e z p. gone (drop_view (put_back (begin_step x) l)) refl (b.drop_view l e z p.base);
    start_inviting = λ o s l p. gone _ (left_none o l) (b.start_inviting o s l p.base);
    accept = λ from id o c e l p. gone _ (left_none o l) (b.accept from id o c e l p.base);
    accepted = λ from id c. stays _ (b.accepted from id c) refl refl refl;
    seen = λ from id promise c. stays _ (b.seen from id promise c) refl refl refl;
    hold = λ from id members c e. record { base = b.hold from id members c e; unlisted = λ k u h none. Unlisted.joined (record { id = id; members = members }) refl (Joins.came from c e) };
    heard = λ from view c e. stays _ (b.heard from view c e) refl refl refl;
    fix = λ view c e. record { base = b.fix view c e; unlisted = λ k u h none. Unlisted.joined view refl (Joins.fixed c e) };
    without_wait = λ id c i w. stays _ (b.without_wait id c i w) refl refl refl;
    probe = λ view c e. stays _ (b.probe view c e) refl refl refl;
    answers_inviting = λ port c s p. same _ _ refl refl refl refl refl (λ r h. each _ r h) (b.answers_inviting port c s p.base) p;
    start_refresh = λ view rec o e h p. refreshes view rec o (b.start_refresh view rec o e h p.base) p;
    end_refresh = λ rec r own o e a d v p. finishes rec r own o e a d v (b.end_refresh rec r own o e a d v p.base) p;
    keep_answer = λ from view rec stored r c e f g. first _ (b.keep_answer from view rec stored r c e f g) refl refl (λ q h. (with_answer rec from stored q, mapped_has (with_answer rec from stored) x.refresh q h, rec_same rec from stored q));
    grant_read = λ from txn view number rec stored c e n v f u. stays _ (b.grant_read from txn view number rec stored c e n v f u) refl refl refl;
    grant_write = λ from txn view number rec stored c e n v f u. stays _ (b.grant_write from txn view number rec stored c e n v f u) refl refl refl;
    vote_reading = λ from txn view number reads writes part c e n d f v a w. stays _ (b.vote_reading from txn view number reads writes part c e n d f v a w) refl refl refl;
    vote_writing = λ from txn view number reads writes part c e n d f v a w. stays _ (b.vote_writing from txn view number reads writes part c e n d f v a w) refl refl refl;
    end_here = λ from txn commit c. ends_here from txn commit (doubt_of txn x.doubts) (b.end_here from txn commit c);
    coordinator = record {
      begin = λ port view e g u. quiet (lent_at x) _ (b.coordinator.begin port view e g u) refl refl starts;
      answers = λ words port why y. quiet (lent_at x) _ (b.coordinator.answers words port why y) refl refl starts;
      take_lock = λ t rec exclusive stored h i a v c. quiet (lent_at x) _ (b.coordinator.take_lock t rec exclusive stored h i a v c) refl refl starts;
      complete = λ t p deed l h g y e q. quiet l _ (b.coordinator.complete t p deed l h g y e q.base) refl refl q;
      read_at = λ t p rec q h n r a w c o y. quiet (lent_at x) _ (b.coordinator.read_at t p rec q h n r a w c o y) refl refl starts;
      write_at = λ t p rec value l h n w a e o d y v q. quiet l _ (b.coordinator.write_at t p rec value l h n w a e o d y v q.base) refl refl q;
      prepare_parts = λ t p h i g e. quiet (lent_at x) _ (b.coordinator.prepare_parts t p h i g e) refl refl starts;
      still_waits = λ t p from h e m f c. quiet (lent_at x) _ (b.coordinator.still_waits t p from h e m f c) refl refl starts;
      decide = λ t n d. decides t (b.coordinator.decide t n d);
      close = λ t why l n a z y q. ends_one t why false l _ (b.coordinator.close t why l n a z y q.base) (close-ends x.id t why l) q;
      mark_calls = λ l c z q. quiet l _ (b.coordinator.mark_calls l c z q.base) refl refl q;
      acknowledge = λ from txn c w. quiet (lent_at x) _ (b.coordinator.acknowledge from txn c w) refl refl starts;
    };
    resend_one = λ d o c h p. same o _ refl refl refl refl refl (λ q g. each _ q g) (b.resend_one d o c h p.base) p;
  }

pub unlisting-step : (catalogue : Catalogue) (x : SiteState) (given : Input) → Table catalogue x given (Base catalogue x given) → Base catalogue x given (begin_step x) → Unlisting catalogue x given (step catalogue x given)
unlisting-step catalogue x given b begun = step-keeps catalogue x given (Unlisting catalogue x given) (table catalogue x given b begun) (starts catalogue x given b begun)
