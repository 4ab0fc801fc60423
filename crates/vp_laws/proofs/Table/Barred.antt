-- The bars of a site after a step: a view is held, the barred record isn't under refresh, and each lock of a transaction on it is of a
-- transaction in doubt here of a lower view.
use Rattle.std.proofs.Common.{◌≡◌, ◌∙◌, ap, sym, subst, ℕ, Bool, true, false, cond, List, [], map, refl, ⊎_elim}
use Rattle.std.specs.Prelude.{Option, Some, None, is_some, filter, not, ◌==◌}
use Rattle.std.proofs.lemmas.Bool.{eqb-true}
use Rattle.vp_model.specs.Types.{Change, ViewId, TxnId, View, Message, Input, Stored, Lock, Part, Live, Ending, Refreshing, Doubt}
use Rattle.vp_base.specs.declared.site.Ending.TheVariants.{Committed}
use Rattle.vp_model.specs.Types.log_record
use Rattle.vp_model.specs.Types.message
use Rattle.vp_model.specs.Types.owner
use Rattle.vp_model.specs.Words.{same_txn, same_owner, txn_before, put_at, replace_at, value_at}
use Rattle.vp_model.specs.Catalogue.{Catalogue, weight_inside, weight_total}
use Rattle.vp_model.specs.Durable.{doubt_of}
use Rattle.vp_model.specs.Locks.{with_lock, without_owner, without_guard}
use Rattle.vp_model.specs.Site.{Bars, Here, SiteState, Lent, Stepped, begin_step, put_back, force, change_copies, change_bars}
use Rattle.vp_model.specs.Transactions.{keep_writes, complete, decide}
use Rattle.vp_model.specs.Refresh.{members, newest, with_bar, is_open, unlist, end_refresh, start_refresh, refreshing_of}
use Rattle.vp_model.specs.Views.{part_of, has_doubt, drop_view, start_inviting, hold}
use Rattle.vp_model.specs.Calls.{start_txn, take_lock, read_at, write_at, prepare_parts}
use Rattle.vp_model.specs.Messages.{with_new_doubt, with_answer, accept, on_accept, on_stale, grant, end_here}
use Rattle.vp_model.specs.Step.{fix, mark_calls, ask_again, resend_one, inquire}
use Rattle.vp_model.proofs.SameTxn.{same_txn-is, same_txn-turned}
use Rattle.vp_laws.proofs.Journal.Play.{value_put}
use Rattle.vp_laws.proofs.Lists.Members.{Has, map_has, filter_has, filter_keeps, find_has, find_true, any_false, both_true}
use Rattle.vp_laws.proofs.Lists.Changes.{put_old}
use Rattle.vp_laws.proofs.Lists.LockTables.{lock_origin}
use Rattle.vp_laws.proofs.Lists.Numbers.{differs}
use Rattle.vp_laws.proofs.Lists.Views.{is_view_is}
use Rattle.vp_laws.proofs.Moves.Frames.{Ends, close-ends, decided-ends, decide-cases, judging, take-cases}
use Rattle.vp_laws.proofs.Moves.LocalViews.{Tidy}
use Rattle.vp_laws.proofs.Moves.Parts.{with_part_doubts}
use Rattle.vp_laws.proofs.Moves.Table.{Joined, lent_at, Back, Table}
use Rattle.vp_laws.proofs.Table.LocalLocks.{LowerDoubt}
use Rattle.vp_laws.proofs.Table.Listed.{IsUnlisted}
use Rattle.vp_laws.proofs.Table.Locks.{Guards}

-- what is known of a barred record
pub record IsBarred (x : SiteState) (rec : ℕ) : Type 0 where
  pub view : View
  pub held : x.held ≡ Some view
  pub unlisted : IsUnlisted x.refresh rec
  pub owners : (l : Lock) (txn : TxnId) → Has x.locks l → l.rec ≡ rec → l.owner ≡ owner.Txn txn → LowerDoubt x.doubts view.id txn

abbrev pub AreBarred : SiteState → Type 0
AreBarred x = (rec : ℕ) (bar : ℕ × ℕ) → value_at rec x.bars ≡ Some bar → IsBarred x rec

pub record Barring (catalogue : Catalogue) (x : SiteState) (given : Input) (o : Stepped) : Type 0 where
  pub base : Guards catalogue x given o
  pub barred : AreBarred o.site

-- no bar while no view is held
pub no_bars : (x : SiteState) → AreBarred x → x.held ≡ None → (rec : ℕ) (bar : ℕ × ℕ) → value_at rec x.bars ≡ Some bar → ⊥
no_bars x all none rec bar e = let b = all rec bar e in let z = b.held in cc

module _ (catalogue : Catalogue) (x : SiteState) (given : Input) (tidy : Tidy x) (b : Table catalogue x given (Guards catalogue x given)) (begun : Guards catalogue x given (begin_step x)) (all : AreBarred x) where
  abbrev P : Stepped → Type 0
  P = Barring catalogue x given

  pub starts : P (begin_step x)
  starts = record { base = begun; barred = all }

  -- the same bars in the same view: what is under refresh was, each lock on a barred record was there, and its doubt stays
  keeps : (o e : Stepped) → Guards catalogue x given e → e.site.held ≡ o.site.held → e.site.bars ≡ o.site.bars → ((r : Refreshing) → Has e.site.refresh r → (q : Refreshing) × Has o.site.refresh q × (q.rec ≡ r.rec)) → ((l : Lock) (rec : ℕ) (bar : ℕ × ℕ) → value_at rec o.site.bars ≡ Some bar → Has e.site.locks l → l.rec ≡ rec → Has o.site.locks l) → ((l : Lock) (d : Doubt) → Has e.site.locks l → l.owner ≡ owner.Txn d.txn → Has o.site.doubts d → Has e.site.doubts d) → P o → P e
  keeps o e base v bs sub locks stays p = record { base = base; barred = each }
    where
      each : AreBarred e.site
      each rec bar q =
          let was = subst (λ (bs : Bars). value_at rec bs ≡ Some bar) bs q in
          let a = p.barred rec bar was in
          record {
            view = a.view;
            held = v ∙ a.held;
            unlisted = λ r h is. let k = sub r h in a.unlisted k.0 k.1 (k.2 ∙ is);
            owners = λ l txn h on by.
                let d = a.owners l txn (locks l rec bar was h on) on by in
                (d.0, stays l d.0 h (by ∙ ap owner.Txn (sym d.2)) d.1, d.2, d.3);
          }

  -- nothing changes of what is spoken of
  same : (o e : Stepped) → Guards catalogue x given e → e.site.held ≡ o.site.held → e.site.bars ≡ o.site.bars → e.site.refresh ≡ o.site.refresh → e.site.locks ≡ o.site.locks → e.site.doubts ≡ o.site.doubts → P o → P e
  same o e base v bs r k d p = keeps o e base v bs (λ q h. (q, rw r at h, refl)) (λ l rec bar q h on. rw k at h) (λ l u h by there. rw d there) p

  stays : (e : Stepped) → Guards catalogue x given e → e.site.held ≡ x.held → e.site.bars ≡ x.bars → e.site.refresh ≡ x.refresh → e.site.locks ≡ x.locks → e.site.doubts ≡ x.doubts → P e
  stays e base v bs r k d = same (begin_step x) e base v bs r k d starts

  none : (e : Stepped) → Guards catalogue x given e → e.site.bars ≡ [] → P e
  none e base bs = record { base = base; barred = λ rec bar q. absurd (let z = subst (λ (bs : Bars). value_at rec bs ≡ Some bar) bs q in cc) }

  -- there was no bar as no view was held
  fresh : (e : Stepped) → Guards catalogue x given e → x.held ≡ None → e.site.bars ≡ x.bars → P e
  fresh e base v bs = record { base = base; barred = λ rec bar q. absurd (no_bars x all v rec bar (subst (λ (bs : Bars). value_at rec bs ≡ Some bar) bs q)) }

  joined_none : (view : View) (o : Stepped) → Joined x view o → x.held ≡ None
  joined_none view o j = ⊎_elim (λ e. (tidy.waiting view.id e).1) (λ e. (tidy.inviting (view.id, view.members) e).1) j.origin

  -- the locks that are left by filtering
  fewer : (o e : Stepped) (test : Lock → Bool) → Guards catalogue x given e → e.site.held ≡ o.site.held → e.site.bars ≡ o.site.bars → e.site.refresh ≡ o.site.refresh → e.site.locks ≡ filter test o.site.locks → ((l : Lock) (d : Doubt) → Has e.site.locks l → l.owner ≡ owner.Txn d.txn → Has o.site.doubts d → Has e.site.doubts d) → P o → P e
  fewer o e test base v bs r k d p = keeps o e base v bs (λ q h. (q, rw r at h, refl)) (λ l rec bar q h on. (filter_has test o.site.locks l (rw k at h)).0) d p

  -- a lock on an open record
  locks_open : (o e : Stepped) (rec : ℕ) (exclusive : Bool) (txn : TxnId) → Guards catalogue x given e → e.site.held ≡ o.site.held → e.site.bars ≡ o.site.bars → e.site.refresh ≡ o.site.refresh → e.site.locks ≡ with_lock rec exclusive (owner.Txn txn) o.site.locks → e.site.doubts ≡ o.site.doubts → is_open o.site rec ≡ true → P o → P e
  locks_open o e rec exclusive txn base v bs r k d opened p = keeps o e base v bs (λ q h. (q, rw r at h, refl)) there (λ l u h by q. rw d q) p
    where
      shut : (bar : ℕ × ℕ) → value_at rec o.site.bars ≡ Some bar → ⊥
      shut bar q = let z : not (is_some (value_at rec o.site.bars)) ≡ false = rw q refl in cc

      there : (l : Lock) (n : ℕ) (bar : ℕ × ℕ) → value_at n o.site.bars ≡ Some bar → Has e.site.locks l → l.rec ≡ n → Has o.site.locks l
      there l n bar q h on = ⊎_elim
          (λ old. old)
          (λ (new : (l.rec ≡ rec) × (l.owner ≡ owner.Txn txn)). absurd (shut bar (subst (λ (n : ℕ). value_at n o.site.bars ≡ Some bar) (sym on ∙ new.0) q)))
          (lock_origin rec exclusive (owner.Txn txn) o.site.locks l (rw k at h))

  drops : (l : Lent) → Guards catalogue x given (drop_view (put_back (begin_step x) l)) → P (drop_view (put_back (begin_step x) l))
  unfolding drop_view
  drops l base = none (drop_view (put_back (begin_step x) l)) base refl

  -- the end of a refresh
  module _ (rec : ℕ) (r : Refreshing) (own : Stored) (o : Stepped) (listed : refreshing_of rec o.site.refresh ≡ Some r) (p : P o) where
    listing : Has o.site.refresh r
    listing = find_has (λ (q : Refreshing). q.rec == rec) o.site.refresh r listed

    abbrev unguarded : Stepped → Stepped
    unguarded n = record n { site = record n.site { here = record n.site.here { locks = without_guard r.rec n.site.locks }; refresh = filter (λ other. not (other.rec == r.rec)) n.site.refresh } }

    kept : (q : Refreshing) → Has (filter (λ (other : Refreshing). not (other.rec == r.rec)) o.site.refresh) q → Has o.site.refresh q
    kept q h = (filter_has (λ (other : Refreshing). not (other.rec == r.rec)) o.site.refresh q h).0

    -- an old bar
    old_bar : (n : Stepped) → n.site.held ≡ o.site.held → n.site.refresh ≡ o.site.refresh → n.site.locks ≡ o.site.locks → n.site.doubts ≡ o.site.doubts → (k : ℕ) → IsBarred o.site k → IsBarred (unguarded n).site k
    old_bar n v f l d k a = record {
      view = a.view;
      held = v ∙ a.held;
      unlisted = λ q h is. a.unlisted q (kept q (rw f at h)) is;
      owners = λ m txn h on by. rw d (a.owners m txn (rw l at ((filter_has _ n.site.locks m h).0)) on by);
    }

    -- the new one
    new_bar : (n : Stepped) → n.site.held ≡ o.site.held → n.site.refresh ≡ o.site.refresh → n.site.locks ≡ o.site.locks → n.site.doubts ≡ o.site.doubts → IsBarred (unguarded n).site r.rec
    new_bar n v f l d =
        let low = p.base.ok.lower r listing in
        record {
          view = low.0;
          held = v ∙ low.1;
          unlisted = λ q h is. let z = (filter_has (λ (other : Refreshing). not (other.rec == r.rec)) n.site.refresh q h).1 in no_more q is z;
          owners = λ m txn h on by. rw d (low.3 m txn (rw l at ((filter_has _ n.site.locks m h).0)) on by);
        }
      where
        no_more : (q : Refreshing) → q.rec ≡ r.rec → not (q.rec == r.rec) ≡ true → ⊥
        no_more q is z = differs q.rec r.rec z is

    with_new : (n : Stepped) (bar : ℕ × ℕ) → n.site.held ≡ o.site.held → n.site.refresh ≡ o.site.refresh → n.site.locks ≡ o.site.locks → n.site.doubts ≡ o.site.doubts → n.site.bars ≡ put_at r.rec bar o.site.bars → AreBarred (unguarded n).site
    with_new n bar v f l d bs k found q = go (r.rec == k) refl (sym (value_put k r.rec bar o.site.bars) ∙ subst (λ (bs : Bars). value_at k bs ≡ Some found) bs q)
      where
        go : (c : Bool) → (r.rec == k) ≡ c → cond c (Some bar) (value_at k o.site.bars) ≡ Some found → IsBarred (unguarded n).site k
        go true e z = subst (IsBarred (unguarded n).site) (eqb-true r.rec k e) (new_bar n v f l d)
        go false e z = old_bar n v f l d k (p.barred k found z)

    with_old : (n : Stepped) → n.site.held ≡ o.site.held → n.site.refresh ≡ o.site.refresh → n.site.locks ≡ o.site.locks → n.site.doubts ≡ o.site.doubts → n.site.bars ≡ o.site.bars → AreBarred (unguarded n).site
    with_old n v f l d bs k found q = old_bar n v f l d k (p.barred k found (subst (λ (bs : Bars). value_at k bs ≡ Some found) bs q))

    finishes : Guards catalogue x given (end_refresh catalogue r own o) → P (end_refresh catalogue r own o)
    unfolding end_refresh unlist
    finishes base = record {
      base = base;
      barred = take-cases (λ (n : Stepped). AreBarred (unguarded n).site) catalogue r own o
          (with_old (force (log_record.Copy r.rec (newest own r.answers)) (change_copies (replace_at r.rec (newest own r.answers)) o)) refl refl refl refl refl)
          (with_old o refl refl refl refl refl)
          (with_new (change_bars (with_bar r.rec (judging catalogue r own) (members o.site)) o) (weight_inside (members o.site) (judging catalogue r own), weight_total (judging catalogue r own)) refl refl refl refl refl);
    }

  keeps_answer : (rec from : ℕ) (stored : Stored) → Guards catalogue x given (record (begin_step x) { site = record x { refresh = map (with_answer rec from stored) x.refresh } }) → P (record (begin_step x) { site = record x { refresh = map (with_answer rec from stored) x.refresh } })
  keeps_answer rec from stored base = keeps (begin_step x) _ base refl refl (λ r h. let q = map_has (with_answer rec from stored) x.refresh r h in (q.0, q.1, sym (rec_same q.0) ∙ ap (λ (r : Refreshing). r.rec) q.2)) (λ l rec bar q h on. h) (λ l u h by there. there) starts
    where
      rec_same : (r : Refreshing) → (with_answer rec from stored r).rec ≡ r.rec
      rec_same r = go (r.rec == rec)
        where
          go : (b : Bool) → (cond b (record r { answers = put_at from stored r.answers }) r).rec ≡ r.rec
          go true = refl
          go false = refl

  grants : (from : ℕ) (txn : TxnId) (view : ViewId) (rec : ℕ) (exclusive : Bool) (words : Message) → is_open x rec ≡ true → Guards catalogue x given (grant txn view rec exclusive words from (begin_step x)) → P (grant txn view rec exclusive words from (begin_step x))
  unfolding grant
  grants from txn view rec exclusive words opened base = locks_open (begin_step x) _ rec exclusive txn base refl refl refl refl (with_part_doubts x.participant txn view) opened starts

  doubts_more : (part : Part) (writes : List (ℕ × Change)) → has_doubt part.txn x.doubts ≡ false → (e : Stepped) → Guards catalogue x given e → e.site.held ≡ x.held → e.site.bars ≡ x.bars → e.site.refresh ≡ x.refresh → e.site.locks ≡ x.locks → e.site.doubts ≡ (with_new_doubt part writes x.participant).doubts → P e
  doubts_more part writes certain e base v bs r k d = keeps (begin_step x) e base v bs (λ q h. (q, rw r at h, refl)) (λ l rec bar q h on. rw k at h)
      (λ l u h by there. rw d (put_old (λ (a : Doubt) (b : Doubt). same_txn a.txn b.txn) (λ (a : Doubt) (b : Doubt). txn_before a.txn b.txn) (record { txn = part.txn; view = part.view; writes = writes }) x.doubts u there (same_txn-turned u.txn part.txn (any_false (λ (d : Doubt). same_txn d.txn part.txn) x.doubts certain u there)))) starts

  -- the locks of a transaction go with its doubt
  released : (txn : TxnId) (l : Lock) (d : Doubt) → Has (without_owner (owner.Txn txn) x.locks) l → l.owner ≡ owner.Txn d.txn → Has x.doubts d → Has (filter (λ (d : Doubt). not (same_txn d.txn txn)) x.doubts) d
  released txn l d h by there =
      let f = (filter_has (λ (lock : Lock). not (same_owner lock.owner (owner.Txn txn))) x.locks l h).1 in
      filter_keeps (λ (d : Doubt). not (same_txn d.txn txn)) x.doubts d there (rw by at f)

  ends_here : (from : ℕ) (txn : TxnId) (commit : Bool) (doubt : Option Doubt) → Guards catalogue x given (end_here from txn commit doubt (begin_step x)) → P (end_here from txn commit doubt (begin_step x))
  unfolding end_here
  ends_here from txn true None base = fewer (begin_step x) _ _ base refl refl refl refl (λ l d h by there. released txn l d h by there) starts
  ends_here from txn false None base = fewer (begin_step x) _ _ base refl refl refl refl (λ l d h by there. released txn l d h by there) starts
  ends_here from txn true (Some u) base = fewer (begin_step x) _ _ base refl refl refl refl (λ l d h by there. released txn l d h by there) starts
  ends_here from txn false (Some u) base = fewer (begin_step x) _ _ base refl refl refl refl (λ l d h by there. released txn l d h by there) starts

  abbrev K : Lent → Type 0
  K = Back x P

  abbrev G : Lent → Type 0
  G = Back x (Guards catalogue x given)

  quiet : (l now : Lent) → G now → now.here.bars ≡ l.here.bars → now.locks ≡ l.locks → K l → K now
  quiet l now base bs k g = same (put_back (begin_step x) l) (put_back (begin_step x) now) base refl bs refl k refl g

  ends_one : (t : Live) (why : Ending) (commit : Bool) (l now : Lent) → G now → Ends x.id t why commit l now → K l → K now
  ends_one t why commit l now base e g = fewer (put_back (begin_step x) l) (put_back (begin_step x) now) _ base refl (ap (λ (h : Here). h.bars) e.here) refl (ap (λ (h : Here). h.locks) e.here) (λ m d h by there. there) g

  decides : (t : Live) → G (decide catalogue x.id t (lent_at x)) → K (decide catalogue x.id t (lent_at x))
  unfolding keep_writes
  decides t base = decide-cases (λ (l : Lent). G l → K l) catalogue x.id t (lent_at x)
      (λ e g. ended (lent_at x) _ refl refl g (decided-ends x.id t (lent_at x)))
      (λ e g. ended (keep_writes catalogue x.id t (lent_at x)) _ refl refl g (decided-ends x.id t (keep_writes catalogue x.id t (lent_at x))))
      base
    where
      ended : (l now : Lent) → l.here.bars ≡ x.bars → l.locks ≡ x.locks → G now → Ends x.id t Committed true l now → K now
      ended l now bs k g e = fewer (begin_step x) (put_back (begin_step x) now) _ g refl (ap (λ (h : Here). h.bars) e.here ∙ bs) refl (ap (λ (h : Here). h.locks) e.here ∙ ap (without_owner (owner.Txn t.txn)) k) (λ m d h by there. there) starts

  certain : (part : Part) (txn : TxnId) → part_of txn x.parts ≡ Some part → has_doubt txn x.doubts ≡ false → has_doubt part.txn x.doubts ≡ false
  certain part txn f d = rw (same_txn-is part.txn txn (find_true (λ (p : Part). same_txn p.txn txn) x.parts part f)) d

  pub table : Table catalogue x given P
  unfolding on_stale on_accept hold fix ask_again start_refresh start_inviting accept start_txn take_lock complete read_at write_at prepare_parts mark_calls resend_one inquire
  table = record {
    sends_back = λ from m t. stays _ (b.sends_back from m t) refl refl refl refl refl;
    asks_again = λ o ms h p. same o _ (b.asks_again o ms h p.base) refl refl refl refl refl p;
    drop_view = λ l e z p. drops l (b.drop_view l e z p.base);
    start_inviting = λ o s l p. none _ (b.start_inviting o s l p.base) l.bars;
    accept = λ from id o c e l p. none _ (b.accept from id o c e l p.base) l.bars;
    accepted = λ from id c. stays _ (b.accepted from id c) refl refl refl refl refl;
    seen = λ from id promise c. stays _ (b.seen from id promise c) refl refl refl refl refl;
    hold = λ from id members c e. fresh _ (b.hold from id members c e) (tidy.waiting id (is_view_is x.waiting id (both_true _ _ e).0)).1 refl;
    heard = λ from view c e. stays _ (b.heard from view c e) refl refl refl refl refl;
    fix = λ view c e. fresh _ (b.fix view c e) (tidy.inviting (view.id, view.members) e).1 refl;
    without_wait = λ id c i w. stays _ (b.without_wait id c i w) refl refl refl refl refl;
    probe = λ view c e. stays _ (b.probe view c e) refl refl refl refl refl;
    answers_inviting = λ port c s p. same _ _ (b.answers_inviting port c s p.base) refl refl refl refl refl p;
    start_refresh = λ view rec o j k p. fresh _ (b.start_refresh view rec o j k p.base) (joined_none view o j) j.bars;
    end_refresh = λ rec r own o e a d v p. finishes rec r own o e p (b.end_refresh rec r own o e a d v p.base);
    keep_answer = λ from view rec stored r c e f g. keeps_answer rec from stored (b.keep_answer from view rec stored r c e f g);
    grant_read = λ from txn view number rec stored c e n v f u. grants from txn view rec false (message.ReadAnswer txn number stored.value) u (b.grant_read from txn view number rec stored c e n v f u);
    grant_write = λ from txn view number rec stored c e n v f u. grants from txn view rec true (message.WriteAnswer txn number) u (b.grant_write from txn view number rec stored c e n v f u);
    vote_reading = λ from txn view number reads writes part c e n d f v a w. stays _ (b.vote_reading from txn view number reads writes part c e n d f v a w) refl refl refl refl refl;
    vote_writing = λ from txn view number reads writes part c e n d f v a w. doubts_more part writes (certain part txn f d) _ (b.vote_writing from txn view number reads writes part c e n d f v a w) refl refl refl refl refl;
    end_here = λ from txn commit c. ends_here from txn commit (doubt_of txn x.doubts) (b.end_here from txn commit c);
    coordinator = record {
      begin = λ port view e g u. quiet (lent_at x) _ (b.coordinator.begin port view e g u) refl refl starts;
      answers = λ words port why y. quiet (lent_at x) _ (b.coordinator.answers words port why y) refl refl starts;
      take_lock = λ t rec exclusive stored h i a v c. locks_open (begin_step x) _ rec exclusive t.txn (b.coordinator.take_lock t rec exclusive stored h i a v c) refl refl refl refl refl a starts;
      complete = λ t p deed l h g y e q. quiet l _ (b.coordinator.complete t p deed l h g y e q.base) refl refl q;
      read_at = λ t p rec q h n r a w c o y. quiet (lent_at x) _ (b.coordinator.read_at t p rec q h n r a w c o y) refl refl starts;
      write_at = λ t p rec value l h n w a e o d y v q. quiet l _ (b.coordinator.write_at t p rec value l h n w a e o d y v q.base) refl refl q;
      prepare_parts = λ t p h i g e. quiet (lent_at x) _ (b.coordinator.prepare_parts t p h i g e) refl refl starts;
      still_waits = λ t p from h e m f c. quiet (lent_at x) _ (b.coordinator.still_waits t p from h e m f c) refl refl starts;
      decide = λ t n d. decides t (b.coordinator.decide t n d);
      close = λ t why l n a z y q. ends_one t why false l _ (b.coordinator.close t why l n a z y q.base) (close-ends x.id t why l) q;
      mark_calls = λ l c z q. quiet l _ (b.coordinator.mark_calls l c z q.base) refl refl q;
      acknowledge = λ from txn c w. quiet (lent_at x) _ (b.coordinator.acknowledge from txn c w) refl refl starts;
    };
    resend_one = λ d o c h p. same o _ (b.resend_one d o c h p.base) refl refl refl refl refl p;
  }
