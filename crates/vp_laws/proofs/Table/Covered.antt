-- In a step that joins a view, the refresh of each record with a copy here begins, and may end at once. So a record that is not under
-- refresh was not before, in the same view, or its refresh has ended.
use Rattle.std.proofs.Common.{◌≡◌, ◌≢◌, ◌⊎◌, ◌∙◌, ap, sym, subst, ℕ, true, false, List, [], ◌∷◌, refl, arith, inl, inr, ⊎_elim}
use Rattle.std.specs.Prelude.{Option, Some, None, filter, not, ◌==◌, nat_lt}
use Rattle.std.specs.Option.{option_map_or}
use Rattle.std.proofs.lemmas.Bool.Decides.{nat_tests}
use Rattle.vp_model.specs.Types.{ViewId, View, Input, Stored, Refreshing, Decision}
use Rattle.vp_model.specs.Words.{is_empty, keys, put, value_at}
use Rattle.vp_model.specs.Catalogue.{Catalogue}
use Rattle.vp_model.specs.Site.{SiteState, Stepped, begin_step, lent, put_back}
use Rattle.vp_model.specs.Refresh.{unlist, end_refresh, settle_one, settle, settle_all, start_refresh, start_refresh_all, refreshing_of, unanswered, is_doubtful}
use Rattle.vp_model.specs.Views.{hold, join, refresh_here}
use Rattle.vp_model.specs.Messages.{on_message, on_view_commit}
use Rattle.vp_model.specs.Step.{fix, fix_view, tick_view, resend_one, resend, inquire, known, on_tick, on_input, step}
use Rattle.vp_laws.proofs.Lists.Members.{Has, has_none, has_first, has_more, has_cons, filter_has, filter_keeps, find_has, both_true}
use Rattle.vp_laws.proofs.Lists.Changes.{put_has, put_new, put_old}
use Rattle.vp_laws.proofs.Lists.Views.{is_view_is, same_site}
use Rattle.vp_laws.proofs.Moves.LocalViews.{Tidy}
use Rattle.vp_laws.proofs.Moves.Frames.{judged}
use Rattle.vp_laws.proofs.Table.Listed.{ListedNow}
use Rattle.vp_laws.proofs.Table.Unlisted.{Ended, Joins, Unlisted, Unlisting, Took, took, Verdict, ended_on, verdict_on}
use Rattle.vp_laws.proofs.Table.Barred.{AreBarred, no_bars}
use Rattle.vp_laws.proofs.Table.Listed.{IsUnlisted}
use Rattle.vp_laws.proofs.Lists.Numbers.{eq_not, differs as differing}

-- one of the records under refresh is this one
abbrev pub Listed : List Refreshing → ℕ → Type 0
Listed refresh rec = (r : Refreshing) × Has refresh r × (r.rec ≡ rec)

abbrev IsFresh : List Refreshing → Type 0
IsFresh refresh = (r : Refreshing) → Has refresh r → r.answers ≡ []

-- what has been put under refresh, from o to n
record Started (recs : List ℕ) (o n : Stepped) : Type 0 where
  held : n.site.held ≡ o.site.held
  bars : n.site.bars ≡ o.site.bars
  fresh : IsFresh n.site.refresh
  only : (r : Refreshing) → Has n.site.refresh r → Has recs r.rec ⊎ Listed o.site.refresh r.rec
  listed : (rec : ℕ) → Has recs rec ⊎ Listed o.site.refresh rec → Listed n.site.refresh rec

abbrev listing : ℕ → List Refreshing → List Refreshing
listing rec refresh = put (λ (a : Refreshing) (b : Refreshing). a.rec == b.rec) (λ (a : Refreshing) (b : Refreshing). nat_lt a.rec b.rec) (record { rec = rec; answers = [] }) refresh

fresh_more : (rec : ℕ) (refresh : List Refreshing) → IsFresh refresh → IsFresh (listing rec refresh)
fresh_more rec refresh all r h = ⊎_elim
    (λ (one : r ≡ record { rec = rec; answers = [] }). ap (λ (r : Refreshing). r.answers) one)
    (λ old. all r old)
    (put_has (λ (a : Refreshing) (b : Refreshing). a.rec == b.rec) (λ (a : Refreshing) (b : Refreshing). nat_lt a.rec b.rec) (record { rec = rec; answers = [] }) refresh r h)

listed_new : (rec : ℕ) (refresh : List Refreshing) → Listed (listing rec refresh) rec
listed_new rec refresh = (record { rec = rec; answers = [] }, put_new (λ (a : Refreshing) (b : Refreshing). a.rec == b.rec) (λ (a : Refreshing) (b : Refreshing). nat_lt a.rec b.rec) (record { rec = rec; answers = [] }) refresh, refl)

listed_old : (rec k : ℕ) (refresh : List Refreshing) → Listed refresh k → Listed (listing rec refresh) k
listed_old rec k refresh (r, h, e) = ⊎_elim
    (λ (one : rec ≡ k). subst (Listed (listing rec refresh)) one (listed_new rec refresh))
    (λ (other : rec ≢ k). (r, put_old (λ (a : Refreshing) (b : Refreshing). a.rec == b.rec) (λ (a : Refreshing) (b : Refreshing). nat_lt a.rec b.rec) (record { rec = rec; answers = [] }) refresh r h (eq_not rec r.rec (λ z. other (z ∙ e))), e))
    (same_site rec k)

started : (catalogue : Catalogue) (view : View) (recs : List ℕ) (o : Stepped) → IsFresh o.site.refresh → Started recs o (start_refresh_all catalogue view recs o)
unfolding start_refresh
started catalogue view [] o all = record { held = refl; bars = refl; fresh = all; only = λ r h. inr (r, h, refl); listed = λ rec h. ⊎_elim (λ none. absurd (has_none rec none)) (λ q. q) h }
started catalogue view (r ∷ recs) o all =
    let rest = started catalogue view recs (start_refresh catalogue view r o) (fresh_more r o.site.refresh all) in
    record {
      held = rest.held;
      bars = rest.bars;
      fresh = rest.fresh;
      only = λ q h. ⊎_elim
          (λ more. inl (has_more r recs q.rec more))
          (λ (old : Listed (listing r o.site.refresh) q.rec). ⊎_elim
          (λ (one : old.0 ≡ record { rec = r; answers = [] }). inl (subst (Has (r ∷ recs)) (ap (λ (a : Refreshing). a.rec) (sym one) ∙ old.2) (has_first r recs)))
          (λ was. inr (old.0, was, old.2))
          (put_has (λ (a : Refreshing) (b : Refreshing). a.rec == b.rec) (λ (a : Refreshing) (b : Refreshing). nat_lt a.rec b.rec) (record { rec = r; answers = [] }) o.site.refresh old.0 old.1))
          (rest.only q h);
      listed = λ rec h. ⊎_elim
          (λ now. ⊎_elim (λ (one : r ≡ rec). rest.listed rec (inr (subst (Listed (listing r o.site.refresh)) one (listed_new r o.site.refresh)))) (λ more. rest.listed rec (inl more)) (has_cons r recs rec now))
          (λ old. rest.listed rec (inr (listed_old r rec o.site.refresh old)))
          h;
    }

-- each record with a copy here is under refresh, or its refresh has ended
pub record Covers (catalogue : Catalogue) (x : SiteState) (given : Input) (view : View) (o : Stepped) : Type 0 where
  pub held : o.site.held ≡ Some view
  -- no record under refresh has a bar yet, and no copy is new
  pub free : (rec : ℕ) → Listed o.site.refresh rec → value_at rec o.site.bars ≡ None
  pub copied : (r : Refreshing) → Has o.site.refresh r → Has (keys x.copies) r.rec
  pub fresh : (r : Refreshing) → Has o.site.refresh r → r.answers ≡ []
  -- a refresh that has ended left each bar
  pub barred : (rec : ℕ) (bar : ℕ × ℕ) → value_at rec o.site.bars ≡ Some bar → Ended catalogue x given o rec
  pub covered : (rec : ℕ) → Has (keys x.copies) rec → Listed o.site.refresh rec ⊎ Ended catalogue x given o rec

module _ (catalogue : Catalogue) (x : SiteState) (given : Input) (view : View) (joins : (x.waiting ≡ Some view.id) ⊎ (x.inviting ≡ Some (view.id, view.members))) (unbarred : (rec : ℕ) → value_at rec x.bars ≡ None) where
  abbrev P : Stepped → Type 0
  P = Covers catalogue x given view

  same : (o e : Stepped) → e.site ≡ o.site → P o → P e
  same o e z p = record {
    held = ap (λ (y : SiteState). y.held) z ∙ p.held;
    free = λ rec l. subst (λ (y : SiteState). value_at rec y.bars ≡ None) (sym z) (p.free rec (subst (λ (y : SiteState). Listed y.refresh rec) z l));
    copied = λ r h. p.copied r (subst (λ (y : SiteState). Has y.refresh r) z h);
    fresh = λ r h. p.fresh r (subst (λ (y : SiteState). Has y.refresh r) z h);
    barred = λ rec bar b. ended_on catalogue x given o e rec (ap (λ (y : SiteState). y.id) z) (ap (λ (y : SiteState). y.held) z) (ap (λ (y : SiteState). y.doubts) z) (ap (λ (y : SiteState). value_at rec y.copies) z) (ap (λ (y : SiteState). value_at rec y.bars) z) (p.barred rec bar (subst (λ (y : SiteState). value_at rec y.bars ≡ Some bar) z b));
    covered = λ rec c. ⊎_elim
        (λ l. inl (subst (λ (y : SiteState). Listed y.refresh rec) (sym z) l))
        (λ q. inr (ended_on catalogue x given o e rec (ap (λ (y : SiteState). y.id) z) (ap (λ (y : SiteState). y.held) z) (ap (λ (y : SiteState). y.doubts) z) (ap (λ (y : SiteState). value_at rec y.copies) z) (ap (λ (y : SiteState). value_at rec y.bars) z) q))
        (p.covered rec c);
  }

  differs : (a b c : ℕ) → a ≡ b → c ≢ b → not (a == c) ≡ true
  differs a b c e n = let t : (a == c) ≡ false = grind (arith, nat_tests, e, n) in rw t refl

  finishes : (rec : ℕ) (r : Refreshing) (own : Stored) (o : Stepped) → refreshing_of rec o.site.refresh ≡ Some r → is_empty (unanswered catalogue o.site r) ≡ true → is_doubtful o.site r.rec ≡ false → value_at r.rec o.site.copies ≡ Some own → P o → P (end_refresh catalogue r own o)
  unfolding end_refresh unlist
  finishes rec r own o e a d v p = record {
    held = t.held ∙ p.held;
    free = λ k l. t.bars k (λ is. still_listed k is l) ∙ p.free k (was_listed k l);
    copied = λ q h. p.copied q (rw t.refresh at (kept q h));
    fresh = λ q h. p.fresh q (rw t.refresh at (kept q h));
    barred = λ k bar b. ⊎_elim (λ one. over k one) (λ other. ended_on catalogue x given o _ k t.id t.held t.doubts (t.other k other) (t.bars k other) (p.barred k bar (sym (t.bars k other) ∙ b))) (same_site r.rec k);
    covered = λ k copied. ⊎_elim (λ one. inr (over k one)) (λ other. ⊎_elim (λ l. inl (listed_on k other l)) (λ q. inr (ended_on catalogue x given o _ k t.id t.held t.doubts (t.other k other) (t.bars k other) q)) (p.covered k copied)) (same_site r.rec k);
  }
    where
      n : Stepped
      n = judged catalogue r own o

      there : Has o.site.refresh r
      there = find_has (λ (q : Refreshing). q.rec == rec) o.site.refresh r e

      t : Took catalogue r own o n
      t = took catalogue r own o v (p.free r.rec (r, there, refl))

      kept : (q : Refreshing) → Has (filter (λ (other : Refreshing). not (other.rec == r.rec)) n.site.refresh) q → Has n.site.refresh q
      kept q h = (filter_has (λ (other : Refreshing). not (other.rec == r.rec)) n.site.refresh q h).0

      was_listed : (k : ℕ) → Listed (filter (λ (other : Refreshing). not (other.rec == r.rec)) n.site.refresh) k → Listed o.site.refresh k
      was_listed k (q, h, is) = (q, rw t.refresh at (kept q h), is)

      still_listed : (k : ℕ) → r.rec ≡ k → Listed (filter (λ (other : Refreshing). not (other.rec == r.rec)) n.site.refresh) k → ⊥
      still_listed k same (q, h, is) = differing q.rec r.rec (filter_has (λ (other : Refreshing). not (other.rec == r.rec)) n.site.refresh q h).1 (is ∙ sym same)

      listed_on : (k : ℕ) → r.rec ≢ k → Listed o.site.refresh k → Listed (filter (λ (other : Refreshing). not (other.rec == r.rec)) n.site.refresh) k
      listed_on k z (q, h, is) = (q, filter_keeps (λ (other : Refreshing). not (other.rec == r.rec)) n.site.refresh q (rw t.refresh h) (differs q.rec k r.rec is z), is)

      none : {C : Type 0} (k : ℕ × Stored) → Has r.answers k → C
      none k h = absurd (has_none k (rw (p.fresh r there) at h))

      over : (k : ℕ) → r.rec ≡ k → Ended catalogue x given (end_refresh catalogue r own o) k
      over k z = record {
        r = r;
        on = z;
        answers = λ q h. none q h;
        all = rw (t.id, t.held) a;
        certain = subst (λ (k : ℕ). is_doubtful n.site k ≡ false) z (rw t.doubts d);
        copied = subst (Has (keys x.copies)) z (p.copied r there);
        since = ListedNow.joined view (t.held ∙ p.held) joins;
        verdict = subst (Verdict catalogue (end_refresh catalogue r own o) r) z (verdict_on catalogue n (end_refresh catalogue r own o) r r.rec refl refl refl t.verdict);
      }

  settles_one : (rec : ℕ) (r : Refreshing) (o : Stepped) → refreshing_of rec o.site.refresh ≡ Some r → P o → P (settle_one catalogue r o)
  unfolding settle_one
  settles_one rec r o e p = grind (arith, finishes rec)

  settles : (rec : ℕ) (o : Stepped) → P o → P (settle catalogue rec o)
  unfolding settle
  settles rec o p = grind (arith, settles_one rec)

  settles_all : (recs : List ℕ) (o : Stepped) → P o → P (settle_all catalogue recs o)
  settles_all [] o p = p
  settles_all (rec ∷ recs) o p = settles_all recs (settle catalogue rec o) (settles rec o p)

  refreshes : (o : Stepped) → o.site.held ≡ Some view → o.site.copies ≡ x.copies → o.site.bars ≡ x.bars → o.site.refresh ≡ [] → P (refresh_here catalogue view o)
  unfolding refresh_here
  refreshes o v c bs none =
      let q = started catalogue view (keys o.site.copies) o (λ r h. absurd (has_none r (rw none at h))) in
      settles_all (keys o.site.copies) (start_refresh_all catalogue view (keys o.site.copies) o) (record {
        held = q.held ∙ v;
        free = λ rec l. ap (value_at rec) (q.bars ∙ bs) ∙ unbarred rec;
        copied = λ r h. ⊎_elim
            (λ now. subst (λ (cs : List (ℕ × Stored)). Has (keys cs) r.rec) c now)
            (λ (old : Listed o.site.refresh r.rec). absurd (has_none old.0 (rw none at old.1)))
            (q.only r h);
        fresh = q.fresh;
        barred = λ rec bar b. absurd (let z = sym b ∙ ap (value_at rec) (q.bars ∙ bs) ∙ unbarred rec in cc);
        covered = λ rec copied. inl (q.listed rec (inl (rw c copied)));
      })

  resends : (decisions : List Decision) (o : Stepped) → P o → P (put_back o (resend o.site.id decisions (lent o)))
  unfolding resend_one
  resends [] o p = same o _ refl p
  resends (d ∷ decisions) o p = resends decisions (put_back o (resend_one o.site.id d (lent o))) (same o _ refl p)

  -- a tick that has fixed the view ends so
  abbrev Ends : Stepped → Type 0
  Ends o = P (inquire (known o.site.participant) (put_back o (resend o.site.id o.site.decisions (lent o))))

  ends_with : (o : Stepped) → P o → Ends o
  unfolding inquire
  ends_with o p = same (put_back o (resend o.site.id o.site.decisions (lent o))) _ refl (resends o.site.decisions o p)

  by_inviting : (Q : Stepped → Type 0) (i : Option (ViewId × List ℕ)) (rest : Stepped) → i ≡ Some (view.id, view.members) → Q (fix_view catalogue (view.id, view.members) (begin_step x)) → Q (option_map_or (λ inviting. fix_view catalogue inviting (begin_step x)) i rest)
  by_inviting Q i rest e q = rw e q

  -- the step that joins the view
  pub covers-step : x.refresh ≡ [] → Joins x given view → P (step catalogue x given)
  unfolding step on_input on_message on_view_commit join hold on_tick tick_view fix_view fix inquire
  covers-step none (Joins.came from c e) = subst (λ (g : Input). P (step catalogue x g)) (sym c) (rw e (refreshes (hold view (begin_step x)) refl refl refl none))
  covers-step none (Joins.fixed c e) = subst (λ (g : Input). P (step catalogue x g)) (sym c) (by_inviting Ends x.inviting _ e (ends_with (fix_view catalogue (view.id, view.members) (begin_step x)) (refreshes (fix view (begin_step x)) refl refl refl none)))

-- why a record with a copy here is not under refresh
pub data Quits (catalogue : Catalogue) (x : SiteState) (given : Input) (o : Stepped) (rec : ℕ) : Type 0 where
  still : IsUnlisted x.refresh rec → o.site.held ≡ x.held → value_at rec o.site.bars ≡ value_at rec x.bars → Quits catalogue x given o rec
  ended : Ended catalogue x given o rec → Quits catalogue x given o rec

-- where a bar is from
pub data BarFrom (catalogue : Catalogue) (x : SiteState) (given : Input) (o : Stepped) (rec : ℕ) (bar : ℕ × ℕ) : Type 0 where
  still : value_at rec x.bars ≡ Some bar → o.site.held ≡ x.held → BarFrom catalogue x given o rec bar
  ended : Ended catalogue x given o rec → BarFrom catalogue x given o rec bar

module _ (catalogue : Catalogue) (x : SiteState) (given : Input) (idle : x.held ≡ None → x.refresh ≡ []) (bars : AreBarred x) (tidy : Tidy x) (u : Unlisting catalogue x given (step catalogue x given)) where
  abbrev o : Stepped
  o = step catalogue x given

  none_held : (view : View) → Joins x given view → x.held ≡ None
  none_held view (Joins.came from c e) = (tidy.waiting view.id (is_view_is x.waiting view.id (both_true _ _ e).0)).1
  none_held view (Joins.fixed c e) = (tidy.inviting (view.id, view.members) e).1

  origin : (view : View) → Joins x given view → (x.waiting ≡ Some view.id) ⊎ (x.inviting ≡ Some (view.id, view.members))
  origin view (Joins.came from c e) = inl (is_view_is x.waiting view.id (both_true _ _ e).0)
  origin view (Joins.fixed c e) = inr e

  free : (view : View) → Joins x given view → (rec : ℕ) → value_at rec x.bars ≡ None
  free view j rec = found (value_at rec x.bars) refl
    where
      found : (bar : Option (ℕ × ℕ)) → value_at rec x.bars ≡ bar → value_at rec x.bars ≡ None
      found None e = e
      found (Some bar) e = absurd (no_bars x bars (none_held view j) rec bar e)

  joined : (view : View) → Joins x given view → Covers catalogue x given view o
  joined view j = covers-step catalogue x given view (origin view j) (free view j) (idle (none_held view j)) j

  pub quits : (rec : ℕ) (v : View) → o.site.held ≡ Some v → Has (keys x.copies) rec → IsUnlisted o.site.refresh rec → Quits catalogue x given o rec
  quits rec v held copied unlisted = go (u.unlisted rec v held unlisted)
    where
      go : Unlisted catalogue x given o rec → Quits catalogue x given o rec
      go (Unlisted.still none in_view same) = Quits.still none in_view same
      go (Unlisted.ended q) = Quits.ended q
      go (Unlisted.joined view now j) = ⊎_elim (λ (l : Listed o.site.refresh rec). absurd (unlisted l.0 l.1 l.2)) (λ q. Quits.ended q) ((joined view j).covered rec copied)

  pub bar_from : (rec : ℕ) (v : View) (bar : ℕ × ℕ) → o.site.held ≡ Some v → value_at rec o.site.bars ≡ Some bar → IsUnlisted o.site.refresh rec → BarFrom catalogue x given o rec bar
  bar_from rec v bar held barred unlisted = go (u.unlisted rec v held unlisted)
    where
      go : Unlisted catalogue x given o rec → BarFrom catalogue x given o rec bar
      go (Unlisted.still none in_view same) = BarFrom.still (sym same ∙ barred) in_view
      go (Unlisted.ended q) = BarFrom.ended q
      go (Unlisted.joined view now j) = BarFrom.ended ((joined view j).barred rec bar barred)
