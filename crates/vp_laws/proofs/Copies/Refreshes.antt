-- What a site knows of a record that it refreshes: each answer has a lower date; and once all other holders have answered and no
-- transaction in doubt writes the record, it is closed for the held view.
use Rattle.std.proofs.Common.{◌≡◌, ◌≢◌, ◌∙◌, ap, sym, subst, ℕ, Bool, true, false, cond, List, [], ◌∷◌, refl, ⊎_elim}
use Rattle.std.specs.Prelude.{Option, Some, None, find, ◌==◌, not}
use Rattle.std.proofs.lemmas.Bool.{eqb-true}
use Rattle.vp_model.specs.Types.{ViewId, View, Commit, Input, Stored, Refreshing, Doubt}
use Rattle.vp_model.specs.Types.message
use Rattle.vp_model.specs.Words.{has, is_empty, keys, opening}
use Rattle.vp_model.specs.Catalogue.{Catalogue, holders}
use Rattle.vp_model.specs.Durable.{DurableState}
use Rattle.vp_model.specs.Refresh.{refreshing_of, other_holders, other_holders_in, unanswered, is_doubtful}
use Rattle.vp_model.specs.Site.{SiteState, Stepped}
use Rattle.vp_laws.proofs.Lists.Members.{Has, has_first, has_more, has_cons, has_none, has_from_test, filter_keeps, map_has, any_false, has_test}
use Rattle.vp_laws.proofs.Lists.Views.{AtMost, Precedes, AtMost-trans, AtMost-along, Precedes-at_most, not_both, same_site}
use Rattle.vp_laws.proofs.Moves.LocalViews.{letter}
use Rattle.vp_laws.proofs.Table.Copies.{AnswerNow}
use Rattle.vp_laws.proofs.Table.CopyAt.{Certain}
use Rattle.vp_laws.proofs.Table.Listed.{IsUnlisted}
use Rattle.vp_laws.proofs.Lists.Numbers.{unequal}
use Rattle.vp_laws.proofs.Table.Leaves.{Uses}
use Rattle.vp_laws.proofs.Worlds.Scenes.{Scene, kept_at, promise_at}
use Rattle.vp_laws.proofs.Invariant.Dated.{WasSent}
use Rattle.vp_laws.proofs.Invariant.HasLeft.{HasLeft}
use Rattle.vp_laws.proofs.Keeping.Closing.{closed_at_lasts}
use Rattle.vp_laws.proofs.Keeping.NewEntries.{not_listed}
use Rattle.vp_laws.proofs.Keeping.Does.{Does}
use Rattle.vp_laws.proofs.Invariant.Refresh.{InvRefresh}
use Rattle.vp_laws.proofs.Keeping.Dated.{answer_sent}
use Rattle.vp_laws.proofs.Keeping.Entered.{other_holder}
use Rattle.vp_laws.proofs.Keeping.Guards.{strictly}
use Rattle.vp_laws.proofs.Keeping.Listed.{not_below_itself}
use Rattle.vp_laws.proofs.Invariant.Known.{Known}
use Rattle.vp_laws.proofs.Keeping.Leaving.{left_here}
use Rattle.vp_laws.proofs.Invariant.Closed.{ClosedAt, Closed}
use Rattle.vp_laws.proofs.Journal.ValuesAfter.{Wrote}

-- what is not found is not listed, and the other way round
pub unlisted_from : (rec : ℕ) (refresh : List Refreshing) → refreshing_of rec refresh ≡ None → IsUnlisted refresh rec
unlisted_from rec [] e r h is = has_none r h
unlisted_from rec (a ∷ refresh) e r h is = go (a.rec == rec) refl e (λ q more. unlisted_from rec refresh q r more is)
  where
    go : (b : Bool) → (a.rec == rec) ≡ b → cond b (Some a) (find (λ (r : Refreshing). r.rec == rec) refresh) ≡ None → (refreshing_of rec refresh ≡ None → Has refresh r → ⊥) → ⊥
    go true t q rest = cc
    go false t q rest = ⊎_elim (λ (one : a ≡ r). unequal a.rec rec t (ap (λ (r : Refreshing). r.rec) one ∙ is)) (λ more. rest q more) (has_cons a refresh r h)

pub unlisted_none : (rec : ℕ) (refresh : List Refreshing) → IsUnlisted refresh rec → refreshing_of rec refresh ≡ None
unlisted_none rec [] none = refl
unlisted_none rec (a ∷ refresh) none = go (a.rec == rec) refl (unlisted_none rec refresh (λ r h. none r (has_more a refresh r h)))
  where
    go : (b : Bool) → (a.rec == rec) ≡ b → refreshing_of rec refresh ≡ None → cond b (Some a) (find (λ (r : Refreshing). r.rec == rec) refresh) ≡ None
    go true t rest = absurd (none a (has_first a refresh) (eqb-true a.rec rec t))
    go false t rest = rest

-- a test that finds no doubtful record
pub certain_from : (doubts : List Doubt) (site : SiteState) (rec : ℕ) → site.doubts ≡ doubts → is_doubtful site rec ≡ false → Certain doubts rec
certain_from doubts site rec same e u h on =
    let t = any_false (λ (u : Doubt). has (keys u.writes) rec) site.doubts e u (rw same h) in
    let z = has_test (keys u.writes) rec on in cc

-- where none is unanswered, each other holder has answered
pub answered_by : (catalogue : Catalogue) (site : SiteState) (r : Refreshing) (q : ℕ) → is_empty (unanswered catalogue site r) ≡ true → Has (other_holders catalogue site r.rec) q → (p : ℕ × Stored) × Has r.answers p × (p.0 ≡ q)
answered_by catalogue site r q all h = go (has (keys r.answers) q) refl
  where
    none_left : (xs : List ℕ) → is_empty xs ≡ true → Has xs q → ⊥
    none_left [] e k = has_none q k
    none_left (a ∷ xs) e k = cc

    go : (b : Bool) → has (keys r.answers) q ≡ b → (p : ℕ × Stored) × Has r.answers p × (p.0 ≡ q)
    go true e = map_has (λ (p : ℕ × Stored). p.0) r.answers q (has_from_test (keys r.answers) q e)
    go false e = absurd (none_left (unanswered catalogue site r) all (filter_keeps (λ (a : ℕ). not (has (keys r.answers) a)) (other_holders catalogue site r.rec) q h (rw e refl)))

module _ (catalogue : Catalogue) (w new : Scene) (s : ℕ) (x : SiteState) (given : Input) (o : Stepped) (k : Known catalogue w) (n : Known catalogue new) (d : Does catalogue w new s x given o) where
  -- an answer is of a record that is under refresh
  pub answer_listed : (rec : ℕ) (q : ℕ × Stored) → AnswerNow catalogue x given rec q → (r : Refreshing) × Has x.refresh r × (r.rec ≡ rec)
  answer_listed rec q (AnswerNow.was r h e a) = (r, h, e)
  answer_listed rec q (AnswerNow.came from view r stored c is held h e u) = (r, h, e)

  pub answer_view : (rec : ℕ) (q : ℕ × Stored) → AnswerNow catalogue x given rec q → (u : View) × (x.held ≡ Some u) × WasSent catalogue w s rec u q
  answer_view rec q a = answer_sent catalogue w new s x given o d.up d.arrives d.here.id d.here.kept k.ends k.shares k.dated d.copies d.shares d.st rec q a

  -- it was sent in the held view, and is of a lower date
  pub record Answer (rec : ℕ) (u : View) (q : ℕ × Stored) : Type 0 where
    pub sent : Has w.sent (letter q.0 s (message.RefreshAnswer u.id rec q.1))
    pub low : Precedes q.1.date u.id

  pub answer_in : (rec : ℕ) (q : ℕ × Stored) (u : View) → AnswerNow catalogue x given rec q → x.held ≡ Some u → Answer rec u q
  answer_in rec q u a held = record { sent = sent; low = strictly q.1.date u.id (k.below.dated (letter q.0 s (message.RefreshAnswer u.id rec q.1)) sent) differs }
    where
      at : (v : View) × (x.held ≡ Some v) × WasSent catalogue w s rec v q
      at = answer_view rec q a

      sent : Has w.sent (letter q.0 s (message.RefreshAnswer u.id rec q.1))
      sent = let same : at.0 ≡ u = (let z = at.1 in cc) in subst (λ (v : View). Has w.sent (letter q.0 s (message.RefreshAnswer v.id rec q.1))) same at.2.0

      differs : q.1.date ≢ u.id
      differs same =
          let r = answer_listed rec q a in
          ⊎_elim
          (λ (first : q.1.date ≡ opening).
          let low = (k.guards.site s x d.up).lower r.0 r.1 in
          let is : low.0 ≡ u = (let z = low.1 in cc) in
          not_below_itself opening low.0.id low.2 (sym first ∙ same ∙ ap (λ (v : View). v.id) (sym is)))
          (λ (e : (e : Commit) × Has w.journal e × Wrote e rec × (e.view ≡ q.1.date)). k.listed.unwritten s x u r.0 e.0 d.up held r.1 e.1 (subst (Wrote e.0) (sym r.2) e.2) (e.3 ∙ same))
          (k.dated.sent q.0 s rec u.id q.1 sent)

  -- no entry of this step wrote the record
  pub answer_unwritten : (rec : ℕ) (q : ℕ × Stored) → AnswerNow catalogue x given rec q → (e : Commit) → Has o.effects.commits e → Wrote e rec → ⊥
  answer_unwritten rec q a e h wrote = let r = answer_listed rec q a in not_listed catalogue w new s x given o k n d e r.0 h r.1 (subst (Wrote e) (sym r.2) wrote)

  -- a site has left all views below the one that it held as the step began
  pub left_below : (u : View) (j : ViewId) → x.held ≡ Some u → Precedes j u.id → HasLeft new s j
  left_below u j held below = left_here w new s x o d.st j promised unused
    where
      at : u.id ≡ x.promise
      at = (d.here.tidy.held u held).0

      promised : AtMost j (promise_at new s)
      promised = AtMost-trans j u.id (promise_at new s) (Precedes-at_most j u.id below) (AtMost-along d.local.rises at (ap (λ (k : DurableState). k.promise) d.st.kept_now))

      was_unused : Uses x j → ⊥
      was_unused (Uses.held v e same) = not_below_itself j u.id below (sym same ∙ ap (λ (v : View). v.id) (let z = e in let is : v ≡ u = cc in is))
      was_unused (Uses.awaited e) = let z = (d.here.tidy.held u held).1 in cc
      was_unused (Uses.invited b e same) = let z = (d.here.tidy.held u held).2 in cc

      unused : Uses o.site j → ⊥
      unused uses = ⊎_elim was_unused (λ (above : Precedes x.promise j). not_both j u.id below (Precedes-at_most u.id j (subst (λ (i : ViewId). Precedes i j) (sym at) above))) (d.leaves.uses j uses)

  -- and below the one that it holds after it
  pub left_below_now : (u : View) (j : ViewId) → o.site.held ≡ Some u → Precedes j u.id → HasLeft new s j
  left_below_now u j held below = left_here w new s x o d.st j promised unused
    where
      promised : AtMost j (promise_at new s)
      promised = AtMost-along (Precedes-at_most j u.id below) refl (ap (λ (k : DurableState). k.promise) d.st.kept_now ∙ sym ((n.views.site s o.site d.st.now).tidy.held u held).0)

      unused : Uses o.site j → ⊥
      unused (Uses.held v e same) = not_below_itself j u.id below (sym same ∙ ap (λ (v : View). v.id) (let z = e in let is : v ≡ u = cc in is))
      unused (Uses.awaited e) = let z = ((n.views.site s o.site d.st.now).tidy.held u held).1 in cc
      unused (Uses.invited b e same) = let z = ((n.views.site s o.site d.st.now).tidy.held u held).2 in cc

  -- the record is closed for the view: each other holder has answered, and nothing here is in doubt on it
  module _ (refresh : InvRefresh catalogue w) (rec : ℕ) (u : View) (r : Refreshing) (site : SiteState) (id : site.id ≡ s) (held : site.held ≡ Some u) (on : r.rec ≡ rec) (all : is_empty (unanswered catalogue site r) ≡ true) (answers : (p : ℕ × Stored) → Has r.answers p → AnswerNow catalogue x given rec p) (held_then : (p : ℕ × Stored) → Has r.answers p → x.held ≡ Some u) where
    pub other_answer : (q : ℕ) → Has (holders catalogue rec) q → Has u.members q → q ≢ s → (p : ℕ × Stored) × Has r.answers p × (p.0 ≡ q)
    other_answer q holder member other = answered_by catalogue site r q all (subst (λ (n : ℕ). Has (other_holders catalogue site n) q) (sym on) (subst (λ (h : Option View). Has (other_holders_in catalogue site.id h rec) q) (sym held) (other_holder catalogue site.id rec q u holder member (λ z. other (z ∙ id)))))

    pub all_closed : ((j : ViewId) → Precedes j u.id → HasLeft new s j) → Certain (kept_at new s).doubts rec → Closed catalogue new rec u
    all_closed left certain q holder member = ⊎_elim
        (λ (here : q ≡ s). rw here (record { left = left; certain = λ v h on below. certain v h on }))
        (λ (other : q ≢ s).
        let p = other_answer q holder member other in
        let a = answer_in rec p.0 u (answers p.0 p.1) (held_then p.0 p.1) in
        subst (λ (q : ℕ). ClosedAt new q rec u.id) p.2 (closed_at_lasts catalogue w new s x given o d.up d.here.kept d.below.parts d.shares d.leaves d.st p.0.0 rec u.id (refresh.closed p.0.0 s rec u.id p.0.1 a.sent a.low)))
        (same_site q s)
