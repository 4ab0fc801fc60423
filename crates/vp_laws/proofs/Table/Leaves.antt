-- What a site gives up in a step: the views that it never uses again, and the transactions that ended there.
use Rattle.std.proofs.Common.{◌≡◌, ◌≢◌, ◌⊎◌, ◌∙◌, ap, sym, ℕ, Bool, true, false, cond, List, [], ◌∷◌, ◌++◌, refl, arith, inl, inr, ⊎_elim}
use Rattle.std.specs.Prelude.{Option, Some, None, is_some, option_map, not, ◌&&◌, ◌||◌}
use Rattle.std.proofs.lemmas.Bool.Decides.{nat_tests}
use Rattle.vp_model.specs.Types.{ViewId, TxnId, View, Message, Input, Stored, Refreshing, Doubt}
use Rattle.vp_model.specs.Types.message
use Rattle.vp_model.specs.Words.{same_view, same_txn, has_txn, view_before, is_view, has, put_number}
use Rattle.vp_model.specs.Catalogue.{Catalogue}
use Rattle.vp_model.specs.Durable.{doubt_of}
use Rattle.vp_model.specs.Site.{ViewState, ParticipantState, SiteState, Lent, Stepped, begin_step, put_back, change_views}
use Rattle.vp_model.specs.Refresh.{unlist, end_refresh, start_refresh}
use Rattle.vp_model.specs.Views.{drop_view, start_inviting, hold, has_part, has_doubt}
use Rattle.vp_model.specs.Messages.{put_part, with_ended, with_acceptance, accept, on_accept, on_stale, grant, end_here}
use Rattle.vp_model.specs.Step.{without_wait, fix, ask_again, resend_one, inquire, step}
use Rattle.vp_laws.proofs.Lists.Members.{Has, both_true}
use Rattle.vp_laws.proofs.Lists.Views.{Precedes, from_before, is_view_is}
use Rattle.vp_laws.proofs.Moves.Table.{Comes, Left, next_view, Back, Table}
use Rattle.vp_laws.proofs.Moves.Rows.{step-keeps}
use Rattle.vp_laws.proofs.Table.Shares.{OutcomeComes}
use Rattle.vp_laws.proofs.Moves.Frames.{judged, take-cases}

-- the site uses the identifier: it holds it, waits for it, or invites to it
pub data Uses (x : SiteState) (i : ViewId) : Type 0 where
  held : (v : View) → x.held ≡ Some v → v.id ≡ i → Uses x i
  awaited : x.waiting ≡ Some i → Uses x i
  invited : (b : ViewId × List ℕ) → x.inviting ≡ Some b → b.0 ≡ i → Uses x i

pub record Leaves (x : SiteState) (given : Input) (o : Stepped) : Type 0 where
  -- an identifier that is used now was used before, or is above the promise
  pub uses : (i : ViewId) → Uses o.site i → Uses x i ⊎ Precedes x.promise i
  -- a transaction that had ended here has, or the site has left its view
  pub ended : (txn : TxnId) → has_txn x.ended txn ≡ true → (has_txn o.site.ended txn ≡ true) ⊎ ((i : ViewId) → Uses o.site i → Precedes x.promise i)
  -- where an outcome comes for a doubt, it stays or has ended here, if a view is held
  pub outcome : (d : Doubt) → Has x.doubts d → OutcomeComes given d.txn → Has o.site.doubts d ⊎ ((has_txn o.site.ended d.txn ≡ true) ⊎ (x.held ≡ None))

-- no view is held, awaited or invited to
pub unused : (x : SiteState) (i : ViewId) → x.held ≡ None → x.waiting ≡ None → x.inviting ≡ None → Uses x i → ⊥
unused x i h w b (Uses.held v e same) = cc
unused x i h w b (Uses.awaited e) = cc
unused x i h w b (Uses.invited c e same) = cc

-- two sites that use the same
pub uses_same : (x y : SiteState) (i : ViewId) → x.held ≡ y.held → x.waiting ≡ y.waiting → x.inviting ≡ y.inviting → Uses x i → Uses y i
uses_same x y i h w b (Uses.held v e same) = Uses.held v (sym h ∙ e) same
uses_same x y i h w b (Uses.awaited e) = Uses.awaited (sym w ∙ e)
uses_same x y i h w b (Uses.invited c e same) = Uses.invited c (sym b ∙ e) same

-- ended transactions after one more
any_left : (txns : List TxnId) (txn u : TxnId) → has_txn txns u ≡ true → has_txn (txns ++ txn ∷ []) u ≡ true
any_left [] txn u e = cc
any_left (t ∷ txns) txn u e = go (same_txn t u) e (λ h. any_left txns txn u h)
  where
    go : (b : Bool) → (b || has_txn txns u) ≡ true → (has_txn txns u ≡ true → has_txn (txns ++ txn ∷ []) u ≡ true) → (b || has_txn (txns ++ txn ∷ []) u) ≡ true
    go true e rest = refl
    go false e rest = rest e

any_last : (txns : List TxnId) (txn : TxnId) → has_txn (txns ++ txn ∷ []) txn ≡ true
any_last [] txn = grind (arith, nat_tests)
any_last (t ∷ txns) txn = go (same_txn t txn) (any_last txns txn)
  where
    go : (b : Bool) → has_txn (txns ++ txn ∷ []) txn ≡ true → (b || has_txn (txns ++ txn ∷ []) txn) ≡ true
    go true rest = refl
    go false rest = rest

first_is : (b c : ViewId × List ℕ) (i : ViewId) → b.0 ≡ c.0 → c.0 ≡ i → b.0 ≡ i
first_is b c i e f = e ∙ f

held_id_is : (a v : View) (i : ViewId) → Some a ≡ Some v → v.id ≡ i → a.id ≡ i
held_id_is a v i e same = let z : a ≡ v = cc in rw z same

module _ (catalogue : Catalogue) (x : SiteState) (given : Input) where
  abbrev P : Stepped → Type 0
  P = Leaves x given

  starts : P (begin_step x)
  starts = record { uses = λ i u. inl u; ended = λ txn h. inl h; outcome = λ d h c. inl h }

  -- views, doubts and what has ended stay
  beside : (o e : Stepped) → e.site.held ≡ o.site.held → e.site.waiting ≡ o.site.waiting → e.site.inviting ≡ o.site.inviting → e.site.doubts ≡ o.site.doubts → e.site.ended ≡ o.site.ended → P o → P e
  beside o e h w b d n l = record {
    uses = λ i u. l.uses i (uses_same e.site o.site i h w b u);
    ended = λ txn g. ⊎_elim (λ still. inl (rw n still)) (λ left. inr (λ i u. left i (uses_same e.site o.site i h w b u))) (l.ended txn g);
    outcome = λ a g c. ⊎_elim (λ still. inl (rw d still)) (λ rest. inr (rw n rest)) (l.outcome a g c);
  }

  silent : (o e : Stepped) → e.site.views ≡ o.site.views → e.site.participant ≡ o.site.participant → P o → P e
  silent o e v p l = beside o e (ap (λ (v : ViewState). v.held) v) (ap (λ (v : ViewState). v.waiting) v) (ap (λ (v : ViewState). v.inviting) v) (ap (λ (p : ParticipantState). p.doubts) p) (ap (λ (p : ParticipantState). p.ended) p) l

  -- other views, of which each identifier was used or is above
  views_change : (e : Stepped) → e.site.participant ≡ x.participant → ((i : ViewId) → Uses e.site i → Uses x i ⊎ Precedes x.promise i) → P e
  views_change e p uses = record {
    uses = uses;
    ended = λ txn g. inl (rw (ap (λ (p : ParticipantState). p.ended) p) g);
    outcome = λ a g c. inl (rw (ap (λ (p : ParticipantState). p.doubts) p) g);
  }

  -- the site has left its view, and uses at most what is above its promise
  left : (e : Stepped) → e.site.doubts ≡ x.doubts → ((i : ViewId) → Uses e.site i → Precedes x.promise i) → P e
  left e d all = record { uses = λ i u. inr (all i u); ended = λ txn g. inr all; outcome = λ a g c. inl (rw d g) }

  -- no outcome came
  part_changes : (e : Stepped) → e.site.views ≡ x.views → e.site.ended ≡ x.ended → ((txn : TxnId) → OutcomeComes given txn → ⊥) → P e
  part_changes e v n none = record {
    uses = λ i u. inl (uses_same e.site x i (ap (λ (v : ViewState). v.held) v) (ap (λ (v : ViewState). v.waiting) v) (ap (λ (v : ViewState). v.inviting) v) u);
    ended = λ txn g. inl (rw n g);
    outcome = λ a g c. absurd (none a.txn c);
  }

  drops : (l : Lent) → P (drop_view (put_back (begin_step x) l))
  unfolding drop_view
  drops l = left (drop_view (put_back (begin_step x) l)) refl (λ i u. absurd (unused _ i refl refl refl u))

  only_invited : (y : SiteState) (b : ViewId × List ℕ) → y.held ≡ None → y.waiting ≡ None → y.inviting ≡ Some b → Precedes x.promise b.0 → (i : ViewId) → Uses y i → Precedes x.promise i
  only_invited y b h w e up i (Uses.held v f same) = absurd (let z = f in cc)
  only_invited y b h w e up i (Uses.awaited f) = absurd (let z = f in cc)
  only_invited y b h w e up i (Uses.invited c f same) = let z : b ≡ c = cc in rw (← same, ← (ap (λ (b : ViewId × List ℕ). b.0) z)) up

  only_awaited : (y : SiteState) (j : ViewId) → y.held ≡ None → y.waiting ≡ Some j → y.inviting ≡ None → Precedes x.promise j → (i : ViewId) → Uses y i → Precedes x.promise i
  only_awaited y j h w e up i (Uses.held v f same) = absurd (let z = f in cc)
  only_awaited y j h w e up i (Uses.awaited f) = let z : j ≡ i = cc in rw (← z) up
  only_awaited y j h w e up i (Uses.invited c f same) = absurd (let z = f in cc)

  left_doubts : (o : Stepped) → Left x o → o.site.doubts ≡ x.doubts
  left_doubts o l = ap (λ (p : ParticipantState). p.doubts) l.participant

  above : Precedes x.promise (next_view x)
  above = omega arith

  pub invites_only : (o : Stepped) → Left x o → (i : ViewId) → Uses (start_inviting catalogue (next_view x) o).site i → Precedes x.promise i
  unfolding start_inviting
  invites_only o l i u = only_invited _ (next_view x, o.site.id ∷ []) (ap (λ (v : ViewState). v.held) l.views) (ap (λ (v : ViewState). v.waiting) l.views) refl above i u

  invites : (o : Stepped) → Left x o → P (start_inviting catalogue (next_view x) o)
  unfolding start_inviting
  invites o l = left (start_inviting catalogue (next_view x) o) (left_doubts o l) (invites_only o l)

  pub accepts_only : (from : ℕ) (id : ViewId) (o : Stepped) → view_before x.promise id ≡ true → Left x o → (i : ViewId) → Uses (accept from id o).site i → Precedes x.promise i
  unfolding accept
  accepts_only from id o e l i u = only_awaited _ id (ap (λ (v : ViewState). v.held) l.views) refl (ap (λ (v : ViewState). v.inviting) l.views) (from_before x.promise id e) i u

  accepts : (from : ℕ) (id : ViewId) (o : Stepped) → view_before x.promise id ≡ true → Left x o → P (accept from id o)
  unfolding accept
  accepts from id o e l = left (accept from id o) (left_doubts o l) (accepts_only from id o e l)

  accepteds : (from : ℕ) (id : ViewId) → P (on_accept from id (begin_step x))
  unfolding on_accept
  accepteds from id = views_change (on_accept from id (begin_step x)) refl (λ i u. inl (was i u))
    where
      first_same : (b : ViewId × List ℕ) → (with_acceptance from id b).0 ≡ b.0
      first_same b = go (same_view b.0 id)
        where
          go : (t : Bool) → (cond t (b.0, put_number from b.1) b).0 ≡ b.0
          go true = refl
          go false = refl

      old : (o : Option (ViewId × List ℕ)) (c : ViewId × List ℕ) → option_map (with_acceptance from id) o ≡ Some c → (b : ViewId × List ℕ) × (o ≡ Some b) × (b.0 ≡ c.0)
      old None c e = cc
      old (Some b) c e = let z : with_acceptance from id b ≡ c = cc in (b, refl, rw (← z) (sym (first_same b)))

      was : (i : ViewId) → Uses (on_accept from id (begin_step x)).site i → Uses x i
      was i (Uses.held v e same) = Uses.held v e same
      was i (Uses.awaited e) = Uses.awaited e
      was i (Uses.invited c e same) = let q = old x.inviting c e in Uses.invited q.0 q.1 (first_is q.0 c i q.2 same)

  holds : (id : ViewId) (members : List ℕ) → (is_view x.waiting id && has members x.id) ≡ true → P (hold (record { id = id; members = members }) (begin_step x))
  unfolding hold
  holds id members e = views_change (hold (record { id = id; members = members }) (begin_step x)) refl (λ i u. inl (was i u))
    where
      was : (i : ViewId) → Uses (hold (record { id = id; members = members }) (begin_step x)).site i → Uses x i
      was i (Uses.held v f same) =
          Uses.awaited (is_view_is x.waiting id (both_true _ _ e).0 ∙ ap (λ (i : ViewId). Some i) (held_id_is (record { id = id; members = members }) v i f same))
      was i (Uses.awaited f) = absurd (let z = f in cc)
      was i (Uses.invited c f same) = absurd (let z = f in cc)

  fixes : (view : View) → x.inviting ≡ Some (view.id, view.members) → P (fix view (begin_step x))
  unfolding fix hold
  fixes view e = views_change (fix view (begin_step x)) refl (λ i u. inl (was i u))
    where
      was : (i : ViewId) → Uses (fix view (begin_step x)).site i → Uses x i
      was i (Uses.held v f same) = let z : view ≡ v = cc in Uses.invited (view.id, view.members) e (ap (λ (v : View). v.id) z ∙ same)
      was i (Uses.awaited f) = absurd (let z = f in cc)
      was i (Uses.invited c f same) = absurd (let z = f in cc)

  forgets : P (change_views without_wait (begin_step x))
  forgets = views_change (change_views without_wait (begin_step x)) refl (λ i u. inl (was i u))
    where
      was : (i : ViewId) → Uses (change_views without_wait (begin_step x)).site i → Uses x i
      was i (Uses.held v f same) = Uses.held v f same
      was i (Uses.awaited f) = absurd (let z = f in cc)
      was i (Uses.invited c f same) = Uses.invited c f same

  ends_refresh : (r : Refreshing) (own : Stored) (o : Stepped) → P o → P (end_refresh catalogue r own o)
  unfolding end_refresh unlist
  ends_refresh r own o p = silent (judged catalogue r own o) _ refl refl (take-cases P catalogue r own o (silent o _ refl refl p) p (silent o _ refl refl p))

  grants : (from : ℕ) (txn : TxnId) (view : ViewId) (rec : ℕ) (exclusive : Bool) (words : Message) → ((u : TxnId) → OutcomeComes given u → ⊥) → P (grant txn view rec exclusive words from (begin_step x))
  unfolding grant
  grants from txn view rec exclusive words none = part_changes (grant txn view rec exclusive words from (begin_step x)) refl (go (has_part txn x.parts || has_doubt txn x.doubts)) none
    where
      go : (b : Bool) → (cond b x.participant (record x.participant { parts = put_part (record { txn = txn; view = view; voted = false }) x.parts })).ended ≡ x.ended
      go true = refl
      go false = refl

  ended_has : (txn : TxnId) (in_view : Bool) (txns : List TxnId) (u : TxnId) → has_txn txns u ≡ true → has_txn (cond (in_view && not (has_txn txns txn)) (txns ++ txn ∷ []) txns) u ≡ true
  ended_has txn in_view txns u e = go (in_view && not (has_txn txns txn))
    where
      go : (b : Bool) → has_txn (cond b (txns ++ txn ∷ []) txns) u ≡ true
      go true = any_left txns txn u e
      go false = e

  ended_new : (txn : TxnId) (txns : List TxnId) → has_txn (cond (true && not (has_txn txns txn)) (txns ++ txn ∷ []) txns) txn ≡ true
  ended_new txn txns = go (has_txn txns txn) refl
    where
      go : (b : Bool) → has_txn txns txn ≡ b → has_txn (cond (true && not b) (txns ++ txn ∷ []) txns) txn ≡ true
      go true e = e
      go false e = any_last txns txn

  ends_here : (from : ℕ) (txn : TxnId) (commit : Bool) (doubt : Option Doubt) → Comes given from (message.Outcome txn commit) → P (end_here from txn commit doubt (begin_step x))
  unfolding end_here
  ends_here from txn commit doubt c = go commit doubt c
    where
      ended_when : (held : Option View) → x.held ≡ held → (has_txn (with_ended (is_some held) txn x.participant).ended txn ≡ true) ⊎ (x.held ≡ None)
      ended_when None e = inr e
      ended_when (Some v) e = inl (ended_new txn x.ended)

      named : (d : Doubt) → OutcomeComes given d.txn → d.txn ≡ txn
      named d (p, b, e) = let z = sym e ∙ c in cc

      now : (e : Stepped) → e.site.views ≡ x.views → e.site.participant ≡ with_ended (is_some x.held) txn x.participant → P e
      now e v p = record {
        uses = λ i u. inl (uses_same e.site x i (ap (λ (v : ViewState). v.held) v) (ap (λ (v : ViewState). v.waiting) v) (ap (λ (v : ViewState). v.inviting) v) u);
        ended = λ u h. inl (rw (ap (λ (p : ParticipantState). p.ended) p) (ended_has txn (is_some x.held) x.ended u h));
        outcome = λ d h g. inr (rw (named d g, ap (λ (p : ParticipantState). p.ended) p) (ended_when x.held refl));
      }

      go : (commit : Bool) (doubt : Option Doubt) → Comes given from (message.Outcome txn commit) → P (end_here from txn commit doubt (begin_step x))
      go true None c = now _ refl refl
      go false None c = now _ refl refl
      go true (Some d) c = now _ refl refl
      go false (Some d) c = now _ refl refl

  no_outcome : (from : ℕ) (m : Message) → Comes given from m → ((txn : TxnId) (commit : Bool) → m ≢ message.Outcome txn commit) → (u : TxnId) → OutcomeComes given u → ⊥
  no_outcome from m c n u (p, b, e) = n u b (let z = sym c ∙ e in cc)

  abbrev K : Lent → Type 0
  K = Back x P

  same_site : (l : Lent) → K l
  same_site l = silent (begin_step x) (put_back (begin_step x) l) refl refl starts

  pub table : Table catalogue x given P
  unfolding on_stale ask_again start_refresh resend_one inquire
  table = record {
    sends_back = λ from m t. silent (begin_step x) _ refl refl starts;
    asks_again = λ o ms all p. silent o _ refl refl p;
    drop_view = λ l e z p. drops l;
    start_inviting = λ o s l p. invites o l;
    accept = λ from id o c e l p. accepts from id o e l;
    accepted = λ from id c. accepteds from id;
    seen = λ from id promise c. beside (begin_step x) _ refl refl refl refl refl starts;
    hold = λ from id members c e. holds id members e;
    heard = λ from view c e. beside (begin_step x) _ refl refl refl refl refl starts;
    fix = λ view c e. fixes view e;
    without_wait = λ id c i w. forgets;
    probe = λ view c e. beside (begin_step x) _ refl refl refl refl refl starts;
    answers_inviting = λ port c s p. silent _ _ refl refl p;
    start_refresh = λ view rec o e h p. silent o _ refl refl p;
    end_refresh = λ rec r own o e a d v p. ends_refresh r own o p;
    keep_answer = λ from view rec stored r c e f g. silent (begin_step x) _ refl refl starts;
    grant_read = λ from txn view number rec stored c e n v f u. grants from txn view rec false (message.ReadAnswer txn number stored.value) (no_outcome from (message.ReadRequest txn view number rec) c (λ u b e. cc));
    grant_write = λ from txn view number rec stored c e n v f u. grants from txn view rec true (message.WriteAnswer txn number) (no_outcome from (message.WriteRequest txn view number rec) c (λ u b e. cc));
    vote_reading = λ from txn view number reads writes part c e n d f v a w. part_changes _ refl refl (no_outcome from (message.Prepare txn view number reads writes) c (λ u b e. cc));
    vote_writing = λ from txn view number reads writes part c e n d f v a w. part_changes _ refl refl (no_outcome from (message.Prepare txn view number reads writes) c (λ u b e. cc));
    end_here = λ from txn commit c. ends_here from txn commit (doubt_of txn x.doubts) c;
    coordinator = record {
      begin = λ port view e g u. same_site _;
      answers = λ words port why y. same_site _;
      take_lock = λ t rec exclusive stored h i a v c. same_site _;
      complete = λ t p deed l h g y e q. same_site _;
      read_at = λ t p rec q h n r a w c o y. same_site _;
      write_at = λ t p rec value l h n w a e o d y v q. same_site _;
      prepare_parts = λ t p h i g e. same_site _;
      still_waits = λ t p from h e m f c. same_site _;
      decide = λ t n d. same_site _;
      close = λ t why l n a z y q. same_site _;
      mark_calls = λ l c z q. same_site _;
      acknowledge = λ from txn c w. same_site _;
    };
    resend_one = λ d o c h p. silent o _ refl refl p;
  }

pub leaves-step : (catalogue : Catalogue) (x : SiteState) (given : Input) → Leaves x given (step catalogue x given)
leaves-step catalogue x given = step-keeps catalogue x given (Leaves x given) (table catalogue x given) (starts catalogue x given)
