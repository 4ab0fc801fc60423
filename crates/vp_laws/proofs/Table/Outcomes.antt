-- A step forces the outcome of a transaction only when that outcome comes, at a site that is in doubt about it; and a doubt ends
-- only so.
use Rattle.std.proofs.Common.{◌≡◌, ◌⊎◌, ◌∙◌, ap, sym, subst, ℕ, Bool, true, false, cond, List, [], ◌∷◌, ◌++◌, refl, inl, inr, ⊎_elim}
use Rattle.std.specs.Prelude.{Option, Some, None, find, not}
use Rattle.vp_model.specs.Types.{TxnId, Stored, LogRecord, Input, Part, Live, Ending, Refreshing, Doubt}
use Rattle.vp_base.specs.declared.site.Ending.TheVariants.{Committed}
use Rattle.vp_model.specs.Types.log_record
use Rattle.vp_model.specs.Types.input
use Rattle.vp_model.specs.Types.message
use Rattle.vp_model.specs.Words.{same_txn, txn_before}
use Rattle.vp_model.specs.Catalogue.{Catalogue}
use Rattle.vp_model.specs.Durable.{doubt_of, without_doubt}
use Rattle.vp_model.specs.Site.{SiteState, Lent, Stepped, begin_step, put_back}
use Rattle.vp_model.specs.Transactions.{last_changes, entry_of, writes_held, writing_parts, keep_writes, complete}
use Rattle.vp_model.specs.Refresh.{newest, unlist, end_refresh, start_refresh}
use Rattle.vp_model.specs.Views.{has_doubt, drop_view, start_inviting, hold}
use Rattle.vp_model.specs.Calls.{start_txn, take_lock, read_at, write_at, prepare_parts}
use Rattle.vp_model.specs.Messages.{accept, on_accept, on_stale, grant, end_here}
use Rattle.vp_model.specs.Step.{step, fix, mark_calls, ask_again, resend_one, inquire}
use Rattle.vp_laws.proofs.Lists.Members.{Has, has_none, has_one, has_one_is, has_cases, has_cons, has_left, any_false, filter_keeps, find_has, find_true}
use Rattle.vp_laws.proofs.Lists.Changes.{put_old}
use Rattle.vp_model.proofs.SameTxn.{same_txn-is, same_txn-turned}
use Rattle.vp_laws.proofs.Moves.Frames.{Ends, close-ends, decided-ends, decide-cases, judged, take-cases}
use Rattle.vp_laws.proofs.Moves.Table.{Comes, next_view, lent_at, Back, Table}
use Rattle.vp_laws.proofs.Moves.Rows.{step-keeps}
use Rattle.vp_laws.proofs.Moves.Parts.{with_part_doubts}

-- the outcome comes, and the site is in doubt about its transaction
pub record OutcomeFor (x : SiteState) (given : Input) (txn : TxnId) (commit : Bool) : Type 0 where
  pub from : ℕ
  pub comes : Comes given from (message.Outcome txn commit)
  pub doubt : Doubt
  pub there : Has x.doubts doubt
  pub named : doubt.txn ≡ txn

abbrev pub OutcomesCome : SiteState → Input → List LogRecord → Type 0
OutcomesCome x given rs = (txn : TxnId) (commit : Bool) → Has rs (log_record.Outcome txn commit) → OutcomeFor x given txn commit

-- the step has forced an outcome of the transaction
abbrev pub IsForced : Stepped → TxnId → Type 0
IsForced o txn = (commit : Bool) × Has o.effects.records (log_record.Outcome txn commit)

-- a doubt is still there, or ends by an outcome
abbrev pub DoubtsStay : SiteState → Stepped → Type 0
DoubtsStay x o = (d : Doubt) → Has x.doubts d → Has o.site.doubts d ⊎ IsForced o d.txn

abbrev is_outcome : LogRecord → Bool
is_outcome (log_record.Outcome txn commit) = true
is_outcome r = false

pub find_none : {A : Type 0} (test : A → Bool) (xs : List A) → find test xs ≡ None → (a : A) → Has xs a → test a ≡ false
find_none test [] e a h = absurd (has_none a h)
find_none {A} test (y ∷ ys) e a h = go (test y) refl e (λ q k. find_none test ys q a k)
  where
    go : (b : Bool) → test y ≡ b → cond b (Some y) (find test ys) ≡ None → (find test ys ≡ None → Has ys a → test a ≡ false) → test a ≡ false
    go true t q rest = cc
    go false t q rest = ⊎_elim (λ (same : y ≡ a). rw (← same) t) (λ more. rest q more) (has_cons y ys a h)

-- a transaction that is not in doubt has no doubt
no_such : (doubts : List Doubt) (txn named : TxnId) (d : Doubt) → named ≡ txn → has_doubt txn doubts ≡ false → Has doubts d → same_txn named d.txn ≡ false
no_such doubts txn named d is e h = rw is (same_txn-turned d.txn txn (any_false (λ (d : Doubt). same_txn d.txn txn) doubts e d h))

module _ (catalogue : Catalogue) (x : SiteState) (given : Input) where
  one_more : (rs now : List LogRecord) (r : LogRecord) → is_outcome r ≡ false → now ≡ rs ++ r ∷ [] → OutcomesCome x given rs → OutcomesCome x given now
  one_more rs now r other is come txn commit h = ⊎_elim
      (λ old. come txn commit old)
      (λ new. absurd (let z : is_outcome (log_record.Outcome txn commit) ≡ false = subst (λ (r : LogRecord). is_outcome r ≡ false) (has_one_is r (log_record.Outcome txn commit) new) other in cc))
      (has_cases rs (r ∷ []) (log_record.Outcome txn commit) (rw is at h))

  record P (o : Stepped) : Type 0 where
    come : OutcomesCome x given o.effects.records
    stays : DoubtsStay x o

  abbrev K : Lent → Type 0
  K = Back x P

  none : (o : Stepped) → o.effects.records ≡ [] → o.site.doubts ≡ x.doubts → P o
  none o e same = record { come = λ txn commit h. absurd (has_none _ (rw e at h)); stays = λ d h. inl (rw same h) }

  alike : (o e : Stepped) → e.effects.records ≡ o.effects.records → e.site.doubts ≡ o.site.doubts → P o → P e
  alike o e is same p = record {
    come = λ txn commit h. p.come txn commit (rw is at h);
    stays = λ d h. ⊎_elim (λ here. inl (rw same here)) (λ (ends : IsForced o d.txn). inr (ends.0, rw is ends.1)) (p.stays d h);
  }

  more : (o e : Stepped) (r : LogRecord) → is_outcome r ≡ false → e.effects.records ≡ o.effects.records ++ r ∷ [] → e.site.doubts ≡ o.site.doubts → P o → P e
  more o e r other is same p = record {
    come = one_more o.effects.records e.effects.records r other is p.come;
    stays = λ d h. ⊎_elim (λ here. inl (rw same here)) (λ (ends : IsForced o d.txn). inr (ends.0, rw is (has_left o.effects.records (r ∷ []) _ ends.1))) (p.stays d h);
  }

  ends_refresh : (r : Refreshing) (own : Stored) (o : Stepped) → P o → P (end_refresh catalogue r own o)
  unfolding end_refresh unlist
  ends_refresh r own o p = alike (judged catalogue r own o) _ refl refl (take-cases P catalogue r own o (more o _ (log_record.Copy r.rec (newest own r.answers)) refl refl refl p) p (alike o _ refl refl p))

  outcome : (from : ℕ) (txn : TxnId) (commit : Bool) (d : Doubt) → Comes given from (message.Outcome txn commit) → doubt_of txn x.doubts ≡ Some d → OutcomesCome x given (log_record.Outcome txn commit ∷ [])
  outcome from txn commit d c e t b h =
      let is : log_record.Outcome txn commit ≡ log_record.Outcome t b = has_one_is (log_record.Outcome txn commit) (log_record.Outcome t b) h in
      let named : txn ≡ t = cc in
      let so : commit ≡ b = cc in
      record {
        from = from;
        comes = c ∙ ap (λ (n : TxnId). input.Message from (message.Outcome n commit)) named ∙ ap (λ (b : Bool). input.Message from (message.Outcome t b)) so;
        doubt = d;
        there = find_has (λ (d : Doubt). same_txn d.txn txn) x.doubts d e;
        named = same_txn-is d.txn txn (find_true (λ (d : Doubt). same_txn d.txn txn) x.doubts d e) ∙ named;
      }

  other_stays : (txn : TxnId) (d : Doubt) → Has x.doubts d → same_txn d.txn txn ≡ false → Has (without_doubt txn x.doubts) d
  other_stays txn d h e = filter_keeps (λ (d : Doubt). not (same_txn d.txn txn)) x.doubts d h (ap not e)

  -- a doubt ends where it is this transaction's
  ended : (txn : TxnId) (commit : Bool) (d u : Doubt) → Has x.doubts u → Has (without_doubt txn x.doubts) u ⊎ ((b : Bool) × Has (log_record.Outcome txn commit ∷ []) (log_record.Outcome u.txn b))
  ended txn commit d u h = go (same_txn u.txn txn) refl
    where
      go : (b : Bool) → same_txn u.txn txn ≡ b → Has (without_doubt txn x.doubts) u ⊎ ((b : Bool) × Has (log_record.Outcome txn commit ∷ []) (log_record.Outcome u.txn b))
      go true e = inr (commit, subst (λ (n : TxnId). Has (log_record.Outcome txn commit ∷ []) (log_record.Outcome n commit)) (sym (same_txn-is u.txn txn e)) (has_one (log_record.Outcome txn commit)))
      go false e = inl (other_stays txn u h e)

  undoubted : (txn : TxnId) → doubt_of txn x.doubts ≡ None → (u : Doubt) → Has x.doubts u → Has (without_doubt txn x.doubts) u
  undoubted txn e u h = other_stays txn u h (find_none (λ (d : Doubt). same_txn d.txn txn) x.doubts e u h)

  ends_here : (from : ℕ) (txn : TxnId) (commit : Bool) (doubt : Option Doubt) → Comes given from (message.Outcome txn commit) → doubt_of txn x.doubts ≡ doubt → P (end_here from txn commit doubt (begin_step x))
  unfolding end_here
  ends_here from txn true None c e = record { come = λ t b h. absurd (has_none _ h); stays = λ u h. inl (undoubted txn e u h) }
  ends_here from txn false None c e = record { come = λ t b h. absurd (has_none _ h); stays = λ u h. inl (undoubted txn e u h) }
  ends_here from txn true (Some d) c e = record { come = outcome from txn true d c e; stays = λ u h. ended txn true d u h }
  ends_here from txn false (Some d) c e = record { come = outcome from txn false d c e; stays = λ u h. ended txn false d u h }

  ends : (t : Live) (why : Ending) (commit : Bool) (l now : Lent) → Ends x.id t why commit l now → K l → K now
  ends t why commit l now e p = alike (put_back (begin_step x) l) (put_back (begin_step x) now) e.records refl p

  keeps_writes : (t : Live) (l : Lent) → K l → K (keep_writes catalogue x.id t l)
  unfolding keep_writes
  keeps_writes t l p = more (put_back (begin_step x) l) (put_back (begin_step x) (keep_writes catalogue x.id t l)) (log_record.Commit t.txn t.view (writes_held catalogue x.id (last_changes (entry_of t))) (writing_parts catalogue t)) refl refl refl p

  starts : P (begin_step x)
  starts = none (begin_step x) refl refl

  table : Table catalogue x given P
  unfolding start_txn take_lock complete read_at write_at prepare_parts mark_calls grant on_stale on_accept hold fix drop_view start_inviting accept start_refresh ask_again resend_one inquire
  table = record {
    sends_back = λ from m t. none _ refl refl;
    asks_again = λ o ms all p. alike o _ refl refl p;
    drop_view = λ l e z p. alike (put_back (begin_step x) l) _ refl refl p;
    start_inviting = λ o s left p. more o _ (log_record.Promise (next_view x)) refl refl refl p;
    accept = λ from id o c e left p. more o _ (log_record.Promise id) refl refl refl p;
    accepted = λ from id c. none _ refl refl;
    seen = λ from id promise c. none _ refl refl;
    hold = λ from id members c e. none _ refl refl;
    heard = λ from view c e. none _ refl refl;
    fix = λ view c e. none _ refl refl;
    without_wait = λ id c i w. none _ refl refl;
    probe = λ view c e. none _ refl refl;
    start_refresh = λ view rec o e q p. alike o _ refl refl p;
    end_refresh = λ rec r own o e a d v p. ends_refresh r own o p;
    keep_answer = λ from view rec stored r c e f g. none _ refl refl;
    grant_read = λ from txn view number rec stored c e n v f u. none _ refl (with_part_doubts x.participant txn view);
    grant_write = λ from txn view number rec stored c e n v f u. none _ refl (with_part_doubts x.participant txn view);
    vote_reading = λ from txn view number reads writes part c e n d f v a w. none _ refl refl;
    vote_writing = λ from txn view number reads writes part c e n d f v a w. record {
      come = one_more [] _ (log_record.Yes part.txn part.view writes) refl refl (λ t b h. absurd (has_none _ h));
      stays = λ u h. inl (put_old (λ (a : Doubt) (b : Doubt). same_txn a.txn b.txn) (λ (a : Doubt) (b : Doubt). txn_before a.txn b.txn) (record { txn = part.txn; view = part.view; writes = writes }) x.doubts u h (no_such x.doubts txn part.txn u (same_txn-is part.txn txn (find_true (λ (p : Part). same_txn p.txn txn) x.parts part f)) d h));
    };
    end_here = λ from txn commit c. ends_here from txn commit (doubt_of txn x.doubts) c refl;
    coordinator = record {
      begin = λ port view e g u. none _ refl refl;
      answers = λ words port why y. none _ refl refl;
      take_lock = λ t rec exclusive stored q i a v c. none _ refl refl;
      complete = λ t p deed l q g y e h. alike (put_back (begin_step x) l) _ refl refl h;
      read_at = λ t p rec q l n r a w c o y. none _ refl refl;
      write_at = λ t p rec value l q n w a e o d y v h. alike (put_back (begin_step x) l) _ refl refl h;
      prepare_parts = λ t p q i g e. none _ refl refl;
      still_waits = λ t p from q e m f c. none _ refl refl;
      decide = λ t q d. decide-cases K catalogue x.id t (lent_at x) (λ e. ends t Committed true _ _ (decided-ends x.id t (lent_at x)) starts) (λ e. ends t Committed true _ _ (decided-ends x.id t _) (keeps_writes t (lent_at x) starts));
      close = λ t why l q a z y h. ends t why false l _ (close-ends x.id t why l) h;
      mark_calls = λ l c z h. alike (put_back (begin_step x) l) _ refl refl h;
      acknowledge = λ from txn c w. more (begin_step x) _ (log_record.Acked txn from) refl refl refl starts;
    };
    answers_inviting = λ port c s h. alike _ _ refl refl h;
    resend_one = λ d o c q h. alike o _ refl refl h;
  }

pub doubts-step : (catalogue : Catalogue) (x : SiteState) (given : Input) → DoubtsStay x (step catalogue x given)
doubts-step catalogue x given = (step-keeps catalogue x given (P catalogue x given) (table catalogue x given) (starts catalogue x given)).stays

pub outcomes-step : (catalogue : Catalogue) (x : SiteState) (given : Input) → OutcomesCome x given (step catalogue x given).effects.records
outcomes-step catalogue x given = (step-keeps catalogue x given (P catalogue x given) (table catalogue x given) (starts catalogue x given)).come
