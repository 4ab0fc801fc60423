-- Where the copies of a site come from in a step: the writes of a transaction in doubt become copies only by its commit, which the
-- step forces.
use Rattle.std.proofs.Common.{◌≡◌, ◌∙◌, ap, sym, subst, ℕ, Bool, true, false, List, [], ◌∷◌, refl, inl, inr}
use Rattle.std.specs.Prelude.{Option, Some, None, not, ◌&&◌}
use Rattle.std.specs.List.{Contains}
use Rattle.vp_model.specs.Types.{Change, TxnId, ViewId, View, Stored, LogRecord, Input, Refreshing, Doubt}
use Rattle.vp_model.specs.Types.log_record
use Rattle.vp_model.specs.Types.input
use Rattle.vp_model.specs.Types.message
use Rattle.vp_model.specs.Words.{same_txn, value_at, is_empty, has}
use Rattle.vp_model.specs.Catalogue.{Catalogue, holders}
use Rattle.vp_model.specs.Durable.{doubt_of}
use Rattle.vp_model.specs.Site.{SiteState, Stepped, begin_step}
use Rattle.vp_model.specs.Transactions.{last_changes}
use Rattle.vp_model.specs.Refresh.{unlist, end_refresh, settle_one, settle, settle_all, refreshing_of, unanswered, is_doubtful}
use Rattle.vp_model.specs.Messages.{doubted_records, end_here, end_part, on_outcome, on_message}
use Rattle.vp_model.specs.Step.{on_input, step}
use Rattle.vp_laws.specs.Decisions.{Forces, CopyComes}
use Rattle.vp_laws.proofs.Lists.Members.{Has, has_of, contains, has_one, has_left, filter_has}
use Rattle.vp_laws.proofs.Moves.LocalViews.{Tidy}
use Rattle.vp_laws.proofs.Moves.Table.{Comes}
use Rattle.vp_laws.proofs.Table.Outcomes.{find_none}
use Rattle.vp_laws.proofs.Table.Copies.{AnswerNow, CopyNow, OnceEach, copies-step}
use Rattle.vp_model.proofs.SameTxn.{same_txn-self}
use Rattle.vp_laws.proofs.Lists.Keeps.{by_some, by_test}
use Rattle.vp_laws.proofs.Moves.Frames.{take-cases}

-- what was forced stays while refreshes end
module _ (catalogue : Catalogue) (l : LogRecord) where
  abbrev P : Stepped → Type 0
  P o = Has o.effects.records l

  ends_refresh : (r : Refreshing) (own : Stored) (o : Stepped) → P o → P (end_refresh catalogue r own o)
  unfolding end_refresh unlist
  ends_refresh r own o h = take-cases P catalogue r own o (has_left o.effects.records _ l h) h h

  settles_one : (r : Refreshing) (o : Stepped) → P o → P (settle_one catalogue r o)
  unfolding settle_one
  settles_one r o h = by_test P (is_empty (unanswered catalogue o.site r) && not (is_doubtful o.site r.rec)) _ o (λ all. by_some P (value_at r.rec o.site.copies) (end_refresh catalogue r) o (λ own e. ends_refresh r own o h) h) (λ some. h)

  settles : (rec : ℕ) (o : Stepped) → P o → P (settle catalogue rec o)
  unfolding settle
  settles rec o h = by_some P (refreshing_of rec o.site.refresh) (settle_one catalogue) o (λ r e. settles_one r o h) h

  settles_all : (recs : List ℕ) (o : Stepped) → P o → P (settle_all catalogue recs o)
  settles_all [] o h = h
  settles_all (rec ∷ recs) o h = settles_all recs (settle catalogue rec o) (settles rec o h)

ended_forced : (x : SiteState) (from : ℕ) (txn : TxnId) (commit : Bool) (u : Doubt) → Has (end_here from txn commit (Some u) (begin_step x)).effects.records (log_record.Outcome txn commit)
unfolding end_here
ended_forced x from txn true u = has_one _
ended_forced x from txn false u = has_one _

-- the outcome of a transaction that a site is in doubt about is forced as it comes
outcome_forced : (catalogue : Catalogue) (x : SiteState) (from : ℕ) (txn : TxnId) (commit : Bool) (d : Doubt) → Has x.doubts d → d.txn ≡ txn → Has (step catalogue x (input.Message from (message.Outcome txn commit))).effects.records (log_record.Outcome txn commit)
unfolding step on_input on_message on_outcome end_part
outcome_forced catalogue x from txn commit d h named = go (doubt_of txn x.doubts) refl
  where
    go : (doubt : Option Doubt) → doubt_of txn x.doubts ≡ doubt → Has (end_part catalogue from txn commit doubt (begin_step x)).effects.records (log_record.Outcome txn commit)
    go None e = absurd (let z = find_none (λ (u : Doubt). same_txn u.txn txn) x.doubts e d h in let y : same_txn d.txn txn ≡ true = rw named (same_txn-self txn) in cc)
    go (Some u) e = settles_all catalogue (log_record.Outcome txn commit) (doubted_records (Some u)) _ (ended_forced x from txn commit u)

pub outcome_forces : (catalogue : Catalogue) (x : SiteState) (given : Input) (from : ℕ) (commit : Bool) (d : Doubt) → Comes given from (message.Outcome d.txn commit) → Has x.doubts d → Forces catalogue x given d.txn commit
outcome_forces catalogue x given from commit d comes h =
    contains _ _ (subst (λ (g : Input). Has (step catalogue x g).effects.records (log_record.Outcome d.txn commit)) (sym comes) (outcome_forced catalogue x from d.txn commit d h refl))

pub copies_come : (catalogue : Catalogue) (x : SiteState) (given : Input) → Tidy x → ((r : Refreshing) → Has x.refresh r → (v : View) × (x.held ≡ Some v)) → OnceEach x given → (copy : ℕ × Stored) → Contains (step catalogue x given).site.copies copy → CopyComes catalogue x given copy
copies_come catalogue x given tidy listed once copy there = go ((copies-step catalogue x given tidy listed once).copies copy (has_of _ copy there))
  where
    came : (from n : ℕ) (view : ViewId) (stored : Stored) (k : ℕ × Stored) → Comes given from (message.RefreshAnswer view n stored) → (from, stored) ≡ k → k.1 ≡ copy.1 → n ≡ copy.0 → given ≡ input.Message k.0 (message.RefreshAnswer view copy.0 copy.1)
    came from n view stored k c e is on =
        c ∙ ap (λ (f : ℕ). input.Message f (message.RefreshAnswer view n stored)) (ap (λ (k : ℕ × Stored). k.0) e)
        ∙ ap (λ (m : ℕ). input.Message k.0 (message.RefreshAnswer view m stored)) on
        ∙ ap (λ (s : Stored). input.Message k.0 (message.RefreshAnswer view copy.0 s)) (ap (λ (k : ℕ × Stored). k.1) e ∙ is)

    go : CopyNow catalogue x given (step catalogue x given).effects.commits copy → CopyComes catalogue x given copy
    go (CopyNow.still h) = CopyComes.kept (contains _ copy h)
    go (CopyNow.outcome from d w comes h wrote old was is) = CopyComes.doubted d w old (contains _ d h) (outcome_forces catalogue x given from true d comes h) (contains _ w wrote) (contains _ (w.0, old) was) (sym is)
    go (CopyNow.entered e w h wrote old was is) = CopyComes.entered e w old (contains _ e h) (contains _ w (filter_has (λ (w : ℕ × Change). has (holders catalogue w.0) x.id) (last_changes e) w wrote).0) (contains _ (w.0, old) was) (sym is)
    go (CopyNow.refreshed k (AnswerNow.was r h on kept) is) = CopyComes.refreshed r k.0 (contains _ r h) on (inl (contains _ _ (subst (λ (s : Stored). Has r.answers (k.0, s)) is kept)))
    go (CopyNow.refreshed k (AnswerNow.came from view r stored c e holds h on un) is) = CopyComes.refreshed r k.0 (contains _ r h) on (inr (view, came from copy.0 view stored k c e is refl))
