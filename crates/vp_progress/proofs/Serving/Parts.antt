-- Messages come to another site, where the transaction has a part: a request, a prepare and the outcome.
use Rattle.std.proofs.Common.{◌≡◌, ◌∙◌, ap, sym, subst, ℕ, Bool, true, false, cond, List, [], ◌∷◌, refl}
use Rattle.std.specs.Prelude.{Option, Some, None, ◌||◌, not}
use Rattle.vp_model.specs.Types.{Change, ViewId, TxnId, Stored, Message, Part, Doubt}
use Rattle.vp_model.specs.Types.input
use Rattle.vp_model.specs.Types.log_record
use Rattle.vp_model.specs.Types.message
use Rattle.vp_model.specs.Types.owner
use Rattle.vp_model.specs.Words.{same_txn, txn_before, has_txn, is_empty, for_some, value_at}
use Rattle.vp_model.specs.Catalogue.{Catalogue}
use Rattle.vp_model.specs.Durable.{doubt_of, put_doubt, without_doubt}
use Rattle.vp_model.specs.Locks.{conflict, without_owner}
use Rattle.vp_model.specs.Site.{SiteState, Stepped, begin_step, force, send, change_participant}
use Rattle.vp_model.specs.Refresh.{refreshing_of, settle, settle_all}
use Rattle.vp_model.specs.Views.{part_of, has_part, has_doubt}
use Rattle.vp_model.specs.Messages.{holds_view, with_part, grant, lock_copy, on_request, on_read_request, on_write_request, has_all_locks, with_vote, with_new_doubt, first_vote, vote, on_prepare, doubted_records, end_here, on_message}
use Rattle.vp_model.specs.Step.{on_input, step}
use Rattle.vp_model.proofs.SameTxn.{same_txn-is, same_txn-self}
use Rattle.vp_laws.proofs.Lists.Members.{Has, has_first, has_more, find_true, any_of, any_true}
use Rattle.vp_laws.proofs.Lists.Changes.{put_new}
use Rattle.vp_progress.proofs.Certain.{none_found, outcome_is, same_refresh}

-- ---- a request for a lock

module _ (catalogue : Catalogue) (x : SiteState) (from : ℕ) (txn : TxnId) (view : ViewId) (number rec : ℕ) (stored : Stored) (holds : holds_view x view ≡ true) (new : has_txn x.ended txn ≡ false) (copy : value_at rec x.copies ≡ Some stored) (unbarred : value_at rec x.bars ≡ None) where
  granted : (exclusive : Bool) (reply_with : Stored → Message) → conflict rec exclusive txn x.locks ≡ None → on_request txn view number rec exclusive reply_with from (begin_step x) ≡ grant txn view rec exclusive (reply_with stored) from (begin_step x)
  unfolding on_request lock_copy
  granted exclusive reply_with free = rw (holds, new, copy, unbarred, free) refl

  pub grants_read : conflict rec false txn x.locks ≡ None → step catalogue x (input.Message from (message.ReadRequest txn view number rec)) ≡ grant txn view rec false (message.ReadAnswer txn number stored.value) from (begin_step x)
  unfolding step on_input on_message on_read_request
  grants_read free = granted false (λ stored. message.ReadAnswer txn number stored.value) free

  pub grants_write : conflict rec true txn x.locks ≡ None → step catalogue x (input.Message from (message.WriteRequest txn view number rec)) ≡ grant txn view rec true (message.WriteAnswer txn number) from (begin_step x)
  unfolding step on_input on_message on_write_request
  grants_write free = granted true (λ stored. message.WriteAnswer txn number) free

-- it has a part here, or is in doubt here
abbrev pub Takes : TxnId → SiteState → Type 0
Takes txn x = (has_part txn x.parts || has_doubt txn x.doubts) ≡ true

pub either_left : (a b : Bool) → a ≡ true → (a || b) ≡ true
either_left a b e = rw e refl

pub either_right : (a b : Bool) → b ≡ true → (a || b) ≡ true
either_right true b e = refl
either_right false b e = e

pub takes_part : (txn : TxnId) (view : ViewId) (x : SiteState) → (has_part txn (with_part txn view x.participant).parts || has_doubt txn (with_part txn view x.participant).doubts) ≡ true
takes_part txn view x = go (has_part txn x.parts || has_doubt txn x.doubts) refl
  where
    go : (b : Bool) → (has_part txn x.parts || has_doubt txn x.doubts) ≡ b → (has_part txn (with_part txn view x.participant).parts || has_doubt txn (with_part txn view x.participant).doubts) ≡ true
    go true e = rw (e, e) refl
    go false e = rw e (either_left _ _ (any_of (λ (part : Part). same_txn part.txn txn) _ _ (put_new (λ (a : Part) (b : Part). same_txn a.txn b.txn) (λ (a : Part) (b : Part). txn_before a.txn b.txn) (record { txn = txn; view = view; voted = false }) x.parts) (same_txn-self txn)))

-- ---- a prepare

-- its vote is sent, and the site has what it had, with a vote or a doubt of the transaction for its part
pub data Votes (x : SiteState) (from : ℕ) (txn : TxnId) (writes : List (ℕ × Change)) : Stepped → Type 0 where
  again : Takes txn x → Votes x from txn writes (send (message.Vote txn) from (begin_step x))
  reading : (part : Part) → part.txn ≡ txn → Votes x from txn writes (send (message.Vote part.txn) from (change_participant (with_vote part) (begin_step x)))
  writing : (part : Part) → part.txn ≡ txn → Votes x from txn writes (send (message.Vote part.txn) from (force (log_record.Yes part.txn part.view writes) (change_participant (with_new_doubt part writes) (begin_step x))))

module _ (catalogue : Catalogue) (x : SiteState) (from : ℕ) (txn : TxnId) (view : ViewId) (number : ℕ) (reads : List ℕ) (writes : List (ℕ × Change)) (holds : holds_view x view ≡ true) (new : has_txn x.ended txn ≡ false) (takes : Takes txn x) (locked : has_all_locks x.locks txn reads writes ≡ true) where
  abbrev Voting : Stepped → Type 0
  Voting o = Votes x from txn writes o

  named : (part : Part) → part_of txn x.parts ≡ Some part → part.txn ≡ txn
  named part e = same_txn-is part.txn txn (find_true (λ (part : Part). same_txn part.txn txn) x.parts part e)

  first_votes : (part : Part) → part.txn ≡ txn → Voting (first_vote part reads writes from (begin_step x))
  unfolding first_vote
  first_votes part e = rw (subst (λ (t : TxnId). has_all_locks x.locks t reads writes ≡ true) (sym e) locked) (go (is_empty writes))
    where
      go : (b : Bool) → Voting (cond b (send (message.Vote part.txn) from (change_participant (with_vote part) (begin_step x))) (send (message.Vote part.txn) from (force (log_record.Yes part.txn part.view writes) (change_participant (with_new_doubt part writes) (begin_step x)))))
      go true = Votes.reading part e
      go false = Votes.writing part e

  votes_by : (part : Part) → part.txn ≡ txn → Voting (vote reads writes from part (begin_step x))
  votes_by part e = go part.voted
    where
      go : (b : Bool) → Voting (cond b (send (message.Vote part.txn) from (begin_step x)) (first_vote part reads writes from (begin_step x)))
      go true = subst (λ (t : TxnId). Voting (send (message.Vote t) from (begin_step x))) (sym e) (Votes.again takes)
      go false = first_votes part e

  none_there : part_of txn x.parts ≡ None → has_part txn x.parts ≡ true → ⊥
  none_there e h = let a = any_true (λ (part : Part). same_txn part.txn txn) x.parts h in none_found (λ (part : Part). same_txn part.txn txn) x.parts e a.0 a.1 a.2

  prepared : Voting (on_prepare from txn view number reads writes (begin_step x))
  unfolding on_prepare
  prepared = rw (holds, new) (go (has_doubt txn x.doubts) refl (part_of txn x.parts) refl)
    where
      only : (a b : Bool) → (a || b) ≡ true → b ≡ false → a ≡ true
      only true b h e = refl
      only false b h e = let z = sym h ∙ e in cc

      go : (b : Bool) → has_doubt txn x.doubts ≡ b → (o : Option Part) → part_of txn x.parts ≡ o → Voting (cond b (send (message.Vote txn) from (begin_step x)) (for_some o (vote reads writes from) (begin_step x)))
      go true d o e = Votes.again takes
      go false d (Some part) e = votes_by part (named part e)
      go false d None e = absurd (none_there e (only (has_part txn x.parts) (has_doubt txn x.doubts) takes d))

  pub votes : Voting (step catalogue x (input.Message from (message.Prepare txn view number reads writes)))
  unfolding step on_input on_message
  votes = prepared

pub takes_vote : (x : SiteState) (txn : TxnId) (part : Part) → part.txn ≡ txn → has_part txn (with_vote part x.participant).parts ≡ true
takes_vote x txn part e = any_of (λ (p : Part). same_txn p.txn txn) _ (record part { voted = true }) (put_new (λ (a : Part) (b : Part). same_txn a.txn b.txn) (λ (a : Part) (b : Part). txn_before a.txn b.txn) (record part { voted = true }) x.parts) (rw e (same_txn-self txn))

pub takes_doubt : (x : SiteState) (txn : TxnId) (part : Part) (writes : List (ℕ × Change)) → part.txn ≡ txn → has_doubt txn (with_new_doubt part writes x.participant).doubts ≡ true
takes_doubt x txn part writes e = any_of (λ (d : Doubt). same_txn d.txn txn) _ (record { txn = part.txn; view = part.view; writes = writes }) (put_new (λ (a : Doubt) (b : Doubt). same_txn a.txn b.txn) (λ (a : Doubt) (b : Doubt). txn_before a.txn b.txn) (record { txn = part.txn; view = part.view; writes = writes }) x.doubts) (rw e (same_txn-self txn))

-- the other doubts are those that were there
pub doubt_put : (d : Doubt) (txn : TxnId) (ds : List Doubt) → d.txn ≡ txn → without_doubt txn (put_doubt d ds) ≡ without_doubt txn ds
doubt_put d txn [] e = let s = same_txn-self txn in rw (e, s) refl
doubt_put d txn (c ∷ ds) e = go (same_txn d.txn c.txn) refl (txn_before d.txn c.txn) (doubt_put d txn ds e)
  where
    mine : same_txn d.txn txn ≡ true
    mine = rw e (same_txn-self txn)

    dropped : (rest : List Doubt) → without_doubt txn (d ∷ rest) ≡ without_doubt txn rest
    dropped rest = rw mine refl

    go : (s : Bool) → same_txn d.txn c.txn ≡ s → (b : Bool) → without_doubt txn (put_doubt d ds) ≡ without_doubt txn ds → without_doubt txn (cond s (d ∷ ds) (cond b (d ∷ c ∷ ds) (c ∷ put_doubt d ds))) ≡ without_doubt txn (c ∷ ds)
    go true q b rest = let t : same_txn c.txn txn ≡ true = subst (λ (u : TxnId). same_txn u txn ≡ true) (same_txn-is d.txn c.txn q) mine in dropped ds ∙ rw t refl
    go false q true rest = dropped (c ∷ ds)
    go false q false rest = kept (same_txn c.txn txn)
      where
        kept : (s : Bool) → cond (not s) (c ∷ without_doubt txn (put_doubt d ds)) (without_doubt txn (put_doubt d ds)) ≡ cond (not s) (c ∷ without_doubt txn ds) (without_doubt txn ds)
        kept s = rw rest refl

-- ---- the outcome

settles_none : (catalogue : Catalogue) (recs : List ℕ) (o : Stepped) → ((rec : ℕ) → Has recs rec → refreshing_of rec o.site.refresh ≡ None) → settle_all catalogue recs o ≡ o
unfolding settle
settles_none catalogue [] o none = refl
settles_none catalogue (rec ∷ recs) o none = rw (none rec (has_first rec recs)) (settles_none catalogue recs o (λ k h. none k (has_more rec recs k h)))

-- where nothing that the transaction wrote is under refresh, only its part, its doubt and its locks go
pub outcome_ends : (catalogue : Catalogue) (x : SiteState) (from : ℕ) (txn : TxnId) (commit : Bool) → ((rec : ℕ) → Has (doubted_records (doubt_of txn x.doubts)) rec → refreshing_of rec x.refresh ≡ None) → step catalogue x (input.Message from (message.Outcome txn commit)) ≡ end_here from txn commit (doubt_of txn x.doubts) (begin_step x)
outcome_ends catalogue x from txn commit none =
    let d = doubt_of txn x.doubts in
    outcome_is catalogue x from txn commit ∙ settles_none catalogue (doubted_records d) (end_here from txn commit d (begin_step x)) (λ rec h. ap (refreshing_of rec) (same_refresh x from txn commit d) ∙ none rec h)

pub ended_locks : (x : SiteState) (from : ℕ) (txn : TxnId) (commit : Bool) (d : Option Doubt) → (end_here from txn commit d (begin_step x)).site.locks ≡ without_owner (owner.Txn txn) x.locks
unfolding end_here
ended_locks x from txn true None = refl
ended_locks x from txn false None = refl
ended_locks x from txn true (Some d) = refl
ended_locks x from txn false (Some d) = refl

pub ended_bars : (x : SiteState) (from : ℕ) (txn : TxnId) (commit : Bool) (d : Option Doubt) → (end_here from txn commit d (begin_step x)).site.bars ≡ x.bars
unfolding end_here
ended_bars x from txn true None = refl
ended_bars x from txn false None = refl
ended_bars x from txn true (Some d) = refl
ended_bars x from txn false (Some d) = refl
