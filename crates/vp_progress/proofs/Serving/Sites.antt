-- Worlds in which one transaction goes on: its site leads it, the other sites of the view lend it locks, and all else rests.
use Rattle.std.proofs.Common.{◌≡◌, ◌≢◌, ◌⊎◌, ◌∙◌, ap, sym, subst, ℕ, Bool, true, false, List, [], ◌∷◌, refl, ⊎_elim, inl}
use Rattle.std.specs.Prelude.{Option, Some, None, ◌==◌, ◌&&◌, ◌||◌, not, filter}
use Rattle.std.proofs.lemmas.Bool.{eqb-true}
use Rattle.vp_model.specs.Types.{Change, ViewId, TxnId, View, Owner, Message, Lock, Part, Refreshing, Live, Doubt, Decision}
use Rattle.vp_model.specs.Types.message
use Rattle.vp_model.specs.Types.owner
use Rattle.vp_model.specs.Words.{has_txn, same_txn, same_owner, txn_before, keys}
use Rattle.vp_model.specs.Durable.{doubt_of, without_doubt}
use Rattle.vp_model.specs.Locks.{conflicting, least_owner, conflict, with_lock, without_owner}
use Rattle.vp_model.specs.Site.{Bars, ViewState, ParticipantState, CoordinatorState, SiteState, Lent, Stepped, begin_step, put_back}
use Rattle.vp_model.specs.Refresh.{refreshing_of}
use Rattle.vp_model.specs.Messages.{grant, doubted_records, end_here}
use Rattle.vp_laws.proofs.Lists.Members.{Has, has_none, has_one, filter_has, find_has, find_true, not_true}
use Rattle.vp_laws.proofs.Lists.Changes.{put_has}
use Rattle.vp_laws.proofs.Lists.LockTables.{lock_origin, same_owner-self}
use Rattle.vp_laws.proofs.Moves.LocalViews.{letter}
use Rattle.vp_laws.proofs.Moves.Parts.{with_part_has, with_part_doubts, with_part_ended}
use Rattle.vp_laws.proofs.Moves.Table.{lent_at}
use Rattle.vp_laws.proofs.Table.Waits.{IsWaited}
use Rattle.vp_model.proofs.SameTxn.{same_txn-is, same_txn-clash}
use Rattle.vp_progress.proofs.Held.{empty_from}
use Rattle.vp_progress.proofs.Certain.{ended_front, same_refresh}
use Rattle.vp_progress.proofs.Decided.{WaitLess}
use Rattle.vp_progress.proofs.Serving.Parts.{Takes, Votes, either_left, either_right, takes_part, takes_vote, takes_doubt, doubt_put, ended_locks, ended_bars}

-- what a site keeps while the transaction goes on: at most these locks of others and what these decisions wait for, and just these copies under
-- refresh, doubts and bars
pub record Rest : Type 0 where
  pub locks : List Lock
  pub refresh : List Refreshing
  pub doubts : List Doubt
  pub decisions : List Decision
  pub bars : Bars

-- nothing goes on at the site
pub record IsResting (v : View) (r : Rest) (x : SiteState) : Type 0 where
  pub held : x.held ≡ Some v
  pub live : x.live ≡ []
  pub parts : x.parts ≡ []
  pub refresh : x.refresh ≡ r.refresh
  pub doubts : x.doubts ≡ r.doubts
  pub decisions : WaitLess x.decisions r.decisions
  pub bars : x.bars ≡ r.bars
  pub locks : (l : Lock) → Has x.locks l → Has r.locks l

-- the locks of the transaction, and those that rest
abbrev pub OrRests : Rest → TxnId → List Lock → Type 0
OrRests r txn locks = (l : Lock) → Has locks l → (l.owner ≡ owner.Txn txn) ⊎ Has r.locks l

-- only the transaction goes on at another site: its locks, its part and its doubt. It has not ended there
pub record Lends (v : View) (r : Rest) (txn : TxnId) (x : SiteState) : Type 0 where
  pub held : x.held ≡ Some v
  pub live : x.live ≡ []
  pub refresh : x.refresh ≡ r.refresh
  pub doubts : without_doubt txn x.doubts ≡ r.doubts
  pub decisions : WaitLess x.decisions r.decisions
  pub bars : x.bars ≡ r.bars
  pub parts : (p : Part) → Has x.parts p → p.txn ≡ txn
  pub locks : OrRests r txn x.locks
  pub new : has_txn x.ended txn ≡ false
  -- what it writes here is not under refresh
  pub settled : (d : Doubt) (rec : ℕ) → Has x.doubts d → d.txn ≡ txn → Has (keys d.writes) rec → refreshing_of rec r.refresh ≡ None

-- only the transaction goes on at its own site
pub record Leads (v : View) (r : Rest) (t : Live) (x : SiteState) : Type 0 where
  pub held : x.held ≡ Some v
  pub live : x.live ≡ t ∷ []
  pub parts : x.parts ≡ []
  pub refresh : x.refresh ≡ r.refresh
  pub doubts : x.doubts ≡ r.doubts
  pub decisions : WaitLess x.decisions r.decisions
  pub bars : x.bars ≡ r.bars
  pub locks : OrRests r t.txn x.locks

-- the coordinator's part after a row that leads it on
pub record LeadsOn (r : Rest) (t : Live) (l : Lent) : Type 0 where
  pub live : l.live ≡ t ∷ []
  pub locks : OrRests r t.txn l.locks
  pub decisions : WaitLess l.decisions r.decisions
  pub bars : l.bars ≡ r.bars
  pub commits : l.effects.commits ≡ []

pub leads_on : (v : View) (r : Rest) (t now : Live) (x : SiteState) (l : Lent) → Leads v r t x → LeadsOn r now l → Leads v r now (put_back (begin_step x) l).site
leads_on v r t now x l h n = record { held = h.held; live = n.live; parts = h.parts; refresh = h.refresh; doubts = h.doubts; decisions = n.decisions; bars = n.bars; locks = n.locks }

pub leads_first : (v : View) (r : Rest) (t : Live) (x : SiteState) → Leads v r t x → LeadsOn r t (lent_at x)
leads_first v r t x h = record { live = h.live; locks = h.locks; decisions = h.decisions; bars = h.bars; commits = refl }

-- ---- a record on which no other lock rests

pub not_forbidden : (rec : ℕ) (exclusive : Bool) (txn : TxnId) (locks : List Lock) → ((l : Lock) → Has locks l → l.rec ≡ rec → l.owner ≡ owner.Txn txn) → conflict rec exclusive txn locks ≡ None
not_forbidden rec exclusive txn locks mine = ap least_owner (empty_from (conflicting rec exclusive (owner.Txn txn) locks) (λ l h. clash l (filter_has (λ (lock : Lock). (lock.rec == rec) && (exclusive || lock.exclusive) && not (same_owner lock.owner (owner.Txn txn))) locks l h)))
  where
    parts_of : (a b c : Bool) → (a && b && not c) ≡ true → (a ≡ true) × (c ≡ false)
    parts_of true true false e = (refl, refl)
    parts_of true true true e = cc
    parts_of true false c e = cc
    parts_of false b c e = cc

    clash : (l : Lock) → Has locks l × (((l.rec == rec) && (exclusive || l.exclusive) && not (same_owner l.owner (owner.Txn txn))) ≡ true) → ⊥
    clash l h =
        let a = parts_of (l.rec == rec) (exclusive || l.exclusive) (same_owner l.owner (owner.Txn txn)) h.1 in
        let on : l.rec ≡ rec = eqb-true l.rec rec a.0 in
        let same : same_owner l.owner (owner.Txn txn) ≡ true = subst (λ (o : Owner). same_owner o (owner.Txn txn) ≡ true) (sym (mine l h.0 on)) (same_owner-self (owner.Txn txn)) in
        let z = sym same ∙ a.1 in cc

pub rests_free : (r : Rest) (rec : ℕ) (exclusive : Bool) (txn : TxnId) (locks : List Lock) → OrRests r txn locks → ((l : Lock) → Has r.locks l → l.rec ≢ rec) → conflict rec exclusive txn locks ≡ None
rests_free r rec exclusive txn locks h free = not_forbidden rec exclusive txn locks (λ l there on. ⊎_elim (λ mine. mine) (λ rests. absurd (free l rests on)) (h l there))

pub takes_lock : (r : Rest) (rec : ℕ) (exclusive : Bool) (txn : TxnId) (locks : List Lock) → OrRests r txn locks → OrRests r txn (with_lock rec exclusive (owner.Txn txn) locks)
takes_lock r rec exclusive txn locks h l there = ⊎_elim (λ old. h l old) (λ new. inl new.1) (lock_origin rec exclusive (owner.Txn txn) locks l there)

-- its own locks go
pub gives_back : (r : Rest) (txn : TxnId) (locks : List Lock) → OrRests r txn locks → (l : Lock) → Has (without_owner (owner.Txn txn) locks) l → Has r.locks l
gives_back r txn locks h l there =
    let f = filter_has (λ (lock : Lock). not (same_owner lock.owner (owner.Txn txn))) locks l there in
    ⊎_elim
    (λ (mine : l.owner ≡ owner.Txn txn). absurd (let same = subst (λ (o : Owner). same_owner o (owner.Txn txn) ≡ true) (sym mine) (same_owner-self (owner.Txn txn)) in let z = sym same ∙ not_true _ f.1 in cc))
    (λ rests. rests)
    (h l f.0)

-- ---- another site grants a lock, votes, and is told the outcome

module _ (v : View) (r : Rest) (txn : TxnId) (x : SiteState) (h : Lends v r txn x) where
  -- the site answers, and lends the transaction what it lent and more
  pub record Gives (from : ℕ) (answer : Message) (o : Stepped) : Type 0 where
    pub lends : Lends v r txn o.site
    pub takes : Takes txn o.site
    pub says : Has o.effects.messages (letter x.id from answer)
    pub commits : o.effects.commits ≡ []

  pub grants_on : (view : ViewId) (rec : ℕ) (exclusive : Bool) (answer : Message) (from : ℕ) → Gives from answer (grant txn view rec exclusive answer from (begin_step x))
  unfolding grant
  grants_on view rec exclusive answer from = record {
    lends = record {
      held = h.held;
      live = h.live;
      refresh = h.refresh;
      decisions = h.decisions;
      bars = h.bars;
      doubts = ap (without_doubt txn) (with_part_doubts x.participant txn view) ∙ h.doubts;
      parts = λ p there. ⊎_elim (λ (new : p ≡ record { txn = txn; view = view; voted = false }). ap (λ (p : Part). p.txn) new) (λ old. h.parts p old) (with_part_has x.participant txn view p there);
      locks = takes_lock r rec exclusive txn x.locks h.locks;
      new = ap (λ (ts : List TxnId). has_txn ts txn) (with_part_ended x.participant txn view) ∙ h.new;
      settled = λ d k there. h.settled d k (subst (λ (ds : List Doubt). Has ds d) (with_part_doubts x.participant txn view) there);
    };
    takes = takes_part txn view x;
    says = has_one _;
    commits = refl;
  }

  pub votes_on : (from : ℕ) (writes : List (ℕ × Change)) (o : Stepped) → ((rec : ℕ) → Has (keys writes) rec → refreshing_of rec r.refresh ≡ None) → Votes x from txn writes o → Gives from (message.Vote txn) o
  votes_on from writes _ quiet (Votes.again takes) = record { lends = h; takes = takes; says = has_one _; commits = refl }
  votes_on from writes _ quiet (Votes.reading part e) = record {
    lends = record {
      held = h.held;
      live = h.live;
      refresh = h.refresh;
      decisions = h.decisions;
      bars = h.bars;
      doubts = h.doubts;
      parts = λ p there. ⊎_elim (λ (new : p ≡ record part { voted = true }). ap (λ (p : Part). p.txn) new ∙ e) (λ old. h.parts p old) (put_has (λ (a : Part) (b : Part). same_txn a.txn b.txn) (λ (a : Part) (b : Part). txn_before a.txn b.txn) (record part { voted = true }) x.parts p there);
      locks = h.locks;
      new = h.new;
      settled = h.settled;
    };
    takes = either_left _ _ (takes_vote x txn part e);
    says = subst (λ (t : TxnId). Has (letter x.id from (message.Vote part.txn) ∷ []) (letter x.id from (message.Vote t))) e (has_one _);
    commits = refl;
  }
  votes_on from writes _ quiet (Votes.writing part e) = record {
    lends = record {
      held = h.held;
      live = h.live;
      refresh = h.refresh;
      decisions = h.decisions;
      bars = h.bars;
      doubts = doubt_put (record { txn = part.txn; view = part.view; writes = writes }) txn x.doubts e ∙ h.doubts;
      parts = λ p there. h.parts p (filter_has (λ (other : Part). not (same_txn other.txn part.txn)) x.parts p there).0;
      locks = h.locks;
      new = h.new;
      settled = λ d rec there named wrote. ⊎_elim
          (λ (new : d ≡ record { txn = part.txn; view = part.view; writes = writes }). quiet rec (subst (λ (d : Doubt). Has (keys d.writes) rec) new wrote))
          (λ old. h.settled d rec old named wrote)
          (put_has (λ (a : Doubt) (b : Doubt). same_txn a.txn b.txn) (λ (a : Doubt) (b : Doubt). txn_before a.txn b.txn) (record { txn = part.txn; view = part.view; writes = writes }) x.doubts d there);
    };
    takes = either_right _ _ (takes_doubt x txn part writes e);
    says = subst (λ (t : TxnId). Has (letter x.id from (message.Vote part.txn) ∷ []) (letter x.id from (message.Vote t))) e (has_one _);
    commits = refl;
  }

  -- what its doubt wrote is not under refresh
  pub doubt_settled : (rec : ℕ) → Has (doubted_records (doubt_of txn x.doubts)) rec → refreshing_of rec x.refresh ≡ None
  doubt_settled rec there = go (doubt_of txn x.doubts) refl there
    where
      go : (o : Option Doubt) → doubt_of txn x.doubts ≡ o → Has (doubted_records o) rec → refreshing_of rec x.refresh ≡ None
      go None e k = absurd (has_none rec k)
      go (Some d) e k = ap (refreshing_of rec) h.refresh ∙ h.settled d rec (find_has (λ (d : Doubt). same_txn d.txn txn) x.doubts d e) (same_txn-is d.txn txn (find_true (λ (d : Doubt). same_txn d.txn txn) x.doubts d e)) k

  no_part_left : (all : (p : Part) → Has x.parts p → p.txn ≡ txn) → filter (λ (part : Part). not (same_txn part.txn txn)) x.parts ≡ []
  no_part_left all = empty_from _ (λ p there. let f = filter_has (λ (part : Part). not (same_txn part.txn txn)) x.parts p there in let same = all p f.0 in let z = same_txn-clash p.txn txn f.1 in z same)

  pub ends_resting : (from : ℕ) (commit : Bool) (d : Option Doubt) → IsResting v r (end_here from txn commit d (begin_step x)).site
  ends_resting from commit d =
      let f = ended_front x from txn commit d in
      record {
        held = ap (λ (z : ViewState × ParticipantState × CoordinatorState). z.0.held) f ∙ h.held;
        live = ap (λ (z : ViewState × ParticipantState × CoordinatorState). z.2.live) f ∙ h.live;
        parts = ap (λ (z : ViewState × ParticipantState × CoordinatorState). z.1.parts) f ∙ no_part_left h.parts;
        refresh = same_refresh x from txn commit d ∙ h.refresh;
        decisions = λ u p w. h.decisions u p (subst (λ (ds : List Decision). IsWaited ds u p) (ap (λ (z : ViewState × ParticipantState × CoordinatorState). z.2.decisions) f) w);
        bars = ended_bars x from txn commit d ∙ h.bars;
        doubts = ap (λ (z : ViewState × ParticipantState × CoordinatorState). z.1.doubts) f ∙ h.doubts;
        locks = λ l there. gives_back r txn x.locks h.locks l (subst (λ (ls : List Lock). Has ls l) (ended_locks x from txn commit d) there);
      }
