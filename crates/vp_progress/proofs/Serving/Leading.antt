-- What the rows of calls and answers leave of the coordinator's part, and whom they ask.
use Rattle.std.proofs.Common.{◌≡◌, ◌⊎◌, ◌∙◌, ap, sym, subst, ℕ, Bool, true, false, List, [], ◌∷◌, ◌++◌, refl, inl, inr, ⊎_elim}
use Rattle.std.specs.Prelude.{not}
use Rattle.vp_model.specs.Types.{TxnId, ViewId, Commit, Lock, Pending, Live, Decision}
use Rattle.vp_model.specs.Types.message
use Rattle.vp_model.specs.Words.{same_txn, change_first, without_first, is_empty}
use Rattle.vp_model.specs.Catalogue.{Catalogue}
use Rattle.vp_model.specs.Site.{CoordinatorState, Here, Lent}
use Rattle.vp_model.specs.Durable.{with_decision}
use Rattle.vp_model.specs.Transactions.{Deed, last_changes, entry_of, writes_held, writing_parts, keep_writes, decided, decide, complete, wait_for}
use Rattle.vp_model.specs.Calls.{begun, start_txn, take_lock, read_at, write_at, prepare_parts, prepare_for}
use Rattle.vp_model.proofs.SameTxn.{same_txn-self}
use Rattle.vp_laws.proofs.Lists.Members.{Has, has_one, has_right, filter_has}
use Rattle.vp_laws.proofs.Lists.Changes.{mapped_has}
use Rattle.vp_laws.proofs.Moves.LocalViews.{letter}
use Rattle.vp_laws.proofs.Moves.Frames.{decided-ends, decided-commits, decide-cases}
use Rattle.vp_laws.proofs.Moves.Calls.{waiting, done, reading, writing}
use Rattle.vp_laws.proofs.Table.Waits.{IsWaited}
use Rattle.vp_progress.proofs.Decided.{WaitLess, decision_from}
use Rattle.vp_progress.proofs.Serving.Sites.{Rest, OrRests, LeadsOn, takes_lock, gives_back}

changed : (t now : Live) (live : List Live) → live ≡ t ∷ [] → now.txn ≡ t.txn → change_first (λ (u : Live). same_txn u.txn now.txn) (λ u. now) live ≡ now ∷ []
changed t now live e n = let self = same_txn-self t.txn in rw (e, n, self) refl

module _ (r : Rest) (t : Live) (l : Lent) (h : LeadsOn r t l) where
  pub completes : (p : Pending) (deed : Deed) → LeadsOn r (done t p deed) (complete t p deed l)
  unfolding complete
  completes p deed = record { live = changed t (done t p deed) l.live h.live refl; locks = h.locks; decisions = h.decisions; bars = h.bars; commits = h.commits }

  pub waits : (p : Pending) (sites : List ℕ) → LeadsOn r (waiting t p sites) (wait_for t p sites l)
  waits p sites = record { live = changed t (waiting t p sites) l.live h.live refl; locks = h.locks; decisions = h.decisions; bars = h.bars; commits = h.commits }

  pub locks_on : (rec : ℕ) (exclusive : Bool) → LeadsOn r t (take_lock t.txn rec exclusive l)
  unfolding take_lock
  locks_on rec exclusive = record { live = h.live; locks = takes_lock r rec exclusive t.txn l.locks h.locks; decisions = h.decisions; bars = h.bars; commits = h.commits }

  pub asks_read : (id : ℕ) (p : Pending) (rec k : ℕ) → LeadsOn r (reading t p rec k) (read_at id t p rec k l) × Has (read_at id t p rec k l).effects.messages (letter id k (message.ReadRequest t.txn t.view p.number rec))
  unfolding read_at
  asks_read id p rec k = (record { live = changed t (reading t p rec k) l.live h.live refl; locks = h.locks; decisions = h.decisions; bars = h.bars; commits = h.commits }, has_right l.effects.messages _ _ (has_one _))

  pub asks_writes : (id : ℕ) (p : Pending) (rec : ℕ) (sites : List ℕ) → LeadsOn r (writing t p sites) (write_at id t p rec sites l) × ((k : ℕ) → Has sites k → Has (write_at id t p rec sites l).effects.messages (letter id k (message.WriteRequest t.txn t.view p.number rec)))
  unfolding write_at
  asks_writes id p rec sites = (record { live = changed t (writing t p sites) l.live h.live refl; locks = h.locks; decisions = h.decisions; bars = h.bars; commits = h.commits }, (λ k there. has_right l.effects.messages _ _ (mapped_has (λ (q : ℕ). letter id q (message.WriteRequest t.txn t.view p.number rec)) sites k there)))

  pub asks_votes : (catalogue : Catalogue) (id : ℕ) (p : Pending) → LeadsOn r (waiting t p t.parts) (prepare_parts catalogue id t p l) × ((k : ℕ) → Has t.parts k → Has (prepare_parts catalogue id t p l).effects.messages (letter id k (prepare_for catalogue t p k)))
  unfolding prepare_parts
  asks_votes catalogue id p = (record { live = changed t (waiting t p t.parts) l.live h.live refl; locks = h.locks; decisions = h.decisions; bars = h.bars; commits = h.commits }, (λ k there. has_right l.effects.messages _ _ (mapped_has (λ (q : ℕ). letter id q (prepare_for catalogue t p q)) t.parts k there)))

-- the transaction begins
pub leads_begun : (r : Rest) (txn : TxnId) (port : ℕ) (view : ViewId) (l : Lent) → l.live ≡ [] → ((a : Lock) → Has l.locks a → Has r.locks a) → WaitLess l.decisions r.decisions → l.bars ≡ r.bars → l.effects.commits ≡ [] → LeadsOn r (begun txn view) (start_txn txn port view l)
unfolding start_txn
leads_begun r txn port view l live locks waits bars commits = record { live = ap (λ (ts : List Live). ts ++ begun txn view ∷ []) live; locks = λ a h. inr (locks a h); decisions = waits; bars = bars; commits = commits }

-- decisions wait for no more, but for the transaction's parts
abbrev pub OrParts : Rest → Live → List Decision → Type 0
OrParts r t ds = (txn : TxnId) (k : ℕ) → IsWaited ds txn k → IsWaited r.decisions txn k ⊎ ((txn ≡ t.txn) × Has t.parts k)

-- the transaction commits: nothing of it is left at its site but a decision that waits for its parts, and these are told
pub record Decided (r : Rest) (id : ℕ) (t : Live) (l : Lent) : Type 0 where
  pub live : l.live ≡ []
  pub locks : (a : Lock) → Has l.locks a → Has r.locks a
  pub decisions : OrParts r t l.decisions
  pub bars : l.bars ≡ r.bars
  pub commits : l.effects.commits ≡ entry_of t ∷ []
  pub tells : (k : ℕ) → Has t.parts k → Has l.effects.messages (letter id k (message.Outcome t.txn true))

pub decides : (r : Rest) (catalogue : Catalogue) (id : ℕ) (was t : Live) (l : Lent) → was.txn ≡ t.txn → LeadsOn r was l → Decided r id t (decide catalogue id t l)
unfolding keep_writes
decides r catalogue id was t l named h = decide-cases (Decided r id t) catalogue id t l
    (λ e. ends l h.live h.locks (λ u k w. inl (h.decisions u k w)) h.bars h.commits)
    (λ e. ends (keep_writes catalogue id t l) h.live h.locks kept h.bars h.commits)
  where
    ended : (live : List Live) → live ≡ was ∷ [] → without_first (λ (u : Live). same_txn u.txn t.txn) live ≡ []
    ended live e = let self = same_txn-self t.txn in rw (e, named, self) refl

    kept : OrParts r t (with_decision t.txn (writing_parts catalogue t) l.decisions)
    kept u k w = ⊎_elim
        (λ (new : (is_empty (writing_parts catalogue t) ≡ false) × (w.0 ≡ record { txn = t.txn; waiting = writing_parts catalogue t })).
        let part = filter_has (λ (q : ℕ). not (is_empty (writes_held catalogue q (last_changes (entry_of t))))) t.parts k (subst (λ (d : Decision). Has d.waiting k) new.1 w.3) in
        inr (sym w.2 ∙ ap (λ (d : Decision). d.txn) new.1, part.0))
        (λ (old : Has l.decisions w.0). inl (h.decisions u k (w.0, old, w.2, w.3)))
        (decision_from t.txn (writing_parts catalogue t) l.decisions w.0 w.1)

    ends : (k : Lent) → k.live ≡ was ∷ [] → OrRests r was.txn k.locks → OrParts r t k.decisions → k.bars ≡ r.bars → k.effects.commits ≡ [] → Decided r id t (decided id t k)
    ends k live locks waits bars commits =
        let e = decided-ends id t k in
        record {
          live = ap (λ (c : CoordinatorState). c.live) e.coordinator ∙ ended k.live live;
          locks = λ a there. gives_back r t.txn k.locks (subst (λ (u : TxnId). OrRests r u k.locks) named locks) a (rw (ap (λ (h : Here). h.locks) e.here) at there);
          decisions = subst (λ (c : CoordinatorState). OrParts r t c.decisions) (sym e.coordinator) waits;
          bars = ap (λ (h : Here). h.bars) e.here ∙ bars;
          commits = decided-commits id t k ∙ ap (λ (cs : List Commit). cs ++ entry_of t ∷ []) commits;
          tells = λ q there. rw e.messages (has_right k.effects.messages _ _ (mapped_has (λ (q : ℕ). letter id q (message.Outcome t.txn true)) t.parts q there));
        }
