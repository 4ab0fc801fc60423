-- For whom the decisions wait after a step: as before, except a site that acknowledges, and for the parts that write in what is
-- entered.
use Rattle.std.proofs.Common.{◌≡◌, ◌≢◌, ◌⊎◌, ◌∙◌, ap, sym, ℕ, Bool, true, false, cond, List, [], ◌∷◌, ◌++◌, map, refl, inl, inr, ⊎_elim}
use Rattle.std.specs.Prelude.{filter, not, ◌==◌}
use Rattle.vp_model.specs.Types.{TxnId, Sent, Commit, Input, Live, Ending, Decision}
use Rattle.vp_base.specs.declared.site.Ending.TheVariants.{Committed}
use Rattle.vp_model.specs.Types.message
use Rattle.vp_model.specs.Words.{same_txn, txn_before, is_empty}
use Rattle.vp_model.specs.Catalogue.{Catalogue}
use Rattle.vp_model.specs.Durable.{put_decision, with_decision, acknowledged}
use Rattle.vp_model.specs.Site.{CoordinatorState, SiteState, Lent}
use Rattle.vp_model.specs.Transactions.{last_changes, entry_of, close, keep_writes, decided, decide, writing_parts, complete}
use Rattle.vp_model.specs.Calls.{start_txn, take_lock, read_at, write_at, prepare_parts}
use Rattle.vp_model.specs.Answers.{with_acknowledged}
use Rattle.vp_model.specs.Step.{mark_calls, step}
use Rattle.vp_laws.proofs.Lists.Members.{Has, has_none, has_one_is, filter_keeps}
use Rattle.vp_laws.proofs.Lists.Changes.{mapped_has, put_new, put_old}
use Rattle.vp_model.proofs.SameTxn.{same_txn-is, same_txn-not, same_txn-other}
use Rattle.vp_laws.proofs.Moves.Frames.{Ends, close-ends, close-commits, decided-ends, decided-commits, decide-cases}
use Rattle.vp_laws.proofs.Lists.Views.{same_site}
use Rattle.vp_laws.proofs.Moves.Table.{Comes, lent_at, Handled, OfCoordinator}
use Rattle.vp_laws.proofs.Moves.Rows.{step-keeps}
use Rattle.vp_laws.proofs.Moves.OnlyCoordinator.{OnCoordinator, Keeps, only_begins, only_table}
use Rattle.vp_laws.proofs.Lists.Numbers.{not_same}

-- a decision on the transaction waits for the site
abbrev pub IsWaited : List Decision → TxnId → ℕ → Type 0
IsWaited decisions txn q = (d : Decision) × Has decisions d × (d.txn ≡ txn) × Has d.waiting q

-- the transaction that an entry is of, as it was handled
abbrev pub WaitsFor : Catalogue → SiteState → List Decision → Commit → Type 0
WaitsFor catalogue x decisions e = (t : Live) × Handled x t × (entry_of t ≡ e) × ((q : ℕ) → is_empty (last_changes (entry_of t)) ≡ false → Has (writing_parts catalogue t) q → IsWaited decisions t.txn q)

pub record Waits (catalogue : Catalogue) (x : SiteState) (given : Input) (c : CoordinatorState) (ms : List Sent) (cs : List Commit) : Type 0 where
  pub kept : (txn : TxnId) (q : ℕ) → IsWaited x.decisions txn q → IsWaited c.decisions txn q ⊎ Comes given q (message.Ack txn)
  pub entered : (e : Commit) → Has cs e → WaitsFor catalogue x c.decisions e

pub not_empty : (xs : List ℕ) (q : ℕ) → Has xs q → is_empty xs ≡ false
not_empty [] q h = absurd (has_none q h)
not_empty (x ∷ xs) q h = refl

module _ (catalogue : Catalogue) (x : SiteState) (given : Input) (settled : (d : Decision) (t : Live) → Has x.decisions d → Has x.live t → t.txn ≢ d.txn) where
  abbrev R : CoordinatorState → List Sent → List Commit → Type 0
  R = Waits catalogue x given

  starts : R x.coordinator [] []
  starts = record { kept = λ txn q h. inl h; entered = λ e h. absurd (has_none e h) }

  -- other messages and other live transactions
  beside : (c now : CoordinatorState) (ms more : List Sent) (cs : List Commit) → now.decisions ≡ c.decisions → R c ms cs → R now more cs
  beside c now ms more cs same r = record { kept = rw same r.kept; entered = rw same r.entered }

  abbrev L : Lent → Type 0
  L l = R l.coordinator l.effects.messages l.effects.commits

  silent : (l now : Lent) → now.decisions ≡ l.decisions → now.effects.commits ≡ l.effects.commits → L l → L now
  silent l now same cs r = rw cs (beside l.coordinator now.coordinator l.effects.messages now.effects.messages l.effects.commits same r)

  closes : (t : Live) (why : Ending) (l : Lent) → L l → L (close x.id t why l)
  closes t why l r = silent l (close x.id t why l) (ap (λ (c : CoordinatorState). c.decisions) (close-ends x.id t why l).coordinator) (close-commits x.id t why l) r

  -- a decision is kept beside the others
  differs : (t : Live) (n : Handled x t) (d : Decision) → Has x.decisions d → same_txn t.txn d.txn ≡ false
  differs t n d h = same_txn-other t.txn d.txn (λ e. settled d n.was h n.live (sym (ap (λ (t : Live). t.txn) n.same) ∙ e))

  decision_old : (t : Live) → Handled x t → (waiting : List ℕ) (txn : TxnId) (q : ℕ) → IsWaited x.decisions txn q → IsWaited (with_decision t.txn waiting x.decisions) txn q
  decision_old t n waiting txn q (d, h, same, w) = go (is_empty waiting)
    where
      go : (b : Bool) → IsWaited (cond b x.decisions (put_decision (record { txn = t.txn; waiting = waiting }) x.decisions)) txn q
      go true = (d, h, same, w)
      go false = (d, put_old (λ (a : Decision) (b : Decision). same_txn a.txn b.txn) (λ (a : Decision) (b : Decision). txn_before a.txn b.txn) (record { txn = t.txn; waiting = waiting }) x.decisions d h (differs t n d h), same, w)

  decision_new : (t : Live) (waiting : List ℕ) (q : ℕ) → Has waiting q → IsWaited (with_decision t.txn waiting x.decisions) t.txn q
  decision_new t waiting q h = go (is_empty waiting) (not_empty waiting q h)
    where
      go : (b : Bool) → b ≡ false → IsWaited (cond b x.decisions (put_decision (record { txn = t.txn; waiting = waiting }) x.decisions)) t.txn q
      go true e = cc
      go false e = ((record { txn = t.txn; waiting = waiting }), put_new (λ (a : Decision) (b : Decision). same_txn a.txn b.txn) (λ (a : Decision) (b : Decision). txn_before a.txn b.txn) (record { txn = t.txn; waiting = waiting }) x.decisions, refl, h)

  decides : (t : Live) → Handled x t → L (decide catalogue x.id t (lent_at x))
  unfolding keep_writes
  decides t n = decide-cases L catalogue x.id t (lent_at x)
      (λ none. entering (lent_at x) (decided x.id t (lent_at x)) (decided-ends x.id t (lent_at x)) (decided-commits x.id t (lent_at x)) (λ txn q h. h) (λ q some h. absurd (let z = none in let y = some in cc)))
      (λ some. entering (keep_writes catalogue x.id t (lent_at x)) (decided x.id t _) (decided-ends x.id t _) (decided-commits x.id t _) (decision_old t n (writing_parts catalogue t)) (λ q z h. decision_new t (writing_parts catalogue t) q h))
    where
      entry : Commit
      entry = entry_of t

      entering : (l now : Lent) → Ends x.id t Committed true l now → now.effects.commits ≡ entry ∷ [] → ((txn : TxnId) (q : ℕ) → IsWaited x.decisions txn q → IsWaited l.decisions txn q) → ((q : ℕ) → is_empty (last_changes (entry_of t)) ≡ false → Has (writing_parts catalogue t) q → IsWaited l.decisions t.txn q) → L now
      entering l now e cs old new = rw (e.coordinator, cs) (record {
        kept = λ txn q h. inl (old txn q h);
        entered = λ c h. (t, n, has_one_is entry c h, new);
      })

  -- one that has acknowledged is not waited for any more
  acknowledges : (txn : TxnId) (from : ℕ) → Comes given from (message.Ack txn) → R (with_acknowledged txn from x.coordinator) [] []
  acknowledges txn from comes = record { kept = λ u q h. kept u q h; entered = λ e h. absurd (has_none e h) }
    where
      changed : Decision → Decision
      changed d = cond (same_txn d.txn txn) (record { txn = d.txn; waiting = filter (λ q. not (q == from)) d.waiting }) d

      stays : (d : Decision) (q : ℕ) → Has d.waiting q → q ≢ from → (b : Bool) → (z : Decision) → cond b (record { txn = d.txn; waiting = filter (λ q. not (q == from)) d.waiting }) d ≡ z → (z.txn ≡ d.txn) × Has z.waiting q
      stays d q w n true z e = (ap (λ (d : Decision). d.txn) (sym e), rw (← (ap (λ (d : Decision). d.waiting) e)) (filter_keeps (λ (q : ℕ). not (q == from)) d.waiting q w (not_same q from n)))
      stays d q w n false z e = (ap (λ (d : Decision). d.txn) (sym e), rw (← (ap (λ (d : Decision). d.waiting) e)) w)

      unchanged : (d : Decision) → d.txn ≢ txn → (b : Bool) → same_txn d.txn txn ≡ b → cond b (record { txn = d.txn; waiting = filter (λ q. not (q == from)) d.waiting }) d ≡ d
      unchanged d n true e = absurd (n (same_txn-is d.txn txn e))
      unchanged d n false e = refl

      there : (d : Decision) → Has x.decisions d → (q : ℕ) → Has (changed d).waiting q → Has (acknowledged txn from x.decisions) (changed d)
      there d h q w = filter_keeps (λ (d : Decision). not (is_empty d.waiting)) (map changed x.decisions) (changed d) (mapped_has changed x.decisions d h) (ap not (not_empty (changed d).waiting q w))

      came : (u : TxnId) (q : ℕ) → u ≡ txn → q ≡ from → Comes given q (message.Ack u)
      came u q e f = rw (e, f) comes

      kept : (u : TxnId) (q : ℕ) → IsWaited x.decisions u q → IsWaited (acknowledged txn from x.decisions) u q ⊎ Comes given q (message.Ack u)
      kept u q (d, h, same, w) = ⊎_elim
          (λ (it : q ≡ from). by_name it (same_txn d.txn txn) refl)
          (λ (n : q ≢ from). let z = stays d q w n (same_txn d.txn txn) (changed d) refl in inl (changed d, there d h q z.1, z.0 ∙ same, z.1))
          (same_site q from)
        where
          by_name : q ≡ from → (b : Bool) → same_txn d.txn txn ≡ b → IsWaited (acknowledged txn from x.decisions) u q ⊎ Comes given q (message.Ack u)
          by_name it true e = inr (came u q (sym same ∙ same_txn-is d.txn txn e) it)
          by_name it false e =
              let z : changed d ≡ d = unchanged d (same_txn-not d.txn txn e) (same_txn d.txn txn) refl in
              inl (changed d, there d h q (rw z w), ap (λ (d : Decision). d.txn) z ∙ same, rw z w)

  pub moves : OfCoordinator catalogue x given L
  unfolding start_txn take_lock complete read_at write_at prepare_parts mark_calls
  moves = record {
    begin = λ port view e g u. beside x.coordinator _ [] _ [] refl starts;
    answers = λ words port why y. starts;
    take_lock = λ t rec exclusive stored h i a v c. starts;
    complete = λ t p deed l h g y e r. beside l.coordinator _ l.effects.messages _ l.effects.commits refl r;
    read_at = λ t p rec q h n r a w c o y. beside x.coordinator _ [] _ [] refl starts;
    write_at = λ t p rec value l h n w a e o d y v r. beside l.coordinator _ l.effects.messages _ l.effects.commits refl r;
    prepare_parts = λ t p h i g e. beside x.coordinator _ [] _ [] refl starts;
    still_waits = λ t p from h e m f c. beside x.coordinator _ [] _ [] refl starts;
    decide = λ t n d. decides t n;
    close = λ t why l n a z y r. closes t why l r;
    mark_calls = λ l c z r. beside l.coordinator _ l.effects.messages _ l.effects.commits refl r;
    acknowledge = λ from txn c w. acknowledges txn from c;
  }

  keeps : Keeps catalogue x given R
  keeps = record {
    aside = λ c ms more cs quiet r. beside c c ms (ms ++ more) cs refl r;
    starts = starts;
    moves = moves;
    sends_back = λ from m t. beside x.coordinator _ [] _ [] refl starts;
    resends = λ c d ms cs tick h r. beside c c ms (ms ++ _) cs refl r;
  }

pub waits-step : (catalogue : Catalogue) (x : SiteState) (given : Input) → ((d : Decision) (t : Live) → Has x.decisions d → Has x.live t → t.txn ≢ d.txn) → OnCoordinator catalogue x given (Waits catalogue x given) (step catalogue x given)
waits-step catalogue x given settled =
    let k = keeps catalogue x given settled in
    step-keeps catalogue x given (OnCoordinator catalogue x given (Waits catalogue x given)) (only_table catalogue x given (Waits catalogue x given) k) (only_begins catalogue x given (Waits catalogue x given) k)
