-- What a site does with a call of a transaction: it refuses it early, or the transaction is live or finished here. A live one has
-- answered the number; or the number is its next one and no call is pending, and after the step the call is pending or answered, or
-- the transaction has ended.
use Rattle.std.proofs.Common.{◌≡◌, ◌⊎◌, ◌∙◌, ap, sym, subst, ℕ, ◌+◌, ◌≤◌, Bool, true, false, List, [], ◌∷◌, refl, arith, inl, inr, ⊎_elim, length, length-append}
use Rattle.std.specs.Prelude.{Option, Some, None, is_some, nat_le, nat_lt, ◌||◌}
use Rattle.std.specs.Option.{option_map_or}
use Rattle.std.proofs.lemmas.Bool.Decides.{nat_tests}
use Rattle.vp_model.specs.Types.{TxnId, Call, Answer, Reply, Pending, Live, Ending, Finished}
use Rattle.vp_base.specs.declared.site.Ending.TheVariants.{Aborted, LockHeld}
use Rattle.vp_model.specs.Types.answer
use Rattle.vp_model.specs.Types.call
use Rattle.vp_model.specs.Types.input
use Rattle.vp_model.specs.Types.op
use Rattle.vp_model.specs.Words.{same_txn, change_first, without_first, first, is_empty, value_at, for_some}
use Rattle.vp_model.specs.Catalogue.{Catalogue, Table as Weights, find_record}
use Rattle.vp_model.specs.Site.{CoordinatorState, SiteState, Lent, lent_reply}
use Rattle.vp_model.specs.Transactions.{Deed, deed_answer, last_changes, entry_of, finished_of, last_writes, keep_writes, close, decide, complete}
use Rattle.vp_model.specs.Refresh.{other_holders}
use Rattle.vp_model.specs.Calls.{handled, handling, with_record, take_lock, lock_here, answer_read, read, read_at, change_elsewhere, change, new_change, is_bad_table, is_too_large, short, write_at, commit, prepare_parts, new_call, live_call, finished_call, on_txn_call, own_call, on_call}
use Rattle.vp_model.specs.Step.{on_input, step}
use Rattle.vp_model.specs.Told.{is_early_refusal}
use Rattle.vp_laws.proofs.Lists.Members.{Has, has_one, find_has, find_true}
use Rattle.vp_model.proofs.SameTxn.{same_txn-is}
use Rattle.vp_laws.proofs.Lists.Names.{Apart, named, without_gone, change_cases}
use Rattle.vp_laws.proofs.Moves.Frames.{close-ends, decided-ends, decide-cases}
use Rattle.vp_laws.proofs.Moves.Table.{lent_at}
use Rattle.vp_laws.proofs.Moves.Coordinator.{live_of-has, live_of-is, next_number}
use Rattle.vp_laws.proofs.Lists.Keeps.{by_option, by_test}
use Rattle.vp_laws.proofs.Moves.Calls.{done, waiting, reading, writing}

-- after the step the call is pending, or answered, or the transaction is not live
abbrev pub IsTaken : Live → List Live → Type 0
IsTaken t live = (u : Live) → Has live u → u.txn ≡ t.txn → (is_some u.pending ≡ true) ⊎ (length u.answers ≡ length t.answers + 1)

pub data CallSays (x : SiteState) (txn : TxnId) (number : ℕ) (live : List Live) (replies : List Reply) : Type 0 where
  early : (r : Reply) → Has replies r → is_early_refusal r.answer ≡ true → CallSays x txn number live replies
  repeated : (t : Live) → Has x.live t → t.txn ≡ txn → number ≤ length t.answers → CallSays x txn number live replies
  next : (t : Live) → Has x.live t → t.txn ≡ txn → number ≡ length t.answers + 1 → is_some t.pending ≡ false → IsTaken t live → CallSays x txn number live replies
  over : (f : Finished) → Has x.finished f → f.txn ≡ txn → CallSays x txn number live replies

-- the call is of this transaction and has this number
pub data IsCallOf (txn : TxnId) (number : ℕ) : Call → Type 0 where
  of_read : (name : List ℕ) → IsCallOf txn number (call.Read txn number name)
  of_write : (name value : List ℕ) → IsCallOf txn number (call.Write txn number name value)
  of_delete : (name : List ℕ) → IsCallOf txn number (call.Delete txn number name)
  of_weigh : (name : List ℕ) (table : Weights) → IsCallOf txn number (call.Weigh txn number name table)
  of_commit : IsCallOf txn number (call.Commit txn number)
  of_abort : IsCallOf txn number (call.Abort txn number)

-- a record that the tests let through has a copy here or at another site of the view
abbrev pub HasHolders : Catalogue → SiteState → Type 0
HasHolders catalogue x = (rec : ℕ) (deed : Deed) → short catalogue x.held x.bars rec deed ≡ None → value_at rec x.copies ≡ None → (q : ℕ) × (first (other_holders catalogue x rec) ≡ Some q)

-- where there is a first one
by_first : (P : Lent → Type 0) (o : Option ℕ) (f : ℕ → Lent → Lent) (b : Lent) → (q : ℕ) × (o ≡ Some q) → ((q : ℕ) → P (f q b)) → P (for_some o f b)
by_first P None f b q h = absurd (let e = q.1 in cc)
by_first P (Some a) f b q h = h a

abbrev Said : SiteState → TxnId → ℕ → Lent → Type 0
Said x txn number l = CallSays x txn number l.live l.effects.replies

module _ (catalogue : Catalogue) (x : SiteState) (port : ℕ) (txn : TxnId) (number : ℕ) (apart : Apart x.live) (holders : HasHolders catalogue x) (Q : Lent → Type 0) (says : (l : Lent) → Said x txn number l → Q l) where
  refuses : (words : Answer) → is_early_refusal words ≡ true → Q (lent_reply words port (lent_at x))
  refuses words e = says (lent_reply words port (lent_at x)) (CallSays.early (record { to = port; answer = words }) (has_one (record { to = port; answer = words })) e)

  at_most : (a b : ℕ) → nat_le a b ≡ true → a ≤ b
  at_most a b e = grind (arith, nat_tests, e)

  -- the next call of a live transaction
  module _ (t : Live) (p : Pending) (to : p.port ≡ port) (here : Has x.live t) (name_is : t.txn ≡ txn) (fits : number ≡ length t.answers + 1) (idle : is_some t.pending ≡ false) where
    takes : (l : Lent) → IsTaken t l.live → Q l
    takes l taken = says l (CallSays.next t here name_is fits idle taken)

    refused : (words : Answer) → is_early_refusal words ≡ true → Q (lent_reply words p.port (lent_at x))
    refused words e = rw to (refuses words e)

    -- the transaction is over
    gone : (live : List Live) → live ≡ x.live → IsTaken t (without_first (named t.txn) live)
    gone live same u h e = absurd (without_gone t.txn x.live apart u (rw same at h) e)

    -- it goes on as u
    goes : (u : Live) → u.txn ≡ t.txn → (is_some u.pending ≡ true) ⊎ (length u.answers ≡ length t.answers + 1) → (live : List Live) → live ≡ x.live → IsTaken t (change_first (named u.txn) (λ v. u) live)
    goes u e now live same a h g = ⊎_elim
        (λ (is : a ≡ u). subst (λ (a : Live). (is_some a.pending ≡ true) ⊎ (length a.answers ≡ length t.answers + 1)) (sym is) now)
        (λ old. absurd (old.1 (g ∙ sym e)))
        (change_cases u x.live apart a (rw same at h))

    closes : (why : Ending) → Q (close x.id (handling t p) why (lent_at x))
    closes why = takes _ (rw (ap (λ (c : CoordinatorState). c.live) (close-ends x.id (handling t p) why (lent_at x)).coordinator) (gone x.live refl))

    decides : Q (decide catalogue x.id (handling t p) (lent_at x))
    unfolding keep_writes
    decides = decide-cases Q catalogue x.id (handling t p) (lent_at x)
        (λ e. takes _ (rw (ap (λ (c : CoordinatorState). c.live) (decided-ends x.id (handling t p) (lent_at x)).coordinator) (gone x.live refl)))
        (λ e. takes _ (rw (ap (λ (c : CoordinatorState). c.live) (decided-ends x.id (handling t p) (keep_writes catalogue x.id (handling t p) (lent_at x))).coordinator) (gone x.live refl)))

    completes : (deed : Deed) (l : Lent) → l.live ≡ x.live → Q (complete t p deed l)
    unfolding complete
    completes deed l same = takes _ (goes (done t p deed) refl (inr (length-append t.answers (deed_answer t.txn p.number deed ∷ []))) l.live same)

    locks : (name : List ℕ) (rec : ℕ) (exclusive : Bool) (rest : Lent → Lent) → Q (rest (take_lock t.txn rec exclusive (lent_at x))) → Q (lock_here x.id t p name rec exclusive rest (lent_at x))
    unfolding lock_here
    locks name rec exclusive rest n = by_option Q _ _ _ (λ holder e. closes (LockHeld name x.id holder)) (λ e. n)

    abbrev elsewhere : (name : List ℕ) (rec : ℕ) → Lent
    elsewhere name rec =
        option_map_or (λ stored. lock_here x.id t p name rec false (answer_read t p rec stored.value) (lent_at x)) (value_at rec x.copies) (for_some (first (other_holders catalogue x rec)) (read_at x.id t p rec) (lent_at x))

    reads : (name : List ℕ) (rec : ℕ) → short catalogue x.held x.bars rec (Deed.operates (op.Read rec None)) ≡ None → Q (read catalogue x.id x.held t p name rec (lent_at x))
    unfolding read take_lock read_at
    reads name rec a =
        by_option Q (λ value. answer_read t p rec value (lent_at x)) (value_at rec (last_writes t.ops)) (elsewhere name rec)
        (λ value e. completes (Deed.operates (op.Read rec value)) (lent_at x) refl)
        (λ n. by_option Q _ _ _
        (λ stored e. locks name rec false (answer_read t p rec stored.value) (completes _ (take_lock t.txn rec false (lent_at x)) refl))
        (λ none. by_first Q (first (other_holders catalogue x rec)) (read_at x.id t p rec) (lent_at x) (holders rec (Deed.operates (op.Read rec None)) a none) (λ q. takes _ (goes (reading t p rec q) refl (inl refl) x.live refl))))

    changes_elsewhere : (rec : ℕ) (deed : Deed) (l : Lent) → l.live ≡ x.live → Q (change_elsewhere catalogue x.id x.held t p rec deed l)
    unfolding change_elsewhere write_at
    changes_elsewhere rec deed l same =
        by_test Q (is_empty (other_holders catalogue x rec)) _ _ (λ e. completes deed l same)
        (λ e. takes _ (goes (writing t p (other_holders catalogue x rec)) refl (inl refl) l.live same))

    changes : (name : List ℕ) (asked : ℕ → Deed) (rec : ℕ) → Q (change catalogue x.id x.held t p name asked rec (lent_at x))
    unfolding change take_lock
    changes name asked rec = by_option Q _ (value_at rec (last_changes (entry_of t))) _
        (λ before e. completes (asked rec) (lent_at x) refl)
        (λ n. by_option Q _ (value_at rec x.copies) _
        (λ stored e. locks name rec true (change_elsewhere catalogue x.id x.held t p rec (asked rec)) (changes_elsewhere rec (asked rec) (take_lock t.txn rec true (lent_at x)) refl))
        (λ none. changes_elsewhere rec (asked rec) (lent_at x) refl))

    uses : (name : List ℕ) (asked : ℕ → Deed) (use_record : ℕ → Lent → Lent) → ((rec : ℕ) → short catalogue x.held x.bars rec (asked rec) ≡ None → Q (use_record rec (lent_at x))) → Q (with_record catalogue x.held t p name asked use_record (lent_at x))
    unfolding with_record
    uses name asked use_record used = by_option Q _ (find_record catalogue name) _
        (λ rec e. by_test Q (is_bad_table catalogue (asked rec)) _ _ (λ bad. refused _ refl)
        (λ table. by_test Q (nat_le 64 (length t.answers) || is_too_large t (asked rec)) _ _ (λ many. refused _ refl)
        (λ fits. by_option Q _ (short catalogue x.held x.bars rec (asked rec)) _ (λ weights s. refused _ refl) (λ enough. used rec enough))))
        (λ none. refused _ refl)

    new_changes : (name : List ℕ) (asked : ℕ → Deed) → Q (new_change catalogue x.id x.held t p name asked (lent_at x))
    unfolding new_change
    new_changes name asked = uses name asked _ (λ rec a. changes name asked rec)

    commits : Q (commit catalogue x.id t p (lent_at x))
    unfolding commit prepare_parts
    commits = by_test Q (is_empty t.parts) _ _ (λ e. decides) (λ e. takes _ (goes (waiting t p t.parts) refl (inl refl) x.live refl))

    new_call_says : (words : Call) → IsCallOf txn number words → Q (new_call catalogue x.id x.held t p words (lent_at x))
    unfolding new_call
    new_call_says words (IsCallOf.of_read name) = uses name (λ rec. Deed.operates (op.Read rec None)) _ (λ rec a. reads name rec a)
    new_call_says words (IsCallOf.of_write name value) = new_changes name (λ rec. Deed.operates (op.Write rec (Some value)))
    new_call_says words (IsCallOf.of_delete name) = new_changes name (λ rec. Deed.operates (op.Write rec None))
    new_call_says words (IsCallOf.of_weigh name table) = new_changes name (λ rec. Deed.weighs rec table)
    new_call_says words IsCallOf.of_commit = commits
    new_call_says words IsCallOf.of_abort = closes Aborted

  txn_call : (words : Call) → IsCallOf txn number words → Q (on_txn_call catalogue x.id x.held port txn number words (lent_at x))
  unfolding on_txn_call live_call
  txn_call words own = by_option Q _ _ _
      (λ t e.
      let here = live_of-has txn x.live t e in
      let name_is = live_of-is txn x.live t e in
      by_test Q (nat_le number (length t.answers)) _ _ (λ old. says _ (CallSays.repeated t here name_is (at_most number (length t.answers) old)))
      (λ fresh. by_test Q (nat_lt (length t.answers + 1) number) _ _ (λ skipped. refuses (answer.Skipped t.txn (length t.answers + 1)) refl)
      (λ fits. by_test Q (is_some t.pending) _ _ (λ busy. refuses (answer.Busy t.txn number) refl) (λ idle. new_call_says t (handled port number words) refl here name_is (next_number number (length t.answers) fresh fits) idle words own))))
      (λ none. by_option Q (λ f. finished_call port number f (lent_at x)) (finished_of txn x.finished) (lent_reply (answer.Unknown txn) port (lent_at x))
      (λ f e. says _ (CallSays.over f (find_has (λ (f : Finished). same_txn f.txn txn) x.finished f e) (same_txn-is f.txn txn (find_true (λ (f : Finished). same_txn f.txn txn) x.finished f e))))
      (λ unknown. refuses (answer.Unknown txn) refl))

module _ (catalogue : Catalogue) (x : SiteState) (port : ℕ) (txn : TxnId) (number : ℕ) (apart : Apart x.live) (holders : HasHolders catalogue x) where
  said : (words : Call) → IsCallOf txn number words → Said x txn number (on_txn_call catalogue x.id x.held port txn number words (lent_at x))
  said words own = txn_call catalogue x port txn number apart holders (Said x txn number) (λ l c. c) words own

  pub call_said : (words : Call) → IsCallOf txn number words → let o = step catalogue x (input.Call port words) in CallSays x txn number o.site.live o.effects.replies
  unfolding step on_input on_call own_call
  call_said words (IsCallOf.of_read name) = said (call.Read txn number name) (IsCallOf.of_read name)
  call_said words (IsCallOf.of_write name value) = said (call.Write txn number name value) (IsCallOf.of_write name value)
  call_said words (IsCallOf.of_delete name) = said (call.Delete txn number name) (IsCallOf.of_delete name)
  call_said words (IsCallOf.of_weigh name table) = said (call.Weigh txn number name table) (IsCallOf.of_weigh name table)
  call_said words IsCallOf.of_commit = said (call.Commit txn number) IsCallOf.of_commit
  call_said words IsCallOf.of_abort = said (call.Abort txn number) IsCallOf.of_abort
