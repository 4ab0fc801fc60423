-- Calls of a client whose transaction is the only live one of its site: which row each takes.
use Rattle.std.proofs.Common.{◌≡◌, ◌∙◌, ap, ℕ, ◌+◌, ◌-◌, ◌^◌, Bool, true, false, List, [], ◌∷◌, length, refl, arith}
use Rattle.std.specs.Prelude.{Option, Some, None, ◌==◌, nat_le, nat_lt}
use Rattle.std.specs.List.{list_any}
use Rattle.std.proofs.lemmas.Bool.Decides.{nat_tests}
use Rattle.vp_model.specs.Types.{View, Stored, Change, Call, Pending, Live}
use Rattle.vp_model.specs.Types.call
use Rattle.vp_model.specs.Types.input
use Rattle.vp_model.specs.Types.op
use Rattle.vp_model.specs.Words.{first, has, is_empty, value_at}
use Rattle.vp_model.specs.Catalogue.{Catalogue, find_record, holders, Table, has_holders, accessible_by}
use Rattle.vp_model.specs.Locks.{conflict}
use Rattle.vp_model.specs.Site.{Surroundings, SiteState, Lent, begin_step, surroundings, put_back}
use Rattle.vp_model.specs.Transactions.{Deed, last_writes, last_changes, entry_of, complete, decide}
use Rattle.vp_model.specs.Refresh.{members_in, other_holders_in}
use Rattle.vp_model.specs.Calls.{next_txn, start_txn, begin_in, on_begin, handling, with_record, take_lock, lock_here, answer_read, read_at, read, write_at, change_elsewhere, change, new_change, is_bad_table, is_too_large, short, prepare_parts, commit, new_call, live_call, handled, on_txn_call, own_call, on_call}
use Rattle.vp_model.specs.Step.{on_input, step}
use Rattle.vp_model.proofs.SameTxn.{same_txn-self}
use Rattle.vp_laws.proofs.Moves.Table.{next_name, lent_at}

-- ---- begin

begun_in : (at : Surroundings) (port : ℕ) (l : Lent) (v : View) → at.held ≡ Some v → l.live ≡ [] → (l.seq == 2 ^ 32 - 1) ≡ false → on_begin at port l ≡ start_txn (next_txn at l.coordinator) port v.id l
unfolding on_begin begin_in
begun_in at port l v h e s = rw (h, e, s) refl

pub begins : (catalogue : Catalogue) (x : SiteState) (v : View) → x.held ≡ Some v → x.live ≡ [] → (x.seq == 2 ^ 32 - 1) ≡ false → step catalogue x (input.Call 0 call.Begin) ≡ put_back (begin_step x) (start_txn (next_name x) 0 v.id (lent_at x))
unfolding step on_input on_call own_call
begins catalogue x v h e s = ap (put_back (begin_step x)) (begun_in (surroundings x) 0 (lent_at x) v h e s)

-- ---- the next call of the transaction

new_number : (n m : ℕ) → n ≡ m + 1 → (nat_le n m ≡ false) × (nat_lt (m + 1) n ≡ false)
new_number n m e = (grind (arith, nat_tests, e), grind (arith, nat_tests, e))

module _ (catalogue : Catalogue) (id : ℕ) (held : Option View) (t : Live) (l : Lent) where
  call_is : (number : ℕ) (words : Call) → l.live ≡ t ∷ [] → number ≡ length t.answers + 1 → t.pending ≡ None → on_txn_call catalogue id held 0 t.txn number words l ≡ new_call catalogue id held t (handled 0 number words) words l
  unfolding on_txn_call live_call
  call_is number words e n p =
      let self = same_txn-self t.txn in
      let tests = new_number number (length t.answers) n in
      rw (e, self, tests.0, tests.1, p) refl

  record_is : (p : Pending) (name : List ℕ) (asked : ℕ → Deed) (rec : ℕ) (use_record : ℕ → Lent → Lent) → find_record catalogue name ≡ Some rec → is_bad_table catalogue (asked rec) ≡ false → nat_le 64 (length t.answers) ≡ false → is_too_large t (asked rec) ≡ false → short catalogue held l.bars rec (asked rec) ≡ None
      → with_record catalogue held t p name asked use_record l ≡ use_record rec l
  unfolding with_record
  record_is p name asked rec use_record f table few small u = rw (f, table, few, small, u) refl

  lock_is : (p : Pending) (name : List ℕ) (rec : ℕ) (exclusive : Bool) (onward : Lent → Lent) → conflict rec exclusive t.txn l.locks ≡ None → lock_here id t p name rec exclusive onward l ≡ onward (take_lock t.txn rec exclusive l)
  unfolding lock_here
  lock_is p name rec exclusive onward c = rw c refl

  -- ---- a read

  pub read_own : (p : Pending) (name : List ℕ) (rec : ℕ) (value : Option (List ℕ)) → value_at rec (last_writes t.ops) ≡ Some value → read catalogue id held t p name rec l ≡ answer_read t p rec value l
  unfolding read
  read_own p name rec value v = rw v refl

  pub read_copy : (p : Pending) (name : List ℕ) (rec : ℕ) (stored : Stored) → value_at rec (last_writes t.ops) ≡ None → value_at rec l.copies ≡ Some stored → conflict rec false t.txn l.locks ≡ None → read catalogue id held t p name rec l ≡ answer_read t p rec stored.value (take_lock t.txn rec false l)
  unfolding read
  read_copy p name rec stored v c free = rw (v, c) (lock_is p name rec false (answer_read t p rec stored.value) free)

  pub read_there : (p : Pending) (name : List ℕ) (rec k : ℕ) → value_at rec (last_writes t.ops) ≡ None → value_at rec l.copies ≡ None → first (other_holders_in catalogue id held rec) ≡ Some k → read catalogue id held t p name rec l ≡ read_at id t p rec k l
  unfolding read
  read_there p name rec k v c f = rw (v, c, f) refl

  -- ---- a change

  pub change_again : (p : Pending) (name : List ℕ) (asked : ℕ → Deed) (rec : ℕ) (before : Change) → value_at rec (last_changes (entry_of t)) ≡ Some before → change catalogue id held t p name asked rec l ≡ complete t p (asked rec) l
  unfolding change
  change_again p name asked rec before v = rw v refl

  pub change_copy : (p : Pending) (name : List ℕ) (asked : ℕ → Deed) (rec : ℕ) (stored : Stored) → value_at rec (last_changes (entry_of t)) ≡ None → value_at rec l.copies ≡ Some stored → conflict rec true t.txn l.locks ≡ None
      → change catalogue id held t p name asked rec l ≡ change_elsewhere catalogue id held t p rec (asked rec) (take_lock t.txn rec true l)
  unfolding change
  change_copy p name asked rec stored v c free = rw (v, c) (lock_is p name rec true (change_elsewhere catalogue id held t p rec (asked rec)) free)

  pub change_there : (p : Pending) (name : List ℕ) (asked : ℕ → Deed) (rec : ℕ) → value_at rec (last_changes (entry_of t)) ≡ None → value_at rec l.copies ≡ None → change catalogue id held t p name asked rec l ≡ change_elsewhere catalogue id held t p rec (asked rec) l
  unfolding change
  change_there p name asked rec v c = rw (v, c) refl

  pub change_alone : (p : Pending) (rec : ℕ) (deed : Deed) → is_empty (other_holders_in catalogue id held rec) ≡ true → change_elsewhere catalogue id held t p rec deed l ≡ complete t p deed l
  unfolding change_elsewhere
  change_alone p rec deed e = rw e refl

  pub change_asks : (p : Pending) (rec : ℕ) (deed : Deed) → is_empty (other_holders_in catalogue id held rec) ≡ false → change_elsewhere catalogue id held t p rec deed l ≡ write_at id t p rec (other_holders_in catalogue id held rec) l
  unfolding change_elsewhere
  change_asks p rec deed e = rw e refl

  -- ---- a commit

  pub commits_alone : (p : Pending) → is_empty t.parts ≡ true → commit catalogue id t p l ≡ decide catalogue id (handling t p) l
  unfolding commit
  commits_alone p e = rw e refl

  pub commits_asking : (p : Pending) → is_empty t.parts ≡ false → commit catalogue id t p l ≡ prepare_parts catalogue id t p l
  unfolding commit
  commits_asking p e = rw e refl

-- ---- the steps

module _ (catalogue : Catalogue) (x : SiteState) (t : Live) (number : ℕ) (live : x.live ≡ t ∷ []) (next : number ≡ length t.answers + 1) (idle : t.pending ≡ None) where
  pub reads : (name : List ℕ) (rec : ℕ) → find_record catalogue name ≡ Some rec → nat_le 64 (length t.answers) ≡ false → value_at rec x.bars ≡ None → list_any (has (members_in x.held)) (holders catalogue rec) ≡ true
      → step catalogue x (input.Call 0 (call.Read t.txn number name)) ≡ put_back (begin_step x) (read catalogue x.id x.held t (handled 0 number (call.Read t.txn number name)) name rec (lent_at x))
  unfolding step on_input on_call own_call new_call
  reads name rec f n unbarred held =
      let words = call.Read t.txn number name in
      let p = handled 0 number words in
      ap (put_back (begin_step x)) (call_is catalogue x.id x.held t (lent_at x) number words live next idle ∙ record_is catalogue x.id x.held t (lent_at x) p name (λ rec. Deed.operates (op.Read rec None)) rec (read catalogue x.id x.held t p name) f refl n refl (rw (unbarred, held) refl))

  pub writes : (name value : List ℕ) (rec : ℕ) → find_record catalogue name ≡ Some rec → nat_le 64 (length t.answers) ≡ false → is_too_large t (Deed.operates (op.Write rec (Some value))) ≡ false → value_at rec x.bars ≡ None → list_any (has (members_in x.held)) (holders catalogue rec) ≡ true
      → step catalogue x (input.Call 0 (call.Write t.txn number name value)) ≡ put_back (begin_step x) (change catalogue x.id x.held t (handled 0 number (call.Write t.txn number name value)) name (λ rec. Deed.operates (op.Write rec (Some value))) rec (lent_at x))
  unfolding step on_input on_call own_call new_call new_change
  writes name value rec f n small unbarred held =
      let words = call.Write t.txn number name value in
      let p = handled 0 number words in
      let asked : ℕ → Deed = λ rec. Deed.operates (op.Write rec (Some value)) in
      ap (put_back (begin_step x)) (call_is catalogue x.id x.held t (lent_at x) number words live next idle ∙ record_is catalogue x.id x.held t (lent_at x) p name asked rec (change catalogue x.id x.held t p name asked) f refl n small (rw (unbarred, held) refl))

  pub deletes : (name : List ℕ) (rec : ℕ) → find_record catalogue name ≡ Some rec → nat_le 64 (length t.answers) ≡ false → value_at rec x.bars ≡ None → list_any (has (members_in x.held)) (holders catalogue rec) ≡ true
      → step catalogue x (input.Call 0 (call.Delete t.txn number name)) ≡ put_back (begin_step x) (change catalogue x.id x.held t (handled 0 number (call.Delete t.txn number name)) name (λ rec. Deed.operates (op.Write rec None)) rec (lent_at x))
  unfolding step on_input on_call own_call new_call new_change
  deletes name rec f n unbarred held =
      let words = call.Delete t.txn number name in
      let p = handled 0 number words in
      let asked : ℕ → Deed = λ rec. Deed.operates (op.Write rec None) in
      ap (put_back (begin_step x)) (call_is catalogue x.id x.held t (lent_at x) number words live next idle ∙ record_is catalogue x.id x.held t (lent_at x) p name asked rec (change catalogue x.id x.held t p name asked) f refl n refl (rw (unbarred, held) refl))

  pub weighs : (name : List ℕ) (table : Table) (rec : ℕ) → find_record catalogue name ≡ Some rec → nat_le 64 (length t.answers) ≡ false → is_too_large t (Deed.weighs rec table) ≡ false → has_holders catalogue rec table ≡ true → accessible_by table (members_in x.held) ≡ true → value_at rec x.bars ≡ None → list_any (has (members_in x.held)) (holders catalogue rec) ≡ true
      → step catalogue x (input.Call 0 (call.Weigh t.txn number name table)) ≡ put_back (begin_step x) (change catalogue x.id x.held t (handled 0 number (call.Weigh t.txn number name table)) name (λ rec. Deed.weighs rec table) rec (lent_at x))
  unfolding step on_input on_call own_call new_call new_change
  weighs name table rec f n small fits enough unbarred held =
      let words = call.Weigh t.txn number name table in
      let p = handled 0 number words in
      let asked : ℕ → Deed = λ rec. Deed.weighs rec table in
      ap (put_back (begin_step x)) (call_is catalogue x.id x.held t (lent_at x) number words live next idle ∙ record_is catalogue x.id x.held t (lent_at x) p name asked rec (change catalogue x.id x.held t p name asked) f (rw fits refl) n small (rw (enough, unbarred, held) refl))

  pub commits : step catalogue x (input.Call 0 (call.Commit t.txn number)) ≡ put_back (begin_step x) (commit catalogue x.id t (handled 0 number (call.Commit t.txn number)) (lent_at x))
  unfolding step on_input on_call own_call new_call
  commits = ap (put_back (begin_step x)) (call_is catalogue x.id x.held t (lent_at x) number (call.Commit t.txn number) live next idle)
