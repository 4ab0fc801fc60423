-- Calls of a live transaction: what a pending one reads and writes, and what the transaction is while it waits or asks and when it
-- is done.
use Rattle.std.proofs.Common.{◌≡◌, ◌∙◌, ap, sym, Bool, true, false, refl, ℕ, List, [], ◌∷◌, ◌++◌}
use Rattle.std.specs.Prelude.{Option, Some, None, option_map}
use Rattle.vp_model.specs.Types.{TxnId, Call, Pending, Live}
use Rattle.vp_model.specs.Catalogue.{Catalogue, find_record}
use Rattle.vp_model.specs.Types.call
use Rattle.vp_model.specs.Types.op
use Rattle.vp_model.specs.Transactions.{Deed, with_done, deed_answer}
use Rattle.vp_model.specs.Calls.{change_asked}
use Rattle.vp_model.specs.Step.{marked_call}
use Rattle.vp_laws.specs.Votes.{is_commit}
use Rattle.vp_laws.proofs.Moves.Table.{Reads, Changes, record_of}
use Rattle.vp_model.specs.Words.{for_each, put_number}

-- the transaction with other sites missing; with a call done; with a read or a change asked of other sites
abbrev pub waiting : Live → Pending → List ℕ → Live
waiting t p sites = record t { pending = Some (record p { missing = sites }) }

abbrev pub done : Live → Pending → Deed → Live
done t p deed = with_done deed (deed_answer t.txn p.number deed) t

abbrev pub reading : Live → Pending → ℕ → ℕ → Live
reading t p rec q = record t { remote = t.remote ++ (q, rec) ∷ []; parts = put_number q t.parts; pending = Some (record p { missing = q ∷ [] }) }

abbrev pub writing : Live → Pending → List ℕ → Live
writing t p sites = record t { parts = for_each sites put_number t.parts; pending = Some (record p { missing = sites }) }

-- a read asks for no change
read_asks_none : {C : Type 0} (catalogue : Catalogue) (words : Call) (txn : TxnId) (number : ℕ) (name : List ℕ) (deed : Deed) → words ≡ call.Read txn number name → change_asked catalogue words ≡ Some deed → C
read_asks_none catalogue words txn number name deed e a = let z : None ≡ Some deed = sym (ap (change_asked catalogue) e) ∙ a in cc

pub read_not_write : {C : Type 0} (catalogue : Catalogue) (p : Pending) (rec other : ℕ) (deed : Deed) → Reads catalogue p rec → Changes catalogue p other deed → C
read_not_write catalogue p rec other deed r w = read_asks_none catalogue p.call r.txn r.number r.name deed r.words w.asked

pub reads_same : (catalogue : Catalogue) (p : Pending) (rec other : ℕ) → Reads catalogue p rec → Reads catalogue p other → rec ≡ other
reads_same catalogue p rec other r q = let a = sym r.words ∙ q.words in let name : r.name ≡ q.name = cc in let z : Some rec ≡ Some other = sym r.found ∙ ap (find_record catalogue) name ∙ q.found in cc

pub writes_same : (catalogue : Catalogue) (p : Pending) (rec other : ℕ) (deed d : Deed) → Changes catalogue p rec deed → Changes catalogue p other d → rec ≡ other
writes_same catalogue p rec other deed d r q = let is : Some deed ≡ Some d = sym r.asked ∙ q.asked in let same : deed ≡ d = cc in sym r.on ∙ ap record_of same ∙ q.on

-- a call that is marked was there without the mark
pub unmarked : (o : Option Pending) (p : Pending) → marked_call o ≡ Some p → (a : Pending) × (o ≡ Some a) × (record a { marked = true } ≡ p)
unmarked None p e = cc
unmarked (Some a) p e = (a, refl, cc)

-- a commit neither reads nor writes
pub no_commit_reads : {C : Type 0} (catalogue : Catalogue) (p : Pending) (rec : ℕ) → is_commit p.call ≡ true → Reads catalogue p rec → C
no_commit_reads catalogue p rec c r = let z = ap is_commit r.words in cc

pub commit_asks_none : {C : Type 0} (catalogue : Catalogue) (words : Call) (deed : Deed) → is_commit words ≡ true → change_asked catalogue words ≡ Some deed → C
commit_asks_none catalogue (call.Commit txn number) deed c a = cc
commit_asks_none catalogue (call.Read txn number name) deed c a = cc
commit_asks_none catalogue (call.Write txn number name value) deed c a = cc
commit_asks_none catalogue (call.Delete txn number name) deed c a = cc
commit_asks_none catalogue (call.Weigh txn number name table) deed c a = cc
commit_asks_none catalogue (call.Abort txn number) deed c a = cc
commit_asks_none catalogue call.Begin deed c a = cc
commit_asks_none catalogue call.Regroup deed c a = cc

pub no_commit_writes : {C : Type 0} (catalogue : Catalogue) (p : Pending) (rec : ℕ) (deed : Deed) → is_commit p.call ≡ true → Changes catalogue p rec deed → C
no_commit_writes catalogue p rec deed c r = commit_asks_none catalogue p.call deed c r.asked

-- a call that is marked is the one that was there
pub unmarked_call : (o : Option Pending) (p : Pending) → marked_call o ≡ Some p → (q : Pending) × (o ≡ Some q) × (q.call ≡ p.call)
unmarked_call o p e = let q = unmarked o p e in (q.0, q.1, ap (λ (p : Pending). p.call) q.2)

pub same_call : (catalogue : Catalogue) (p q : Pending) (rec : ℕ) → q.call ≡ p.call → Reads catalogue p rec → Reads catalogue q rec
same_call catalogue p q rec e r = record { txn = r.txn; number = r.number; name = r.name; words = e ∙ r.words; found = r.found }

pub same_writes : (catalogue : Catalogue) (p a : Pending) (rec : ℕ) (deed : Deed) → p.call ≡ a.call → Changes catalogue a rec deed → Changes catalogue p rec deed
same_writes catalogue p a rec deed e r = record { asked = ap (change_asked catalogue) e ∙ r.asked; on = r.on }

-- a call that changes a record is no commit
pub changes_no_commit : (catalogue : Catalogue) (p : Pending) (rec : ℕ) (deed : Deed) → Changes catalogue p rec deed → is_commit p.call ≡ false
changes_no_commit catalogue p rec deed r = go (is_commit p.call) refl
  where
    go : (b : Bool) → is_commit p.call ≡ b → b ≡ false
    go false e = refl
    go true e = commit_asks_none catalogue p.call deed e r.asked

-- what is changed is no read
asks_no_read : {C : Type 0} (catalogue : Catalogue) (words : Call) (rec : ℕ) (value : Option (List ℕ)) → change_asked catalogue words ≡ Some (Deed.operates (op.Read rec value)) → C
asks_no_read {C} catalogue (call.Write txn number name v) rec value a = go (find_record catalogue name) a
  where
    go : (o : Option ℕ) → option_map (λ r. Deed.operates (op.Write r (Some v))) o ≡ Some (Deed.operates (op.Read rec value)) → C
    go None e = cc
    go (Some r) e = cc
asks_no_read {C} catalogue (call.Delete txn number name) rec value a = go (find_record catalogue name) a
  where
    go : (o : Option ℕ) → option_map (λ r. Deed.operates (op.Write r None)) o ≡ Some (Deed.operates (op.Read rec value)) → C
    go None e = cc
    go (Some r) e = cc
asks_no_read {C} catalogue (call.Weigh txn number name table) rec value a = go (find_record catalogue name) a
  where
    go : (o : Option ℕ) → option_map (λ r. Deed.weighs r table) o ≡ Some (Deed.operates (op.Read rec value)) → C
    go None e = cc
    go (Some r) e = cc
asks_no_read catalogue (call.Read txn number name) rec value a = cc
asks_no_read catalogue (call.Commit txn number) rec value a = cc
asks_no_read catalogue (call.Abort txn number) rec value a = cc
asks_no_read catalogue call.Begin rec value a = cc
asks_no_read catalogue call.Regroup rec value a = cc

pub read_not_write_asked : {C : Type 0} {other : ℕ} (catalogue : Catalogue) (p : Pending) (deed : Deed) (rec : ℕ) (value : Option (List ℕ)) → deed ≡ Deed.operates (op.Read rec value) → Changes catalogue p other deed → C
read_not_write_asked catalogue p deed rec value e r = asks_no_read catalogue p.call rec value (r.asked ∙ ap (λ (d : Deed). Some d) e)
