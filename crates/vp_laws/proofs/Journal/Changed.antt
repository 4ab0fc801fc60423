-- The records that a live transaction has changed, when one more of its calls is done.
use Rattle.std.proofs.Common.{◌≡◌, ◌⊎◌, ◌∙◌, ap, sym, subst, ℕ, Bool, true, false, cond, List, [], ◌∷◌, refl, inl, inr, ⊎_elim}
use Rattle.std.specs.Prelude.{Option, Some, None, is_some, ◌==◌, option_map, find, fold}
use Rattle.std.proofs.lemmas.Bool.{eqb-true}
use Rattle.std.proofs.lemmas.List.Sums.{fold-append}
use Rattle.vp_model.specs.Types.{Op, Change, Live, Pending}
use Rattle.vp_model.specs.Types.op
use Rattle.vp_model.specs.Words.{value_at, put_at, keys}
use Rattle.vp_model.specs.Transactions.{Deed, last_writes, last_changes, entry_of, with_op, with_operation, with_table}
use Rattle.vp_model.specs.Catalogue.{Table}
use Rattle.vp_laws.proofs.Lists.Members.{Has, has_none, has_cons, has_cases, has_one_is}
use Rattle.vp_laws.proofs.Lists.Changes.{mapped_has}
use Rattle.vp_laws.proofs.Lists.Numbers.{eq_self}
use Rattle.vp_laws.proofs.Lists.Pairs.{value_key}
use Rattle.vp_laws.proofs.Journal.Play.{value_put}
use Rattle.vp_laws.proofs.Journal.LastChanges.{unchanged_if, unchanged_unwritten, unchanged_ungiven}
use Rattle.vp_laws.proofs.Moves.Table.{record_of}
use Rattle.vp_laws.proofs.Moves.Calls.{done}

-- the transaction has changed the record
abbrev pub HasChanged : Live → ℕ → Type 0
HasChanged t rec = Has (keys (last_changes (entry_of t))) rec

-- what is done changes the record
abbrev pub alters : Deed → ℕ → Bool
alters (Deed.operates (op.Read rec value)) n = false
alters (Deed.operates (op.Write rec value)) n = rec == n
alters (Deed.weighs rec table) n = rec == n

pub alters_record : (deed : Deed) (n : ℕ) → alters deed n ≡ true → record_of deed ≡ n
alters_record (Deed.operates (op.Read rec value)) n e = cc
alters_record (Deed.operates (op.Write rec value)) n e = eqb-true rec n e
alters_record (Deed.weighs rec table) n e = eqb-true rec n e

writes_then : (ops : List Op) (deed : Deed) (n : ℕ) → alters deed n ≡ false → value_at n (last_writes ops) ≡ None → value_at n (last_writes (with_operation deed ops)) ≡ None
writes_then ops (Deed.operates (op.Read rec value)) n e none = ap (value_at n) (fold-append with_op [] ops (op.Read rec value ∷ [])) ∙ none
writes_then ops (Deed.operates (op.Write rec value)) n e none = ap (value_at n) (fold-append with_op [] ops (op.Write rec value ∷ [])) ∙ value_put n rec value (last_writes ops) ∙ rw e none
writes_then ops (Deed.weighs rec table) n e none = none

tables_then : (tables : List (ℕ × Table)) (deed : Deed) (n : ℕ) → alters deed n ≡ false → value_at n tables ≡ None → value_at n (with_table deed tables) ≡ None
tables_then tables (Deed.operates operation) n e none = none
tables_then tables (Deed.weighs rec table) n e none = value_put n rec table tables ∙ rw e none

unaltered : (t : Live) (p : Pending) (deed : Deed) (n : ℕ) → alters deed n ≡ false → value_at n (last_changes (entry_of t)) ≡ None → value_at n (last_changes (entry_of (done t p deed))) ≡ None
unaltered t p deed n e none = unchanged_if (entry_of (done t p deed)) n (tables_then t.tables deed n e (unchanged_ungiven (entry_of t) n none)) (writes_then t.ops deed n e (unchanged_unwritten (entry_of t) n none))

no_value_no_key : {K : Type 0} (pairs : List (ℕ × K)) (n : ℕ) → value_at n pairs ≡ None → Has (keys pairs) n → ⊥
no_value_no_key {K} [] n e h = has_none n h
no_value_no_key {K} (p ∷ pairs) n e h = ⊎_elim (λ (one : p.0 ≡ n). first one e) (λ more. go (p.0 == n) e (λ q. no_value_no_key pairs n q more)) (has_cons p.0 (keys pairs) n h)
  where
    first : p.0 ≡ n → value_at n (p ∷ pairs) ≡ None → ⊥
    first one e = let t = eq_self n in let z : value_at n (p ∷ pairs) ≡ Some p.1 = rw (one, t) refl in let y = sym z ∙ e in cc

    go : (b : Bool) → option_map (λ (p : ℕ × K). p.1) (cond b (Some p) (find (λ (p : ℕ × K). p.0 == n) pairs)) ≡ None → (value_at n pairs ≡ None → ⊥) → ⊥
    go true e rest = cc
    go false e rest = rest e

-- a last change is of a record that is changed
pub change_there : {K : Type 0} (pairs : List (ℕ × K)) (n : ℕ) (v : K) → value_at n pairs ≡ Some v → Has (keys pairs) n
change_there {K} pairs n v e = let q = value_key n pairs v e in subst_key q.2 (mapped_has (λ (p : ℕ × K). p.0) pairs q.0 q.1)
  where
    subst_key : {a b : ℕ} → a ≡ b → Has (keys pairs) a → Has (keys pairs) b
    subst_key e h = rw (← e) h

-- a record that is changed then was changed before, or by what is done
pub changed_by : (t : Live) (p : Pending) (deed : Deed) (n : ℕ) → HasChanged (done t p deed) n → HasChanged t n ⊎ ((alters deed n ≡ true) × (record_of deed ≡ n))
changed_by t p deed n h = go (alters deed n) refl (value_at n (last_changes (entry_of t))) refl
  where
    go : (b : Bool) → alters deed n ≡ b → (o : Option Change) → value_at n (last_changes (entry_of t)) ≡ o → HasChanged t n ⊎ ((alters deed n ≡ true) × (record_of deed ≡ n))
    go true e o f = inr (e, alters_record deed n e)
    go false e None f = absurd (no_value_no_key (last_changes (entry_of (done t p deed))) n (unaltered t p deed n e f) h)
    go false e (Some change) f = inl (change_there (last_changes (entry_of t)) n change f)

-- a read changes nothing
pub read_alters_none : {C : Type 0} (deed : Deed) (rec n : ℕ) (value : Option (List ℕ)) → deed ≡ Deed.operates (op.Read rec value) → alters deed n ≡ true → C
read_alters_none deed rec n value e a = let z : alters (Deed.operates (op.Read rec value)) n ≡ true = ap (λ d. alters d n) (sym e) ∙ a in cc

-- what is written is changed
pub written_changed : (t : Live) (n : ℕ) (value : Option (List ℕ)) → value_at n (last_writes t.ops) ≡ Some value → HasChanged t n
written_changed t n value e = go (value_at n (last_changes (entry_of t))) refl
  where
    go : (o : Option Change) → value_at n (last_changes (entry_of t)) ≡ o → HasChanged t n
    go None f = absurd (let z = sym e ∙ unchanged_unwritten (entry_of t) n f in cc)
    go (Some change) f = change_there (last_changes (entry_of t)) n change f

-- an operation was done before, or is what is done
pub operation_there : (ops : List Op) (deed : Deed) (operation : Op) → Has (with_operation deed ops) operation → Has ops operation ⊎ (deed ≡ Deed.operates operation)
operation_there ops (Deed.operates new) operation h = ⊎_elim (λ old. inl old) (λ now. inr (ap (λ (o : Op). Deed.operates o) (has_one_is new operation now))) (has_cases ops (new ∷ []) operation h)
operation_there ops (Deed.weighs rec table) operation h = inl h

writes_before : (ops : List Op) (deed : Deed) (n : ℕ) → value_at n (last_writes (with_operation deed ops)) ≡ None → value_at n (last_writes ops) ≡ None
writes_before ops (Deed.operates (op.Read rec value)) n e = sym (ap (value_at n) (fold-append with_op [] ops (op.Read rec value ∷ []))) ∙ e
writes_before ops (Deed.operates (op.Write rec value)) n e = other (rec == n) (sym (ap (value_at n) (fold-append with_op [] ops (op.Write rec value ∷ [])) ∙ value_put n rec value (last_writes ops)) ∙ e)
  where
    other : (b : Bool) → cond b (Some value) (value_at n (last_writes ops)) ≡ None → value_at n (last_writes ops) ≡ None
    other true e = cc
    other false e = e
writes_before ops (Deed.weighs rec table) n e = e

tables_before : (tables : List (ℕ × Table)) (deed : Deed) (n : ℕ) → value_at n (with_table deed tables) ≡ None → value_at n tables ≡ None
tables_before tables (Deed.operates operation) n e = e
tables_before tables (Deed.weighs rec table) n e = other (rec == n) (sym (value_put n rec table tables) ∙ e)
  where
    other : (b : Bool) → cond b (Some table) (value_at n tables) ≡ None → value_at n tables ≡ None
    other true e = cc
    other false e = e

-- what was changed stays so
pub changed_on : (t : Live) (p : Pending) (deed : Deed) (n : ℕ) → HasChanged t n → HasChanged (done t p deed) n
changed_on t p deed n h = go (value_at n (last_changes (entry_of (done t p deed)))) refl
  where
    none : value_at n (last_changes (entry_of (done t p deed))) ≡ None → value_at n (last_changes (entry_of t)) ≡ None
    none f = unchanged_if (entry_of t) n (tables_before t.tables deed n (unchanged_ungiven (entry_of (done t p deed)) n f)) (writes_before t.ops deed n (unchanged_unwritten (entry_of (done t p deed)) n f))

    go : (o : Option Change) → value_at n (last_changes (entry_of (done t p deed))) ≡ o → HasChanged (done t p deed) n
    go None f = absurd (no_value_no_key (last_changes (entry_of t)) n (none f) h)
    go (Some change) f = change_there (last_changes (entry_of (done t p deed))) n change f

-- what an operation wrote is changed
still_written : (ops : List Op) (writes : List (ℕ × Option (List ℕ))) (rec : ℕ) → is_some (value_at rec writes) ≡ true → is_some (value_at rec (fold with_op writes ops)) ≡ true
still_written [] writes rec h = h
still_written (op.Read r v ∷ ops) writes rec h = still_written ops writes rec h
still_written (op.Write r v ∷ ops) writes rec h = still_written ops (put_at r v writes) rec (rw (value_put rec r v writes) (there (r == rec)))
  where
    there : (b : Bool) → is_some (cond b (Some v) (value_at rec writes)) ≡ true
    there true = refl
    there false = h

write_some : (ops : List Op) (writes : List (ℕ × Option (List ℕ))) (rec : ℕ) (v : Option (List ℕ)) → Has ops (op.Write rec v) → is_some (value_at rec (fold with_op writes ops)) ≡ true
write_some [] writes rec v h = absurd (has_none _ h)
write_some (o ∷ ops) writes rec v h = ⊎_elim
    (λ (here : o ≡ op.Write rec v). subst (λ (o : Op). is_some (value_at rec (fold with_op (with_op writes o) ops)) ≡ true) (sym here) (still_written ops (put_at rec v writes) rec (let self = eq_self rec in rw (value_put rec rec v writes, self) refl)))
    (λ more. write_some ops (with_op writes o) rec v more)
    (has_cons o ops _ h)

pub operation_changed : (t : Live) (rec : ℕ) (v : Option (List ℕ)) → Has t.ops (op.Write rec v) → HasChanged t rec
operation_changed t rec v h = go (value_at rec (last_writes t.ops)) refl (write_some t.ops [] rec v h)
  where
    go : (o : Option (Option (List ℕ))) → value_at rec (last_writes t.ops) ≡ o → is_some o ≡ true → HasChanged t rec
    go None e s = cc
    go (Some value) e s = written_changed t rec value e
