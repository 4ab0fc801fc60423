-- No log record changes which records have a copy.
use Rattle.std.proofs.Common.{◌≡◌, ◌∙◌, ap, sym, ℕ, Bool, true, false, cond, List, [], ◌∷◌, Option, Some, None, is_some, Bor, refl, arith}
use Rattle.std.specs.Prelude.{◌==◌, option_copied, Result, Ok, Err, OnOk, OnErr}
use Rattle.std.proofs.lemmas.Bool.{eqb-true}
use Rattle.std.proofs.lemmas.Bool.Decides.{nat_tests}
use Rattle.vp_model.specs.Types.{ViewId, Stored, Change, LogRecord, Doubt}
use Rattle.vp_model.specs.Types.log_record
use Rattle.vp_model.specs.Words.{has, keys, value_at, change_at, replace_at, for_each}
use Rattle.vp_model.specs.Durable.{DurableState, changed, doubt_of, with_writes, with_outcome, apply}

-- a pair that is changed keeps its number
pub changed_keys : {V : Type 0} (n : ℕ) (f : V → V) (pairs : List (ℕ × V)) → keys (change_at n f pairs) ≡ keys pairs
changed_keys {V} n f [] = refl
changed_keys {V} n f (p ∷ pairs) = ap (λ (k : ℕ). k ∷ keys (change_at n f pairs)) (go (p.0 == n) refl) ∙ ap (λ (ks : List ℕ). p.0 ∷ ks) (changed_keys n f pairs)
  where
    go : (b : Bool) → (p.0 == n) ≡ b → (cond b (n, f p.1) p).0 ≡ p.0
    go true e = sym (eqb-true p.0 n e)
    go false e = refl

pub replaced_keys : {V : Type 0} (n : ℕ) (v : V) (pairs : List (ℕ × V)) → keys (replace_at n v pairs) ≡ keys pairs
replaced_keys {V} n v pairs = changed_keys n (λ old. v) pairs

pub written_keys : (date : ViewId) (writes : List (ℕ × Change)) (copies : List (ℕ × Stored)) → keys (with_writes date writes copies) ≡ keys copies
written_keys date [] copies = refl
written_keys date (w ∷ writes) copies = written_keys date writes (change_at w.0 (changed date w.1) copies) ∙ changed_keys w.0 (changed date w.1) copies

pub outcome_keys : (doubt : Option Doubt) (commit : Bool) (copies : List (ℕ × Stored)) → keys (with_outcome doubt commit copies) ≡ keys copies
outcome_keys (Some d) true copies = written_keys d.view d.writes copies
outcome_keys (Some d) false copies = refl
outcome_keys None commit copies = refl

pub restored_keys : (saved copies : List (ℕ × Stored)) → keys (for_each saved (λ c. replace_at c.0 c.1) copies) ≡ keys copies
restored_keys [] copies = refl
restored_keys (c ∷ saved) copies = restored_keys saved (replace_at c.0 c.1 copies) ∙ replaced_keys c.0 c.1 copies

pub applied_keys : (e : LogRecord) (d : DurableState) → keys (apply e d).copies ≡ keys d.copies
unfolding apply
applied_keys (log_record.Start life) d = refl
applied_keys (log_record.Promise view) d = refl
applied_keys (log_record.Yes txn view writes) d = refl
applied_keys (log_record.Outcome txn commit) d = outcome_keys (doubt_of txn d.doubts) commit d.copies
applied_keys (log_record.Commit txn view writes waiting) d = written_keys view writes d.copies
applied_keys (log_record.Copy rec stored) d = replaced_keys rec stored d.copies
applied_keys (log_record.Acked txn site) d = refl
applied_keys (log_record.Checkpoint generation life promise copies doubts decisions) d = restored_keys copies d.copies
applied_keys (log_record.YesOfValues txn view writes) d = refl
applied_keys (log_record.CommitOfValues txn view writes waiting) d = written_keys view writes d.copies
applied_keys (log_record.CopyOfValue rec stored) d = replaced_keys rec stored d.copies
applied_keys (log_record.CheckpointOfValues generation life promise copies doubts decisions) d = restored_keys copies d.copies

-- a call changes nothing, or leaves the same records with copies
pub held_by : {T E : Type 0} (x d n : DurableState) (result : Result T E) → keys x.copies ≡ keys d.copies → OnOk result (n ≡ x) → OnErr result (n ≡ d) → keys n.copies ≡ keys d.copies
held_by x d n (Ok t) same ok err = ap (λ (a : DurableState). keys a.copies) ok ∙ same
held_by x d n (Err e) same ok err = ap (λ (a : DurableState). keys a.copies) err

-- a value is found at a number exactly where the number is
pub is_there : {V : Type 0} (n : ℕ) (pairs : List (ℕ × V)) → is_some (value_at n pairs) ≡ has (keys pairs) n
is_there {V} n [] = refl
is_there {V} n (p ∷ pairs) = let rest = is_there n pairs in grind (arith, nat_tests, rest)

copied_there : {V : Type 0} (found : Option (Bor V)) → is_some found ≡ is_some (option_copied found)
copied_there (Some v) = refl
copied_there None = refl

pub found_there : {V : Type 0} (n : ℕ) (pairs : List (ℕ × V)) (found : Option (Bor V)) → option_copied found ≡ value_at n pairs → is_some found ≡ has (keys pairs) n
found_there {V} n pairs found e = copied_there found ∙ ap is_some e ∙ is_there n pairs
