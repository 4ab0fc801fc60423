-- What is found in a list of pairs by a number, and the last writes of operations.
use Rattle.std.proofs.Common.{◌≡◌, ◌⊎◌, ap, sym, subst, ℕ, Bool, true, false, cond, List, [], ◌∷◌, refl, inl, inr, ⊎_elim}
use Rattle.std.specs.Prelude.{Option, Some, fold, filter, ◌==◌, nat_lt, find, option_map, None}
use Rattle.vp_model.specs.Types.{Op}
use Rattle.std.proofs.lemmas.Bool.{eqb-true}
use Rattle.vp_model.specs.Types.op
use Rattle.vp_model.specs.Words.{keys, put_at, value_at}
use Rattle.vp_model.specs.Transactions.{with_op, last_writes}
use Rattle.vp_laws.proofs.Lists.Members.{map_has, filter_has, Has, has_none, has_first, has_more, has_cons}
use Rattle.vp_laws.proofs.Lists.Changes.{put_has, mapped_has}
use Rattle.vp_laws.proofs.Lists.Numbers.{eq_self, unequal}

-- what is among the last values was written
last_from : (ops : List Op) (writes : List (ℕ × Option (List ℕ))) (p : ℕ × Option (List ℕ)) → Has (fold with_op writes ops) p → Has writes p ⊎ ((value : Option (List ℕ)) × Has ops (op.Write p.0 value))
last_from [] writes p h = inl h
last_from (op.Read rec value ∷ ops) writes p h = ⊎_elim (λ old. inl old) (λ (q : (value : Option (List ℕ)) × Has ops (op.Write p.0 value)). inr (q.0, has_more _ ops _ q.1)) (last_from ops writes p h)
last_from (op.Write rec value ∷ ops) writes p h = ⊎_elim
    (λ old. ⊎_elim (λ (new : p ≡ (rec, value)). inr (value, subst (λ (n : ℕ). Has (op.Write rec value ∷ ops) (op.Write n value)) (ap (λ (p : ℕ × Option (List ℕ)). p.0) (sym new)) (has_first _ ops))) (λ before. inl before)
    (put_has (λ (a : ℕ × Option (List ℕ)) (b : ℕ × Option (List ℕ)). a.0 == b.0) (λ (a : ℕ × Option (List ℕ)) (b : ℕ × Option (List ℕ)). nat_lt a.0 b.0) (rec, value) writes p old))
    (λ (q : (value : Option (List ℕ)) × Has ops (op.Write p.0 value)). inr (q.0, has_more _ ops _ q.1)) (last_from ops (put_at rec value writes) p h)

pub last_written : (ops : List Op) (p : ℕ × Option (List ℕ)) → Has (last_writes ops) p → (value : Option (List ℕ)) × Has ops (op.Write p.0 value)
last_written ops p h = ⊎_elim (λ none. absurd (has_none p none)) (λ q. q) (last_from ops [] p h)

pub value_key : {K : Type 0} (n : ℕ) (pairs : List (ℕ × K)) (v : K) → value_at n pairs ≡ Some v → (p : ℕ × K) × Has pairs p × (p.0 ≡ n)
value_key {K} n [] v e = cc
value_key {K} n (p ∷ pairs) v e = go (p.0 == n) refl e (λ q. value_key n pairs v q)
  where
    go : (b : Bool) → (p.0 == n) ≡ b → option_map (λ (p : ℕ × K). p.1) (cond b (Some p) (find (λ (p : ℕ × K). p.0 == n) pairs)) ≡ Some v → (value_at n pairs ≡ Some v → (q : ℕ × K) × Has pairs q × (q.0 ≡ n)) → (q : ℕ × K) × Has (p ∷ pairs) q × (q.0 ≡ n)
    go true t q rest = (p, has_first p pairs, eqb-true p.0 n t)
    go false t q rest = let r = rest q in (r.0, has_more p pairs r.0 r.1, r.2)

pub written_op : (ops : List Op) (rec : ℕ) → Has (keys (last_writes ops)) rec → (value : Option (List ℕ)) × Has ops (op.Write rec value)
written_op ops rec h =
    let r = map_has (λ (p : ℕ × Option (List ℕ)). p.0) (last_writes ops) rec h in
    let q = last_written ops r.0 r.1 in
    (q.0, subst (λ (n : ℕ). Has ops (op.Write n q.0)) r.2 q.1)

-- no number occurs twice
abbrev pub Differ : List ℕ → Type 0
Differ [] = Unit {0}
Differ (n ∷ ns) = (Has ns n → ⊥) × Differ ns

pub kept_differ : {V : Type 0} (test : ℕ × V → Bool) (pairs : List (ℕ × V)) → Differ (keys pairs) → Differ (keys (filter test pairs))
kept_differ {V} test [] h = tt
kept_differ {V} test (p ∷ pairs) h = go (test p) (kept_differ test pairs h.1)
  where
    none : Has (keys (filter test pairs)) p.0 → ⊥
    none k = let r = map_has (λ (q : ℕ × V). q.0) (filter test pairs) p.0 k in h.0 (subst (Has (keys pairs)) r.2 (mapped_has (λ (q : ℕ × V). q.0) pairs r.0 (filter_has test pairs r.0 r.1).0))

    go : (b : Bool) → Differ (keys (filter test pairs)) → Differ (keys (cond b (p ∷ filter test pairs) (filter test pairs)))
    go true rest = (none, rest)
    go false rest = rest

-- then a pair has the value at its number
pub pair_value : {V : Type 0} (pairs : List (ℕ × V)) (n : ℕ) (v : V) → Differ (keys pairs) → Has pairs (n, v) → value_at n pairs ≡ Some v
pair_value {V} [] n v d h = absurd (has_none (n, v) h)
pair_value {V} (p ∷ pairs) n v d h = ⊎_elim first (λ more. later (pair_value pairs n v d.1 more) more) (has_cons p pairs (n, v) h)
  where
    first : p ≡ (n, v) → value_at n (p ∷ pairs) ≡ Some v
    first one = let t = eq_self n in rw (one, t) refl

    there : Has pairs (n, v) → Has (keys pairs) n
    there more = mapped_has (λ (q : ℕ × V). q.0) pairs (n, v) more

    later : value_at n pairs ≡ Some v → Has pairs (n, v) → value_at n (p ∷ pairs) ≡ Some v
    later rest more = go (p.0 == n) refl
      where
        go : (b : Bool) → (p.0 == n) ≡ b → option_map (λ (q : ℕ × V). q.1) (cond b (Some p) (find (λ (q : ℕ × V). q.0 == n) pairs)) ≡ Some v
        go true e = absurd (d.0 (rw (eqb-true p.0 n e) (there more)))
        go false e = rest

pub not_copied : {K : Type 0} (n : ℕ) (pairs : List (ℕ × K)) → value_at n pairs ≡ None → Has (keys pairs) n → ⊥
not_copied {K} n [] e h = has_none n h
not_copied {K} n (p ∷ pairs) e h = go (p.0 == n) refl e (λ q more. not_copied n pairs q more)
  where
    go : (b : Bool) → (p.0 == n) ≡ b → option_map (λ (p : ℕ × K). p.1) (cond b (Some p) (find (λ (p : ℕ × K). p.0 == n) pairs)) ≡ None → (value_at n pairs ≡ None → Has (keys pairs) n → ⊥) → ⊥
    go true t q rest = cc
    go false t q rest = ⊎_elim (λ (one : p.0 ≡ n). unequal p.0 n t one) (λ more. rest q more) (has_cons p.0 (keys pairs) n h)

-- an operation does one thing to one record
pub read_no_write : {C : Type 0} (operation : Op) (rec other : ℕ) (value v : Option (List ℕ)) → operation ≡ op.Read rec value → operation ≡ op.Write other v → C
read_no_write operation rec other value v e f = cc

pub write_of_one : (operation : Op) (rec other : ℕ) (value v : Option (List ℕ)) → operation ≡ op.Write rec value → operation ≡ op.Write other v → rec ≡ other
write_of_one operation rec other value v e f = cc

-- a value that is found is there with its number
pub pair_there : {V : Type 0} (n : ℕ) (pairs : List (ℕ × V)) (v : V) → value_at n pairs ≡ Some v → Has pairs (n, v)
pair_there {V} n [] v e = cc
pair_there {V} n (p ∷ pairs) v e = go (p.0 == n) refl e (λ q. pair_there n pairs v q)
  where
    is_pair : (p : ℕ × V) → p.0 ≡ n → p.1 ≡ v → p ≡ (n, v)
    is_pair p a b = rw (← a, ← b) refl

    go : (b : Bool) → (p.0 == n) ≡ b → option_map (λ (q : ℕ × V). q.1) (cond b (Some p) (find (λ (q : ℕ × V). q.0 == n) pairs)) ≡ Some v → (value_at n pairs ≡ Some v → Has pairs (n, v)) → Has (p ∷ pairs) (n, v)
    go true t q rest = let same : p.1 ≡ v = cc in subst (Has (p ∷ pairs)) (is_pair p (eqb-true p.0 n t) same) (has_first p pairs)
    go false t q rest = has_more p pairs (n, v) (rest q)

-- a number that is among them has a value
pub value_there : {V : Type 0} (n : ℕ) (pairs : List (ℕ × V)) → Has (keys pairs) n → (v : V) × (value_at n pairs ≡ Some v)
value_there {V} n pairs h = go (value_at n pairs) refl
  where
    go : (o : Option V) → value_at n pairs ≡ o → (v : V) × (value_at n pairs ≡ Some v)
    go None e = absurd (not_copied n pairs e h)
    go (Some v) e = (v, e)
