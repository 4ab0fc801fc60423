-- Playing operations on a map of values, and what the last writes do to it.
use Rattle.std.proofs.Common.{◌≡◌, ◌<◌, ℕ, zero, suc, ◌∙◌, ap, sym, Bool, true, false, cond, List, [], ◌∷◌, refl, arith, inl, inr, ◌⊎◌}
use Rattle.std.specs.Prelude.{Option, Some, None, is_some, ◌==◌, nat_lt, slice_get, slice_set, option_map, option_and_then, find, fold}
use Rattle.std.specs.Option.{option_map_or}
use Rattle.std.specs.List.{AllByRecursion}
use Rattle.std.proofs.lemmas.Bool.Decides.{nat_tests}
use Rattle.std.proofs.lemmas.Bool.{cases_eq, eqb-true, eqb-false, ltb-true}
use Rattle.std.proofs.lemmas.Slice.Eq.{bytes_eq-Decides}
use Rattle.vp_model.specs.Types.{Op}
use Rattle.vp_model.specs.Types.op
use Rattle.vp_model.specs.Words.{put_at, value_at, same_content}
use Rattle.vp_model.specs.Transactions.{with_op, last_writes}
use Rattle.vp_model.specs.OneCopy.{Values, play_one, play}
use Rattle.vp_laws.specs.Entries.{record_in}

-- a map after one write
pub get_set : (m : Values) (r : ℕ) (v : Option (List ℕ)) → slice_get (slice_set m r v) r ≡ option_map (λ (old : Option (List ℕ)). v) (slice_get m r)
get_set [] r v = refl
get_set (x ∷ m) zero v = refl
get_set (x ∷ m) (suc r) v = get_set m r v

pub get_other : (m : Values) (r k : ℕ) (v : Option (List ℕ)) → (r ≡ k → ⊥) → slice_get (slice_set m r v) k ≡ slice_get m k
get_other [] r k v n = refl
get_other (x ∷ m) zero zero v n = absurd (n refl)
get_other (x ∷ m) zero (suc k) v n = refl
get_other (x ∷ m) (suc r) zero v n = refl
get_other (x ∷ m) (suc r) (suc k) v n = get_other m r k v (λ e. n (ap suc e))

pub set_again : (m : Values) (r : ℕ) (u v : Option (List ℕ)) → slice_set (slice_set m r u) r v ≡ slice_set m r v
set_again [] r u v = refl
set_again (x ∷ m) zero u v = refl
set_again (x ∷ m) (suc r) u v = ap (λ z. x ∷ z) (set_again m r u v)

pub set_swap : (m : Values) (r k : ℕ) (u v : Option (List ℕ)) → (r ≡ k → ⊥) → slice_set (slice_set m r u) k v ≡ slice_set (slice_set m k v) r u
set_swap [] r k u v n = refl
set_swap (x ∷ m) zero zero u v n = absurd (n refl)
set_swap (x ∷ m) zero (suc k) u v n = refl
set_swap (x ∷ m) (suc r) zero u v n = refl
set_swap (x ∷ m) (suc r) (suc k) u v n = ap (λ z. x ∷ z) (set_swap m r k u v (λ e. n (ap suc e)))

pub get_there : (m : Values) (r k : ℕ) (v : Option (List ℕ)) → r ≡ k → is_some (slice_get m k) ≡ true → slice_get (slice_set m r v) k ≡ Some v
get_there m r k v e s = rw e (get_set m k v ∙ go (slice_get m k) s)
  where
    go : (o : Option (Option (List ℕ))) → is_some o ≡ true → option_map (λ (old : Option (List ℕ)). v) o ≡ Some v
    go None q = cc
    go (Some u) q = refl

-- lists of written values by record
abbrev pub Write : Type 0
Write = ℕ × Option (List ℕ)

-- each written value replaces the one in the map
abbrev pub set_all : List Write → Values → Values
set_all [] m = m
set_all (w ∷ ws) m = set_all ws (slice_set m w.0 w.1)

-- no record is there twice
abbrev pub Ascending : {V : Type 0} → List (ℕ × V) → Type 0
Ascending {V} [] = Unit {0}
Ascending {V} (w ∷ ws) = AllByRecursion (λ (x : ℕ × V). w.0 < x.0) ws × Ascending ws

put_above : {V : Type 0} (n k : ℕ) (v : V) (ws : List (ℕ × V)) → n < k → AllByRecursion (λ (x : ℕ × V). n < x.0) ws → AllByRecursion (λ (x : ℕ × V). n < x.0) (put_at k v ws)
put_above {V} n k v [] l h = (l, tt)
put_above {V} n k v (y ∷ ws) l h = go (k == y.0) (nat_lt k y.0) (put_above n k v ws l h.1)
  where
    go : (a b : Bool) → AllByRecursion (λ (x : ℕ × V). n < x.0) (put_at k v ws) → AllByRecursion (λ (x : ℕ × V). n < x.0) (cond a ((k, v) ∷ ws) (cond b ((k, v) ∷ y ∷ ws) (y ∷ put_at k v ws)))
    go true b i = (l, h.1)
    go false true i = (l, (h.0, h.1))
    go false false i = (h.0, i)

all_above : {V : Type 0} (n k : ℕ) (ws : List (ℕ × V)) → n < k → AllByRecursion (λ (x : ℕ × V). k < x.0) ws → AllByRecursion (λ (x : ℕ × V). n < x.0) ws
all_above {V} n k [] l h = tt
all_above {V} n k (w ∷ ws) l h = let q = h.0 in (omega arith, all_above n k ws l h.1)

pub put_ascending : {V : Type 0} (k : ℕ) (v : V) (ws : List (ℕ × V)) → Ascending ws → Ascending (put_at k v ws)
put_ascending {V} k v [] h = (tt, tt)
put_ascending {V} k v (y ∷ ws) h = go (k == y.0) (nat_lt k y.0) refl refl (put_ascending k v ws h.1)
  where
    go : (a b : Bool) → (k == y.0) ≡ a → nat_lt k y.0 ≡ b → Ascending (put_at k v ws) → Ascending (cond a ((k, v) ∷ ws) (cond b ((k, v) ∷ y ∷ ws) (y ∷ put_at k v ws)))
    go true b e f i = (rw (eqb-true k y.0 e) h.0, h.1)
    go false true e f i = ((ltb-true k y.0 f, all_above k y.0 ws (ltb-true k y.0 f) h.0), h)
    go false false e f i = (put_above y.0 k v ws (grind (arith, nat_tests)) h.0, i)

-- a record that is above all written ones
set_all-swap : (n : ℕ) (v : Option (List ℕ)) (ws : List Write) (m : Values) → AllByRecursion (λ (x : Write). n < x.0) ws → slice_set (set_all ws m) n v ≡ set_all ws (slice_set m n v)
set_all-swap n v [] m h = refl
set_all-swap n v (w ∷ ws) m h =
    let l = h.0 in
    set_all-swap n v ws (slice_set m w.0 w.1) h.1 ∙ ap (set_all ws) (set_swap m w.0 n w.1 v (λ e. omega arith))

pub set_all-put : (n : ℕ) (v : Option (List ℕ)) (ws : List Write) (m : Values) → Ascending ws → set_all (put_at n v ws) m ≡ slice_set (set_all ws m) n v
set_all-put n v [] m h = refl
set_all-put n v (y ∷ ws) m h = go (n == y.0) (nat_lt n y.0) refl refl (set_all-put n v ws (slice_set m y.0 y.1) h.1)
  where
    go : (a b : Bool) → (n == y.0) ≡ a → nat_lt n y.0 ≡ b → set_all (put_at n v ws) (slice_set m y.0 y.1) ≡ slice_set (set_all ws (slice_set m y.0 y.1)) n v → set_all (cond a ((n, v) ∷ ws) (cond b ((n, v) ∷ y ∷ ws) (y ∷ put_at n v ws))) m ≡ slice_set (set_all ws (slice_set m y.0 y.1)) n v
    go true b e f i =
        let same : n ≡ y.0 = eqb-true n y.0 e in
        let above : AllByRecursion (λ (x : Write). n < x.0) ws = rw same h.0 in
        sym (set_all-swap n v ws (slice_set m y.0 y.1) above ∙ ap (set_all ws) (rw same (set_again m y.0 y.1 v)))
    go false true e f i =
        let l = ltb-true n y.0 f in
        sym (set_all-swap n v ws (slice_set m y.0 y.1) (all_above n y.0 ws l h.0) ∙ ap (set_all ws) (set_swap m y.0 n y.1 v (λ q. omega arith)))
    go false false e f i = i

-- what is in the map after all writes
pub value_put : {V : Type 0} (n k : ℕ) (v : V) (ws : List (ℕ × V)) → value_at n (put_at k v ws) ≡ cond (k == n) (Some v) (value_at n ws)
value_put {V} n k v [] = go (k == n)
  where
    go : (a : Bool) → option_map (λ (p : ℕ × V). p.1) (cond a (Some (k, v)) None) ≡ cond a (Some v) None
    go true = refl
    go false = refl
value_put {V} n k v (y ∷ ws) = go (k == y.0) (nat_lt k y.0) (k == n) (y.0 == n) refl refl refl (value_put n k v ws)
  where
    go : (a b c d : Bool) → (k == y.0) ≡ a → (k == n) ≡ c → (y.0 == n) ≡ d → value_at n (put_at k v ws) ≡ cond c (Some v) (value_at n ws) → value_at n (cond a ((k, v) ∷ ws) (cond b ((k, v) ∷ y ∷ ws) (y ∷ put_at k v ws))) ≡ cond c (Some v) (value_at n (y ∷ ws))
    go true b true d e f g i = rw f refl
    go true b false true e f g i = absurd (grind (arith, nat_tests))
    go true b false false e f g i = rw (f, g) refl
    go false true true d e f g i = rw f refl
    go false true false d e f g i = rw f refl
    go false false true true e f g i = absurd (grind (arith, nat_tests))
    go false false true false e f g i = rw g i
    go false false false true e f g i = rw g refl
    go false false false false e f g i = rw g i

above_not : (n : ℕ) (ws : List Write) → AllByRecursion (λ (x : Write). n < x.0) ws → value_at n ws ≡ None
above_not n [] h = refl
above_not n (w ∷ ws) h = go (w.0 == n) refl (above_not n ws h.1)
  where
    go : (a : Bool) → (w.0 == n) ≡ a → value_at n ws ≡ None → value_at n (w ∷ ws) ≡ None
    go true e i = let l = h.0 in absurd (omega (arith, eqb-true w.0 n e))
    go false e i = rw e i

value_cons : (n : ℕ) (w : Write) (ws : List Write) → value_at n (w ∷ ws) ≡ cond (w.0 == n) (Some w.1) (value_at n ws)
value_cons n w ws = go (w.0 == n)
  where
    go : (a : Bool) → option_map (λ (p : Write). p.1) (cond a (Some w) (find (λ (p : Write). p.0 == n) ws)) ≡ cond a (Some w.1) (value_at n ws)
    go true = refl
    go false = refl

-- what is not written stays
pub get_all-other : (n : ℕ) (ws : List Write) (m : Values) → value_at n ws ≡ None → slice_get (set_all ws m) n ≡ slice_get m n
get_all-other n [] m e = refl
get_all-other n (w ∷ ws) m e = go (w.0 == n) refl (value_cons n w ws) (get_all-other n ws (slice_set m w.0 w.1))
  where
    go : (a : Bool) → (w.0 == n) ≡ a → value_at n (w ∷ ws) ≡ cond (w.0 == n) (Some w.1) (value_at n ws) → (value_at n ws ≡ None → slice_get (set_all ws (slice_set m w.0 w.1)) n ≡ slice_get (slice_set m w.0 w.1) n) → slice_get (set_all ws (slice_set m w.0 w.1)) n ≡ slice_get m n
    go true q c i = let z : cond (w.0 == n) (Some w.1) (value_at n ws) ≡ None = sym c ∙ e in let y = rw q at z in cc
    go false q c i = let z : cond (w.0 == n) (Some w.1) (value_at n ws) ≡ None = sym c ∙ e in i (rw q at z) ∙ get_other m w.0 n w.1 (eqb-false w.0 n q)

-- what is written is there
pub get_all : (n : ℕ) (v : Option (List ℕ)) (ws : List Write) (m : Values) → Ascending ws → value_at n ws ≡ Some v → is_some (slice_get m n) ≡ true → slice_get (set_all ws m) n ≡ Some v
get_all n v [] m h e s = cc
get_all n v (w ∷ ws) m h e s = go (w.0 == n) refl (value_cons n w ws) (get_all n v ws (slice_set m w.0 w.1) h.1)
  where
    go : (a : Bool) → (w.0 == n) ≡ a → value_at n (w ∷ ws) ≡ cond (w.0 == n) (Some w.1) (value_at n ws) → (value_at n ws ≡ Some v → is_some (slice_get (slice_set m w.0 w.1) n) ≡ true → slice_get (set_all ws (slice_set m w.0 w.1)) n ≡ Some v) → slice_get (set_all ws (slice_set m w.0 w.1)) n ≡ Some v
    go true q c i =
        let same : w.0 ≡ n = eqb-true w.0 n q in
        let z : cond (w.0 == n) (Some w.1) (value_at n ws) ≡ Some v = sym c ∙ e in
        let here : Some w.1 ≡ Some v = (rw q at z) in
        let above : AllByRecursion (λ (x : Write). n < x.0) ws = rw (← same) h.0 in
        get_all-other n ws (slice_set m w.0 w.1) (above_not n ws above) ∙ get_there m w.0 n w.1 same s ∙ here
    go false q c i =
        let z : cond (w.0 == n) (Some w.1) (value_at n ws) ≡ Some v = sym c ∙ e in
        i (rw q at z) (rw (get_other m w.0 n w.1 (eqb-false w.0 n q)) s)

-- the value of each record after operations, and where they play
play_one-sets : (m n : Values) (operation : Op) (ws : List Write) (m0 : Values) → Ascending ws → m ≡ set_all ws m0 → play_one m operation ≡ Some n → n ≡ set_all (with_op ws operation) m0
play_one-sets m n (op.Read rec value) ws m0 h e p = go (option_map_or (same_content value) (slice_get m rec) false) p
  where
    go : (a : Bool) → cond a (Some m) None ≡ Some n → n ≡ set_all ws m0
    go true q = let same : m ≡ n = cc in rw (← same) e
    go false q = cc
play_one-sets m n (op.Write rec value) ws m0 h e p = let same : slice_set m rec value ≡ n = cc in sym (set_all-put rec value ws m0 h ∙ rw (← e) same)

with_op-ascending : (operation : Op) (ws : List Write) → Ascending ws → Ascending (with_op ws operation)
with_op-ascending (op.Read rec value) ws h = h
with_op-ascending (op.Write rec value) ws h = put_ascending rec value ws h

pub and_then : {A B : Type 0} (o : Option A) (f : A → Option B) (y : B) → option_and_then f o ≡ Some y → (x : A) × (o ≡ Some x) × (f x ≡ Some y)
and_then None f y e = cc
and_then (Some x) f y e = (x, refl, e)

play_sets-from : (ops : List Op) (m n : Values) (ws : List Write) (m0 : Values) → Ascending ws → m ≡ set_all ws m0 → play m ops ≡ Some n → n ≡ set_all (fold with_op ws ops) m0
play_sets-from [] m n ws m0 h e p = let same : m ≡ n = cc in rw (← same) e
play_sets-from (operation ∷ ops) m n ws m0 h e p =
    let t = and_then (play_one m operation) (λ next. play next ops) n p in
    play_sets-from ops t.0 n (with_op ws operation) m0 (with_op-ascending operation ws h) (play_one-sets m t.0 operation ws m0 h e t.1) t.2

pub play_sets : (ops : List Op) (m n : Values) → play m ops ≡ Some n → n ≡ set_all (last_writes ops) m
play_sets ops m n p = play_sets-from ops m n [] m tt refl p

last_ascending-from : (ops : List Op) (ws : List Write) → Ascending ws → Ascending (fold with_op ws ops)
last_ascending-from [] ws h = h
last_ascending-from (operation ∷ ops) ws h = last_ascending-from ops (with_op ws operation) (with_op-ascending operation ws h)

pub last_ascending : (ops : List Op) → Ascending (last_writes ops)
last_ascending ops = last_ascending-from ops [] tt

pub same_content-self : (c : Option (List ℕ)) → same_content c c ≡ true
same_content-self None = refl
same_content-self (Some v) = (bytes_eq-Decides v v).1 refl

-- a read plays where the map has its value
pub read_plays : (m : Values) (rec : ℕ) (value : Option (List ℕ)) → slice_get m rec ≡ Some value → play m (op.Read rec value ∷ []) ≡ Some m
read_plays m rec value e = rw (e, same_content-self value) refl

-- operations play in the same way in a map that agrees on their records
abbrev pub AgreeOn : (ℕ → Type 0) → Values → Values → Type 0
AgreeOn P m n = (r : ℕ) → P r → slice_get m r ≡ slice_get n r

set_agrees : (P : ℕ → Type 0) (m n : Values) (r : ℕ) (v : Option (List ℕ)) → AgreeOn P m n → P r → AgreeOn P (slice_set m r v) (slice_set n r v)
set_agrees P m n r v h q k p = go (cases_eq r k)
  where
    go : (r ≡ k) ⊎ (r ≡ k → ⊥) → slice_get (slice_set m r v) k ≡ slice_get (slice_set n r v) k
    go (inl e) = rw (← e) (get_set m r v ∙ ap (option_map (λ (old : Option (List ℕ)). v)) (h r q) ∙ sym (get_set n r v))
    go (inr e) = get_other m r k v e ∙ h k p ∙ sym (get_other n r k v e)

play_one-agrees : (P : ℕ → Type 0) (m n : Values) (operation : Op) (m2 : Values) → P (record_in operation) → AgreeOn P m n → play_one m operation ≡ Some m2 → (n2 : Values) × (play_one n operation ≡ Some n2) × AgreeOn P m2 n2
play_one-agrees P m n (op.Read rec value) m2 q h e = go (option_map_or (same_content value) (slice_get m rec) false) refl e
  where
    go : (a : Bool) → option_map_or (same_content value) (slice_get m rec) false ≡ a → cond a (Some m) None ≡ Some m2 → (n2 : Values) × (play_one n (op.Read rec value) ≡ Some n2) × AgreeOn P m2 n2
    go true t s = let same : m ≡ m2 = cc in let there : option_map_or (same_content value) (slice_get n rec) false ≡ true = (rw (h rec q) at t) in (n, rw there refl, rw (← same) h)
    go false t s = cc
play_one-agrees P m n (op.Write rec value) m2 q h e = let same : slice_set m rec value ≡ m2 = cc in (slice_set n rec value, refl, rw (← same) (set_agrees P m n rec value h q))

pub play_agrees : (P : ℕ → Type 0) (ops : List Op) (m n m2 : Values) → AllByRecursion (λ operation. P (record_in operation)) ops → AgreeOn P m n → play m ops ≡ Some m2 → (n2 : Values) × (play n ops ≡ Some n2) × AgreeOn P m2 n2
play_agrees P [] m n m2 all h e = let same : m ≡ m2 = cc in (n, refl, rw (← same) h)
play_agrees P (operation ∷ ops) m n m2 all h e =
    let t = and_then (play_one m operation) (λ next. play next ops) m2 e in
    let i = play_one-agrees P m n operation t.0 all.0 h t.1 in
    let j = play_agrees P ops t.0 i.0 m2 all.1 i.2 t.2 in
    (j.0, rw i.1 j.1, j.2)
