-- Ascending numbers in a range and ascending writes, after a change.
use Rattle.std.proofs.Common.{◌≡◌, ◌≤◌, ◌<◌, ap, subst, ℕ, suc, ◌+◌, Bool, true, false, cond, List, [], ◌∷◌, map, refl, arith, length}
use Rattle.std.specs.Prelude.{Option, Some, None, is_some, filter, fold, nat_lt, nat_eq, ◌==◌, ◌||◌}
use Rattle.std.specs.List.{AllByRecursion}
use Rattle.std.proofs.lemmas.Bool.{or_right}
use Rattle.std.proofs.lemmas.Bool.Decides.{nat_tests}
use Rattle.vp_base.specs.Tables.{IsTable}
use Rattle.vp_bytes.specs.Fields.{IsSite, IsRecord, IsAscending, IsSites}
use Rattle.vp_contents.specs.Contents.{IsContent}
use Rattle.vp_contents.specs.Tables.{IsMaybeTable}
use Rattle.vp_contents.specs.Changes.{IsPut, Alters, IsChange, IsAscendingWrites, IsWrites}
use Rattle.vp_contents.specs.declared.version.Version.TheVariants as versions
use Rattle.vp_model.specs.Types.{Change, Op, Commit}
use Rattle.vp_model.specs.Types.op
use Rattle.vp_model.specs.Words.{put, put_number, put_at, value_at, for_each, is_empty}
use Rattle.vp_model.specs.Catalogue.{Table}
use Rattle.vp_model.specs.Transactions.{with_op, last_writes, last_put, change_of, last_changes}
use Rattle.vp_laws.specs.Shapes.{IsOp, IsGiven}
use Rattle.vp_laws.proofs.Lists.Keeps.{by_test}
use Rattle.vp_laws.proofs.Lists.Members.{Has, has_first, has_more, map_has, all_of}
use Rattle.vp_laws.proofs.Lists.Changes.{mapped_has}
use Rattle.vp_laws.proofs.Lists.Items.{all_at, all_put}
use Rattle.vp_laws.proofs.Lists.Pairs.{pair_there, value_there}
use Rattle.vp_laws.proofs.Journal.Play.{Ascending}
use Rattle.vp_laws.proofs.Journal.Places.{last_value}
use Rattle.vp_laws.proofs.Journal.LastChanges.{changes_ascending}

pub length_filter : {X : Type 0} (test : X → Bool) (xs : List X) → length (filter test xs) ≤ length xs
length_filter test [] = omega arith
length_filter test (x ∷ xs) = let rest = length_filter test xs in by_test (λ ys. length ys ≤ suc (length xs)) (test x) (x ∷ filter test xs) (filter test xs) (λ e. omega arith) (λ e. omega arith)

pub length_put : {X : Type 0} (same before : X → X → Bool) (x : X) (ys : List X) → length (put same before x ys) ≤ suc (length ys)
length_put same before x [] = omega arith
length_put same before x (y ∷ ys) = let rest = length_put same before x ys in by_test (λ zs. length zs ≤ suc (suc (length ys))) (same x y) (x ∷ ys) (cond (before x y) (x ∷ y ∷ ys) (y ∷ put same before x ys)) (λ e. omega arith) (λ e. by_test (λ zs. length zs ≤ suc (suc (length ys))) (before x y) (x ∷ y ∷ ys) (y ∷ put same before x ys) (λ f. omega arith) (λ f. omega arith))

mapped_length : {X Y : Type 0} (f : X → Y) (xs : List X) → length (map f xs) ≡ length xs
mapped_length f [] = refl
mapped_length f (x ∷ xs) = ap suc (mapped_length f xs)

-- ---- numbers

pub ascending_from : (low least most : ℕ) (xs : List ℕ) → low ≤ least → IsAscending least most xs → IsAscending low most xs
ascending_from low least most [] lt h = tt
ascending_from low least most (x ∷ xs) lt h = (omega (arith, lt, h.0), h.1, h.2)

pub ascending_filter : (least most : ℕ) (test : ℕ → Bool) (xs : List ℕ) → IsAscending least most xs → IsAscending least most (filter test xs)
ascending_filter least most test [] h = tt
ascending_filter least most test (x ∷ xs) h =
    let rest = ascending_filter (suc x) most test xs h.2 in
    by_test (IsAscending least most) (test x) (x ∷ filter test xs) (filter test xs) (λ e. (h.0, h.1, rest)) (λ e. ascending_from least (suc x) most (filter test xs) (omega (arith, h.0)) rest)

pub ascending_put : (least most n : ℕ) (xs : List ℕ) → least ≤ n → n ≤ most → IsAscending least most xs → IsAscending least most (put_number n xs)
ascending_put least most n [] low high h = (low, high, tt)
ascending_put least most n (x ∷ xs) low high h =
    by_test (IsAscending least most) (nat_eq n x) (n ∷ xs) (cond (nat_lt n x) (n ∷ x ∷ xs) (x ∷ put_number n xs)) (λ e. let q : n ≡ x = grind (arith, nat_tests, e) in (low, high, rw q h.2))
    (λ e. by_test (IsAscending least most) (nat_lt n x) (n ∷ x ∷ xs) (x ∷ put_number n xs) (λ f. let q : suc n ≤ x = grind (arith, nat_tests, f) in (low, high, (q, h.1, h.2)))
    (λ f. let q : suc x ≤ n = grind (arith, nat_tests, e, f) in (h.0, h.1, ascending_put (suc x) most n xs q high h.2)))

pub ascending_length : (least most : ℕ) (xs : List ℕ) → least ≤ suc most → IsAscending least most xs → length xs + least ≤ suc most
ascending_length least most [] lt h = omega (arith, lt)
ascending_length least most (x ∷ xs) lt h = let rest = ascending_length (suc x) most xs (omega (arith, h.1)) h.2 in omega (arith, rest, h.0)

pub ascending_all : (low least most : ℕ) (xs : List ℕ) → low ≤ least → IsAscending least most xs → AllByRecursion (λ n. (low ≤ n) × (n ≤ most)) xs
ascending_all low least most [] lt h = tt
ascending_all low least most (x ∷ xs) lt h = ((omega (arith, lt, h.0), h.1), ascending_all low (suc x) most xs (omega (arith, lt, h.0)) h.2)

-- ---- sites

pub sites_of_ascending : (xs : List ℕ) → IsAscending 1 16 xs → IsSites 0 xs
sites_of_ascending xs h = let q = ascending_length 1 16 xs (omega arith) h in (omega arith, omega (arith, q), h)

pub some_sites : (xs : List ℕ) → is_empty xs ≡ false → IsAscending 1 16 xs → IsSites 1 xs
some_sites [] e h = cc
some_sites (x ∷ xs) e h = let q = sites_of_ascending (x ∷ xs) h in (omega arith, q.1, h)

pub each_site : (xs : List ℕ) → IsAscending 1 16 xs → AllByRecursion IsSite xs
each_site xs h = ascending_all 1 1 16 xs (omega arith) h

pub put_sites : (q : ℕ) (xs : List ℕ) → IsSite q → IsAscending 1 16 xs → IsAscending 1 16 (put_number q xs)
put_sites q xs s h = ascending_put 1 16 q xs s.0 s.1 h

pub put_all_sites : (qs xs : List ℕ) → AllByRecursion IsSite qs → IsAscending 1 16 xs → IsAscending 1 16 (for_each qs put_number xs)
put_all_sites [] xs s h = h
put_all_sites (q ∷ qs) xs s h = put_all_sites qs (put_number q xs) s.1 (put_sites q xs s.0 h)

pub put_some : (q : ℕ) (xs : List ℕ) → is_empty (put_number q xs) ≡ false
put_some q [] = refl
put_some q (x ∷ xs) = by_test (λ ys. is_empty ys ≡ false) (nat_eq q x) (q ∷ xs) (cond (nat_lt q x) (q ∷ x ∷ xs) (x ∷ put_number q xs)) (λ e. refl) (λ e. by_test (λ ys. is_empty ys ≡ false) (nat_lt q x) (q ∷ x ∷ xs) (x ∷ put_number q xs) (λ f. refl) (λ f. refl))

-- ---- changes

abbrev pub IsRising : ℕ → List (ℕ × Change) → Type 0
IsRising least writes = IsAscendingWrites versions.Second least writes

abbrev pub IsWritten : ℕ × Change → Type 0
IsWritten write = IsRecord write.0 × IsChange versions.Second write.1

pub writes_from : (low least : ℕ) (ws : List (ℕ × Change)) → low ≤ least → IsRising least ws → IsRising low ws
writes_from low least [] lt h = tt
writes_from low least (w ∷ ws) lt h = (omega (arith, lt, h.0), h.1, h.2, h.3)

pub writes_filter : (least : ℕ) (test : ℕ × Change → Bool) (ws : List (ℕ × Change)) → IsRising least ws → IsRising least (filter test ws)
writes_filter least test [] h = tt
writes_filter least test (w ∷ ws) h =
    let rest = writes_filter (suc w.0) test ws h.3 in
    by_test (IsRising least) (test w) (w ∷ filter test ws) (filter test ws) (λ e. (h.0, h.1, h.2, rest)) (λ e. writes_from least (suc w.0) (filter test ws) (omega (arith, h.0)) rest)

all_up : (n : ℕ) (ws : List (ℕ × Change)) → AllByRecursion (λ (w : ℕ × Change). n < w.0) ws → AllByRecursion (λ (w : ℕ × Change). suc n ≤ w.0) ws
all_up n [] h = tt
all_up n (w ∷ ws) h = let q = h.0 in (omega (arith, q), all_up n ws h.1)

rising_of : (least : ℕ) (ws : List (ℕ × Change)) → Ascending ws → AllByRecursion IsWritten ws → AllByRecursion (λ (w : ℕ × Change). least ≤ w.0) ws → IsRising least ws
rising_of least [] a i l = tt
rising_of least (w ∷ ws) a i l = (l.0, i.0.0, i.0.1, rising_of (suc w.0) ws a.1 i.1 (all_up w.0 ws a.0))

all_from_zero : (ws : List (ℕ × Change)) → AllByRecursion (λ (w : ℕ × Change). 0 ≤ w.0) ws
all_from_zero [] = tt
all_from_zero (w ∷ ws) = (omega arith, all_from_zero ws)

-- ---- the last contents that operations wrote

abbrev pub IsPutContent : ℕ × Option (List ℕ) → Type 0
IsPutContent write = IsRecord write.0 × IsContent versions.Second write.1

op_contents : (ws : List (ℕ × Option (List ℕ))) (o : Op) → IsOp o → AllByRecursion IsPutContent ws → AllByRecursion IsPutContent (with_op ws o)
op_contents ws (op.Read rec value) i h = h
op_contents ws (op.Write rec value) i h = all_put IsPutContent (λ (a : ℕ × Option (List ℕ)) (b : ℕ × Option (List ℕ)). a.0 == b.0) (λ (a : ℕ × Option (List ℕ)) (b : ℕ × Option (List ℕ)). nat_lt a.0 b.0) (rec, value) ws (i.0, i.1) h

op_length : (ws : List (ℕ × Option (List ℕ))) (o : Op) → length (with_op ws o) ≤ suc (length ws)
op_length ws (op.Read rec value) = omega arith
op_length ws (op.Write rec value) = length_put (λ (a : ℕ × Option (List ℕ)) (b : ℕ × Option (List ℕ)). a.0 == b.0) (λ (a : ℕ × Option (List ℕ)) (b : ℕ × Option (List ℕ)). nat_lt a.0 b.0) (rec, value) ws

ops_contents : (ops : List Op) (ws : List (ℕ × Option (List ℕ))) → AllByRecursion IsOp ops → AllByRecursion IsPutContent ws → AllByRecursion IsPutContent (fold with_op ws ops)
ops_contents [] ws i h = h
ops_contents (o ∷ ops) ws i h = ops_contents ops (with_op ws o) i.1 (op_contents ws o i.0 h)

ops_length : (ops : List Op) (ws : List (ℕ × Option (List ℕ))) → length (fold with_op ws ops) ≤ length ops + length ws
ops_length [] ws = omega arith
ops_length (o ∷ ops) ws = let rest = ops_length ops (with_op ws o) in let one = op_length ws o in omega (arith, rest, one)

pub contents_are : (ops : List Op) → AllByRecursion IsOp ops → AllByRecursion IsPutContent (last_writes ops)
contents_are ops i = ops_contents ops [] i tt

-- a content that was written
pub written_is : (ops : List Op) (rec : ℕ) (value : Option (List ℕ)) → AllByRecursion IsOp ops → value_at rec (last_writes ops) ≡ Some value → IsRecord rec × IsContent versions.Second value
written_is ops rec value i e = all_at IsPutContent (last_writes ops) (contents_are ops i) (rec, value) (pair_there rec (last_writes ops) value e)

pub given_is : (tables : List (ℕ × Table)) (rec : ℕ) (table : Table) → AllByRecursion IsGiven tables → value_at rec tables ≡ Some table → IsRecord rec × IsTable table
given_is tables rec table i e = all_at IsGiven tables i (rec, table) (pair_there rec tables table e)

-- ---- the last changes of an entry of at most 64 operations and tables

module _ (e : Commit) (ops_are : AllByRecursion IsOp e.ops) (tables_are : AllByRecursion IsGiven e.tables) where
  abbrev made_of : ℕ → Change
  made_of rec = change_of rec e.ops e.tables

  put_is : (rec : ℕ) (o : Option (Option (List ℕ))) → value_at rec (last_writes e.ops) ≡ o → IsPut versions.Second (last_put o)
  put_is rec None w = tt
  put_is rec (Some None) w = tt
  put_is rec (Some (Some value)) w = (written_is e.ops rec (Some value) ops_are w).1

  table_is : (rec : ℕ) (o : Option Table) → value_at rec e.tables ≡ o → IsMaybeTable versions.Second o
  table_is rec None g = tt
  table_is rec (Some table) g = (tt, (given_is e.tables rec table tables_are g).1)

  alters : (o : Option (Option (List ℕ))) (g : Option Table) → (is_some o || is_some g) ≡ true → Alters (last_put o) g
  alters None None some = cc
  alters None (Some table) some = tt
  alters (Some None) g some = tt
  alters (Some (Some value)) g some = tt

  change_is : (rec : ℕ) → (is_some (value_at rec (last_writes e.ops)) || is_some (value_at rec e.tables)) ≡ true → IsChange versions.Second (made_of rec)
  change_is rec some = (put_is rec (value_at rec (last_writes e.ops)) refl, table_is rec (value_at rec e.tables) refl, alters (value_at rec (last_writes e.ops)) (value_at rec e.tables) some)

  written_some : (w : ℕ × Option (List ℕ)) → Has (last_writes e.ops) w → IsWritten (w.0, made_of w.0)
  written_some w h =
      let is = last_value e.ops w h in
      ((written_is e.ops w.0 w.1 ops_are is).0, change_is w.0 (rw is refl))

  given_some : (t : ℕ × Table) → Has e.tables t → IsWritten (t.0, made_of t.0)
  given_some t h =
      let q = value_there t.0 e.tables (mapped_has (λ (t : ℕ × Table). t.0) e.tables t h) in
      ((all_at IsGiven e.tables tables_are t h).0, change_is t.0 (or_right (is_some (value_at t.0 (last_writes e.ops))) (is_some (value_at t.0 e.tables)) (rw q.1 refl)))

  puts_are : (ts : List (ℕ × Table)) (ws : List (ℕ × Change)) → ((t : ℕ × Table) → Has ts t → IsWritten (t.0, made_of t.0)) → AllByRecursion IsWritten ws → AllByRecursion IsWritten (for_each ts (λ (t : ℕ × Table). put_at t.0 (made_of t.0)) ws)
  puts_are [] ws g h = h
  puts_are (t ∷ ts) ws g h = puts_are ts (put_at t.0 (made_of t.0) ws) (λ u k. g u (has_more t ts u k)) (all_put IsWritten (λ (a : ℕ × Change) (b : ℕ × Change). a.0 == b.0) (λ (a : ℕ × Change) (b : ℕ × Change). nat_lt a.0 b.0) (t.0, made_of t.0) ws (g t (has_first t ts)) h)

  puts_length : (ts : List (ℕ × Table)) (ws : List (ℕ × Change)) → length (for_each ts (λ (t : ℕ × Table). put_at t.0 (made_of t.0)) ws) ≤ length ts + length ws
  puts_length [] ws = omega arith
  puts_length (t ∷ ts) ws =
      let rest = puts_length ts (put_at t.0 (made_of t.0) ws) in
      let one : length (put_at t.0 (made_of t.0) ws) ≤ suc (length ws) = length_put (λ (a : ℕ × Change) (b : ℕ × Change). a.0 == b.0) (λ (a : ℕ × Change) (b : ℕ × Change). nat_lt a.0 b.0) (t.0, made_of t.0) ws in
      omega (arith, rest, one)

  abbrev base : List (ℕ × Change)
  base = map (λ (w : ℕ × Option (List ℕ)). (w.0, made_of w.0)) (last_writes e.ops)

  base_are : AllByRecursion IsWritten base
  base_are = all_of IsWritten base (λ p h. let r = map_has (λ (w : ℕ × Option (List ℕ)). (w.0, made_of w.0)) (last_writes e.ops) p h in subst IsWritten r.2 (written_some r.0 r.1))

  pub each_change : AllByRecursion IsWritten (last_changes e)
  each_change = puts_are e.tables base given_some base_are

  pub changes_rise : IsRising 0 (last_changes e)
  changes_rise = rising_of 0 (last_changes e) (changes_ascending e) each_change (all_from_zero (last_changes e))

  pub changes_are : (test : ℕ × Change → Bool) → length e.ops + length e.tables ≤ 64 → IsWrites versions.Second (filter test (last_changes e))
  changes_are test few =
      let made = puts_length e.tables base in
      let same : length base ≡ length (last_writes e.ops) = mapped_length (λ (w : ℕ × Option (List ℕ)). (w.0, made_of w.0)) (last_writes e.ops) in
      let q = ops_length e.ops [] in
      let f = length_filter test (last_changes e) in
      (omega (arith, few, made, same, q, f), writes_filter 0 test (last_changes e) changes_rise)
