-- How long the fields of a Prepare are: its changes have the values that the transaction last wrote and the tables that it gave, each
-- once.
use Rattle.std.proofs.Common.{◌≡◌, ◌≤◌, ◌∙◌, ap, sym, subst, ℕ, ◌+◌, ◌*◌, Bool, true, false, cond, List, [], ◌∷◌, map, refl, arith, length}
use Rattle.std.specs.Prelude.{Option, Some, None, option_map, filter, flat_map, find, sum_by, nat_lt, ◌==◌}
use Rattle.std.specs.Option.{option_map_or}
use Rattle.std.specs.List.{AllByRecursion}
use Rattle.std.proofs.lemmas.Bool.{eqb-true}
use Rattle.std.proofs.lemmas.List.{length-append}
use Rattle.std.proofs.lemmas.List.Sums.{sum_by-cons}
use Rattle.vp_bytes.specs.Fields.{number_bytes}
use Rattle.vp_contents.specs.Tables.{weight_bytes, maybe_table_bytes, IsMaybeTable}
use Rattle.vp_contents.specs.Changes.{put_bytes, write_bytes, writes_bytes}
use Rattle.vp_contents.specs.declared.version.Version.TheVariants as versions
use Rattle.vp_model.specs.Types.{Put, Change, Commit, Live}
use Rattle.vp_model.specs.Types.puts
use Rattle.vp_model.specs.Words.{put_at, value_at, for_each, keys}
use Rattle.vp_model.specs.Catalogue.{Table}
use Rattle.vp_model.specs.Transactions.{last_writes, last_put, change_of, last_changes, entry_of}
use Rattle.vp_model.specs.Calls.{content_size, size_of}
use Rattle.vp_laws.specs.Shapes.{IsOp, IsGiven}
use Rattle.vp_laws.proofs.Lists.Keeps.{by_test}
use Rattle.vp_laws.proofs.Lists.Members.{Has, has_first, has_more}
use Rattle.vp_laws.proofs.Lists.Items.{all_put, all_filter}
use Rattle.vp_laws.proofs.Lists.Pairs.{Differ}
use Rattle.vp_laws.proofs.Journal.LastChanges.{changes_differ}
use Rattle.vp_laws.proofs.Shapes.Numbers.{IsWritten, each_change}

-- ---- sums

sum_filter : {X : Type 0} (f : X → ℕ) (test : X → Bool) (xs : List X) → sum_by f (filter test xs) ≤ sum_by f xs
sum_filter {X} f test [] = omega arith
sum_filter {X} f test (x ∷ xs) =
    let rest = sum_filter f test xs in
    let all = sum_by-cons f x xs in
    let more = sum_by-cons f x (filter test xs) in
    by_test (λ (zs : List X). sum_by f zs ≤ sum_by f (x ∷ xs)) (test x) (x ∷ filter test xs) (filter test xs) (λ e. omega (arith, rest, all, more)) (λ e. omega (arith, rest, all))

module _ {V : Type 0} (g : V → ℕ) where
  -- what is at a number
  abbrev at_number : List (ℕ × V) → ℕ → ℕ
  at_number ws k = option_map_or g (value_at k ws) 0

  abbrev only_at : ℕ × V → ℕ → ℕ
  only_at w k = cond (w.0 == k) (g w.1) 0

  at_cons : (w : ℕ × V) (ws : List (ℕ × V)) (k : ℕ) → at_number (w ∷ ws) k ≤ only_at w k + at_number ws k
  at_cons w ws k = go (w.0 == k)
    where
      go : (b : Bool) → option_map_or g (option_map (λ (p : ℕ × V). p.1) (cond b (Some w) (find (λ (p : ℕ × V). p.0 == k) ws))) 0 ≤ cond b (g w.1) 0 + at_number ws k
      go true = omega arith
      go false = omega arith

  sum_none : (ks : List ℕ) → sum_by (at_number []) ks ≤ 0
  sum_none [] = omega arith
  sum_none (k ∷ ks) = let rest = sum_none ks in let one = sum_by-cons (at_number []) k ks in omega (arith, rest, one)

  sum_cons : (w : ℕ × V) (ws : List (ℕ × V)) (ks : List ℕ) → sum_by (at_number (w ∷ ws)) ks ≤ sum_by (only_at w) ks + sum_by (at_number ws) ks
  sum_cons w ws [] = omega arith
  sum_cons w ws (k ∷ ks) =
      let rest = sum_cons w ws ks in
      let one = at_cons w ws k in
      let a = sum_by-cons (at_number (w ∷ ws)) k ks in
      let b = sum_by-cons (only_at w) k ks in
      let c = sum_by-cons (at_number ws) k ks in
      omega (arith, rest, one, a, b, c)

  sum_away : (w : ℕ × V) (ks : List ℕ) → (Has ks w.0 → ⊥) → sum_by (only_at w) ks ≤ 0
  sum_away w [] n = omega arith
  sum_away w (k ∷ ks) n =
      let rest = sum_away w ks (λ h. n (has_more k ks w.0 h)) in
      let all = sum_by-cons (only_at w) k ks in
      go (w.0 == k) refl (λ a. omega (arith, rest, all, a))
    where
      go : (b : Bool) → (w.0 == k) ≡ b → (only_at w k ≤ 0 → sum_by (only_at w) (k ∷ ks) ≤ 0) → sum_by (only_at w) (k ∷ ks) ≤ 0
      go true e f = absurd (n (subst (Has (k ∷ ks)) (sym (eqb-true w.0 k e)) (has_first k ks)))
      go false e f = f (rw e (omega arith))

  sum_once : (w : ℕ × V) (ks : List ℕ) → Differ ks → sum_by (only_at w) ks ≤ g w.1
  sum_once w [] d = omega arith
  sum_once w (k ∷ ks) d =
      let rest = sum_once w ks d.1 in
      let all = sum_by-cons (only_at w) k ks in
      go (w.0 == k) refl (λ a. omega (arith, rest, all, a)) (λ a b. omega (arith, all, a, b))
    where
      go : (b : Bool) → (w.0 == k) ≡ b → (only_at w k ≤ 0 → sum_by (only_at w) (k ∷ ks) ≤ g w.1) → (only_at w k ≤ g w.1 → sum_by (only_at w) ks ≤ 0 → sum_by (only_at w) (k ∷ ks) ≤ g w.1) → sum_by (only_at w) (k ∷ ks) ≤ g w.1
      go true e away here = here (rw e (omega arith)) (sum_away w ks (λ h. d.0 (subst (Has ks) (eqb-true w.0 k e) h)))
      go false e away here = away (rw e (omega arith))

  pub sum_of_different : (ks : List ℕ) (ws : List (ℕ × V)) → Differ ks → sum_by (at_number ws) ks ≤ sum_by (λ (w : ℕ × V). g w.1) ws
  sum_of_different ks [] d = let none = sum_none ks in omega (arith, none)
  sum_of_different ks (w ∷ ws) d =
      let rest = sum_of_different ks ws d in
      let both = sum_cons w ws ks in
      let once = sum_once w ks d in
      let all = sum_by-cons (λ (w : ℕ × V). g w.1) w ws in
      omega (arith, rest, both, once, all)

-- ---- the cost of a change

abbrev pub value_cost : Put → ℕ
value_cost puts.Keep = 0
value_cost puts.Absent = 0
value_cost (puts.Value value) = length value

abbrev pub table_cost : Option Table → ℕ
table_cost None = 0
table_cost (Some table) = 50

abbrev cost : ℕ × Change → ℕ
cost w = value_cost w.1.put + table_cost w.1.table

pub number_two : (n : ℕ) → length (number_bytes 2 n) ≡ 2
unfolding number_bytes
number_two n = refl

weights_length : (table : Table) → length (flat_map weight_bytes table) ≡ 3 * length table
weights_length [] = refl
weights_length (w ∷ table) =
    let rest = weights_length table in
    let both = length-append (weight_bytes w) (flat_map weight_bytes table) in
    let two = number_two w.1 in
    omega (arith, rest, both, two)

pub table_length : (table : Option Table) → IsMaybeTable versions.Second table → length (maybe_table_bytes versions.Second table) ≤ 1 + table_cost table
table_length None h = omega arith
table_length (Some table) h = let few = h.1.few in let all = weights_length table in omega (arith, few, all)

put_length : (put : Put) → length (put_bytes versions.Second put) ≤ 3 + value_cost put
put_length puts.Keep = omega arith
put_length puts.Absent = omega arith
put_length (puts.Value value) =
    let two = number_two (length value) in
    let all = length-append (number_bytes 2 (length value)) value in
    omega (arith, two, all)

write_length : (w : ℕ × Change) → IsWritten w → length (write_bytes versions.Second w) ≤ 5 + cost w
write_length w h =
    let put = put_length w.1.put in
    let table = table_length w.1.table h.1.1 in
    let all = length-append (put_bytes versions.Second w.1.put) (maybe_table_bytes versions.Second w.1.table) in
    omega (arith, put, table, all)

each_length : (ws : List (ℕ × Change)) → AllByRecursion IsWritten ws → length (flat_map (write_bytes versions.Second) ws) ≤ 5 * length ws + sum_by cost ws
each_length [] h = omega arith
each_length (w ∷ ws) h =
    let rest = each_length ws h.1 in
    let one = write_length w h.0 in
    let both = length-append (write_bytes versions.Second w) (flat_map (write_bytes versions.Second) ws) in
    let sum = sum_by-cons cost w ws in
    omega (arith, rest, one, both, sum)

-- ---- the changes of an entry

module _ (e : Commit) where
  abbrev made_of : ℕ → Change
  made_of rec = change_of rec e.ops e.tables

  abbrev IsMade : ℕ × Change → Type 0
  IsMade w = w.1 ≡ made_of w.0

  puts_made : (ts : List (ℕ × Table)) (ws : List (ℕ × Change)) → AllByRecursion IsMade ws → AllByRecursion IsMade (for_each ts (λ (t : ℕ × Table). put_at t.0 (made_of t.0)) ws)
  puts_made [] ws h = h
  puts_made (t ∷ ts) ws h = puts_made ts (put_at t.0 (made_of t.0) ws) (all_put IsMade (λ (a : ℕ × Change) (b : ℕ × Change). a.0 == b.0) (λ (a : ℕ × Change) (b : ℕ × Change). nat_lt a.0 b.0) (t.0, made_of t.0) ws refl h)

  base_made : (ws : List (ℕ × Option (List ℕ))) → AllByRecursion IsMade (map (λ (w : ℕ × Option (List ℕ)). (w.0, made_of w.0)) ws)
  base_made [] = tt
  base_made (w ∷ ws) = (refl, base_made ws)

  all_made : AllByRecursion IsMade (last_changes e)
  all_made = puts_made e.tables (map (λ (w : ℕ × Option (List ℕ)). (w.0, made_of w.0)) (last_writes e.ops)) (base_made (last_writes e.ops))

  abbrev fifty : Table → ℕ
  fifty table = 50

  value_made : (o : Option (Option (List ℕ))) → value_cost (last_put o) ≡ option_map_or content_size o 0
  value_made None = refl
  value_made (Some None) = refl
  value_made (Some (Some value)) = refl

  table_made : (o : Option Table) → table_cost o ≡ option_map_or fifty o 0
  table_made None = refl
  table_made (Some table) = refl

  cost_made : (w : ℕ × Change) → IsMade w → cost w ≡ at_number content_size (last_writes e.ops) w.0 + at_number fifty e.tables w.0
  cost_made w is =
      let a = value_made (value_at w.0 (last_writes e.ops)) in
      let b = table_made (value_at w.0 e.tables) in
      ap (λ (c : Change). value_cost c.put + table_cost c.table) is ∙ rw (a, b) refl

  sum_made : (ws : List (ℕ × Change)) → AllByRecursion IsMade ws → sum_by cost ws ≤ sum_by (at_number content_size (last_writes e.ops)) (keys ws) + sum_by (at_number fifty e.tables) (keys ws)
  sum_made [] h = omega arith
  sum_made (w ∷ ws) h =
      let rest = sum_made ws h.1 in
      let one = cost_made w h.0 in
      let a = sum_by-cons cost w ws in
      let b = sum_by-cons (at_number content_size (last_writes e.ops)) w.0 (keys ws) in
      let c = sum_by-cons (at_number fifty e.tables) w.0 (keys ws) in
      omega (arith, rest, one, a, b, c)

  sum_fifty : (ts : List (ℕ × Table)) → sum_by (λ (t : ℕ × Table). fifty t.1) ts ≡ 50 * length ts
  sum_fifty [] = refl
  sum_fifty (t ∷ ts) = let rest = sum_fifty ts in let one = sum_by-cons (λ (t : ℕ × Table). fifty t.1) t ts in omega (arith, rest, one)

  pub changes_cost : sum_by cost (last_changes e) ≤ sum_by (λ (w : ℕ × Option (List ℕ)). content_size w.1) (last_writes e.ops) + 50 * length e.tables
  changes_cost =
      let made = sum_made (last_changes e) all_made in
      let values = sum_of_different content_size (keys (last_changes e)) (last_writes e.ops) (changes_differ e) in
      let tables = sum_of_different fifty (keys (last_changes e)) e.tables (changes_differ e) in
      let all = sum_fifty e.tables in
      omega (arith, made, values, tables, all)

-- the changes that a Prepare of the transaction has
pub writes_length : (t : Live) (test : ℕ × Change → Bool) → AllByRecursion IsOp t.ops → AllByRecursion IsGiven t.tables → length (filter test (last_changes (entry_of t))) ≤ 64 → size_of t ≤ 15360
    → length (writes_bytes versions.Second (filter test (last_changes (entry_of t)))) ≤ 15681
writes_length t test ops tables few size =
    let e = entry_of t in
    let each = each_length (filter test (last_changes e)) (all_filter IsWritten test (last_changes e) (each_change e ops tables)) in
    let less = sum_filter cost test (last_changes e) in
    let all = changes_cost e in
    omega (arith, each, less, all, few, size)
