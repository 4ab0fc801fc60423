-- The order of owners and of holders.
use Rattle.std.proofs.Common.{◌≡◌, ◌∙◌, refl, sym, ap, ap₂, subst, ℕ, ◌≤◌, ◌<◌, ◌-◌, ◌^◌, Bool, true, false, not, ◌&&◌, ◌||◌, ◌==◌, List, [], ◌∷◌, map, filter, if◌then◌else◌, Ordering, Less, Equal, Greater, arith}
use Rattle.std.specs.Prelude.{nat_lt}
use Rattle.std.specs.BTreeMap.Range.{IsLeBy, IsLtBy, range_contains}
use Rattle.std.specs.BTreeSet.{BTreeSet, contains}
use Rattle.std.specs.List.{list_any}
use Rattle.std.specs.declared.ops.Bound.TheVariants.{Included}
use Rattle.std.specs.Cmp.{IsTotalOrder, first_so, nat_cmp_total, on_total, second_so, then_total, tied_itself}
use Rattle.std.specs.Ordering.{nat_cmp, ordering_reverse, ordering_then, is_eq, is_gt, is_le, is_lt}
use Rattle.std.proofs.lemmas.Bool.{eqb-true}
use Rattle.std.proofs.lemmas.Bool.Decides.{nat_tests}
use Rattle.vp_base.specs.declared.entry.Owner.{Owner}
use Rattle.vp_base.specs.declared.entry.Owner.TheVariants.{Txn, Refresh}
use Rattle.vp_base.specs.Order.{owner_before}
use Rattle.vp_locks.specs.Holders.{places_between}
use Rattle.vp_locks.specs.Keys.{Holder, OwnerKey, holder_cmp, key_cmp, key_eq, owner_key}

-- what the order of two numbers tells
equal_numbers : (m n : ℕ) → is_eq (nat_cmp m n) ≡ (m == n)
equal_numbers m n = grind (arith, nat_tests)

lower_number : (m n : ℕ) → is_lt (nat_cmp m n) ≡ nat_lt m n
lower_number m n = grind (arith, nat_tests)

-- by the first part and then by the others
equal_in_three : (a b c : Ordering) → is_eq (ordering_then (ordering_then a b) c) ≡ (is_eq a && is_eq b && is_eq c)
equal_in_three Less b c = refl
equal_in_three Greater b c = refl
equal_in_three Equal Less c = refl
equal_in_three Equal Greater c = refl
equal_in_three Equal Equal c = refl

lower_in_three : (a b c : Ordering) → is_lt (ordering_then (ordering_then a b) c) ≡ (is_lt a || (is_eq a && (is_lt b || (is_eq b && is_lt c))))
lower_in_three Less b c = refl
lower_in_three Greater b c = refl
lower_in_three Equal Less c = refl
lower_in_three Equal Greater c = refl
lower_in_three Equal Equal c = refl

equal_in_four : (a b c d : Ordering) → is_eq (ordering_then (ordering_then (ordering_then a b) c) d) ≡ (is_eq a && is_eq b && is_eq c && is_eq d)
equal_in_four Less b c d = refl
equal_in_four Greater b c d = refl
equal_in_four Equal b c d = equal_in_three b c d

-- keys are equal in order exactly if they are the same, and so are holders
pub same_key : (a b : OwnerKey) → is_eq (key_cmp a b) ≡ key_eq a b
same_key a b =
    equal_in_four (nat_cmp a.0 b.0) (nat_cmp a.1 b.1) (nat_cmp a.2 b.2) (nat_cmp a.3 b.3)
    ∙ (λ i. equal_numbers a.0 b.0 i && equal_numbers a.1 b.1 i && equal_numbers a.2 b.2 i && equal_numbers a.3 b.3 i)

pub same_holder : (r : ℕ) (k : OwnerKey) (p : ℕ) (s : ℕ) (l : OwnerKey) (q : ℕ) → is_eq (holder_cmp (r, k, p) (s, l, q)) ≡ ((r == s) && key_eq k l && (p == q))
same_holder r k p s l q =
    equal_in_three (nat_cmp r s) (key_cmp k l) (nat_cmp p q)
    ∙ (λ i. equal_numbers r s i && same_key k l i && equal_numbers p q i)

-- the keys of owners are ordered as the owners are
pub key_before : (a b : Owner) → is_lt (key_cmp (owner_key a) (owner_key b)) ≡ owner_before a b
key_before (Txn t) (Txn u) =
    lower_in_three (nat_cmp t.site u.site) (nat_cmp t.life u.life) (nat_cmp t.seq u.seq)
    ∙ (λ i. lower_number t.site u.site i || (equal_numbers t.site u.site i && (lower_number t.life u.life i || (equal_numbers t.life u.life i && lower_number t.seq u.seq i))))
key_before (Txn t) Refresh = refl
key_before Refresh (Txn u) = refl
key_before Refresh Refresh = refl

-- an order of keys, by each number in turn
pub key_total : IsTotalOrder key_cmp
key_total = then_total (then_total (then_total (on_total (λ k. k.0) nat_cmp_total) (on_total (λ k. k.1) nat_cmp_total)) (on_total (λ k. k.2) nat_cmp_total)) (on_total (λ k. k.3) nat_cmp_total)

pub same_key_is : (k l : OwnerKey) → key_eq k l ≡ true → k ≡ l
same_key_is k l e =
    let three = first_so ((k.0 == l.0) && (k.1 == l.1) && (k.2 == l.2)) (k.3 == l.3) e in
    let two = first_so ((k.0 == l.0) && (k.1 == l.1)) (k.2 == l.2) three in
    let first = eqb-true k.0 l.0 (first_so (k.0 == l.0) (k.1 == l.1) two) in
    let second = eqb-true k.1 l.1 (second_so (k.0 == l.0) (k.1 == l.1) two) in
    let third = eqb-true k.2 l.2 (second_so ((k.0 == l.0) && (k.1 == l.1)) (k.2 == l.2) three) in
    let fourth = eqb-true k.3 l.3 (second_so ((k.0 == l.0) && (k.1 == l.1) && (k.2 == l.2)) (k.3 == l.3) e) in
    λ i. (first i, second i, third i, fourth i)

turned_equal : (o : Ordering) → is_eq (ordering_reverse o) ≡ is_eq o
turned_equal Less = refl
turned_equal Equal = refl
turned_equal Greater = refl

turned_lower : (o : Ordering) → is_lt (ordering_reverse o) ≡ is_gt o
turned_lower Less = refl
turned_lower Equal = refl
turned_lower Greater = refl

only_lower : (o : Ordering) → is_eq o ≡ false → is_gt o ≡ false → o ≡ Less
only_lower Less e h = refl
only_lower Equal e h = absurd (cc)
only_lower Greater e h = absurd (cc)

-- a key is above another that it is not below, and that is not the same
pub is_above : (k l : OwnerKey) → key_eq l k ≡ false → IsLeBy key_cmp k l → IsLtBy key_cmp k l
is_above k l e h = only_lower (key_cmp k l) (ap is_eq (key_total.antisymm k l) ∙ turned_equal (key_cmp l k) ∙ same_key l k ∙ e) h

pub is_not_same : (k l : OwnerKey) → IsLtBy key_cmp k l → key_eq l k ≡ false
is_not_same k l h = sym (same_key l k) ∙ ap is_eq (key_total.antisymm l k ∙ ap ordering_reverse h)

pub is_not_below : (k l : OwnerKey) → IsLeBy key_cmp k l → is_lt (key_cmp l k) ≡ false
is_not_below k l h = ap is_lt (key_total.antisymm l k) ∙ turned_lower (key_cmp k l) ∙ h

-- the order of holders is that of their records, then that of their owners, and then that of their places
first_not_above : (a b c : Ordering) → is_gt (ordering_then (ordering_then a b) c) ≡ false → is_gt a ≡ false
first_not_above Less b c h = refl
first_not_above Equal b c h = refl
first_not_above Greater b c h = h

second_not_above : (a b c : Ordering) → a ≡ Equal → is_gt (ordering_then (ordering_then a b) c) ≡ false → is_gt b ≡ false
second_not_above Less b c e h = absurd (cc)
second_not_above Equal Less c e h = refl
second_not_above Equal Equal c e h = refl
second_not_above Equal Greater c e h = h
second_not_above Greater b c e h = absurd (cc)

none_above : (a b c : Ordering) → is_gt a ≡ false → is_gt b ≡ false → is_gt c ≡ false → is_gt (ordering_then (ordering_then a b) c) ≡ false
none_above Less b c p q r = refl
none_above Equal Less c p q r = refl
none_above Equal Equal c p q r = r
none_above Equal Greater c p q r = q
none_above Greater b c p q r = p

second_below : (a b c : Ordering) → a ≡ Equal → b ≡ Less → ordering_then (ordering_then a b) c ≡ Less
second_below Less b c e h = refl
second_below Equal Less c e h = refl
second_below Equal Equal c e h = absurd (cc)
second_below Equal Greater c e h = absurd (cc)
second_below Greater b c e h = absurd (cc)

below_by_second : (a b c : Ordering) → a ≡ Equal → is_lt c ≡ false → ordering_then (ordering_then a b) c ≡ Less → b ≡ Less
below_by_second Less b c e h t = absurd (cc)
below_by_second Equal Less c e h t = refl
below_by_second Equal Equal c e h t = let no : is_lt c ≡ true = ap is_lt t in absurd (cc)
below_by_second Equal Greater c e h t = absurd (cc)
below_by_second Greater b c e h t = absurd (cc)

not_above_number : (m n : ℕ) → is_gt (nat_cmp m n) ≡ false → m ≤ n
not_above_number m n h = grind (arith, nat_tests, h)

least_number : (n : ℕ) → is_gt (nat_cmp 0 n) ≡ false
least_number n = grind (arith, nat_tests)

not_below_number : (m n : ℕ) → n ≤ m → is_lt (nat_cmp m n) ≡ false
not_below_number m n h = grind (arith, nat_tests, h)

same_number : (m n : ℕ) → m ≡ n → nat_cmp m n ≡ Equal
same_number m n e = ap (nat_cmp m) (sym e) ∙ tied_itself nat_cmp_total m

pub rec_not_above : (a b : Holder) → IsLeBy holder_cmp a b → a.0 ≤ b.0
rec_not_above a b h = not_above_number a.0 b.0 (first_not_above (nat_cmp a.0 b.0) (key_cmp a.1 b.1) (nat_cmp a.2 b.2) h)

pub owner_not_above : (a b : Holder) → IsLeBy holder_cmp a b → a.0 ≡ b.0 → IsLeBy key_cmp a.1 b.1
owner_not_above a b h e = second_not_above (nat_cmp a.0 b.0) (key_cmp a.1 b.1) (nat_cmp a.2 b.2) (same_number a.0 b.0 e) h

least_key : (k : OwnerKey) → IsLeBy key_cmp (0, 0, 0, 0) k
least_key k = go (nat_cmp 0 k.0) (nat_cmp 0 k.1) (nat_cmp 0 k.2) (nat_cmp 0 k.3) (least_number k.0) (least_number k.1) (least_number k.2) (least_number k.3)
  where
    go : (a b c d : Ordering) → is_gt a ≡ false → is_gt b ≡ false → is_gt c ≡ false → is_gt d ≡ false → is_gt (ordering_then (ordering_then (ordering_then a b) c) d) ≡ false
    go Less b c d p q r s = refl
    go Equal b c d p q r s = none_above b c d q r s
    go Greater b c d p q r s = p

-- nothing on a record comes before the least holder of it, nor an owner's before its first place
pub first_on_rec : (rec : ℕ) (key : OwnerKey) (place : ℕ) → IsLeBy holder_cmp (rec, (0, 0, 0, 0), 0) (rec, key, place)
first_on_rec rec key place =
    none_above (nat_cmp rec rec) (key_cmp (0, 0, 0, 0) key) (nat_cmp 0 place) (ap is_gt (tied_itself nat_cmp_total rec)) (least_key key) (least_number place)

pub first_of_owner : (rec : ℕ) (key : OwnerKey) (place : ℕ) → IsLeBy holder_cmp (rec, key, 0) (rec, key, place)
first_of_owner rec key place =
    none_above (nat_cmp rec rec) (key_cmp key key) (nat_cmp 0 place) (ap is_gt (tied_itself nat_cmp_total rec)) (ap is_gt (tied_itself key_total key)) (least_number place)

-- what comes after the last place of an owner on a record is what later owners have on it
pub later_owner : (rec : ℕ) (key other : OwnerKey) (last at : ℕ) → IsLtBy key_cmp key other → IsLtBy holder_cmp (rec, key, last) (rec, other, at)
later_owner rec key other last at h = second_below (nat_cmp rec rec) (key_cmp key other) (nat_cmp last at) (tied_itself nat_cmp_total rec) h

pub of_later_owner : (a b : Holder) → a.0 ≡ b.0 → b.2 ≤ a.2 → IsLtBy holder_cmp a b → IsLtBy key_cmp a.1 b.1
of_later_owner a b e h = below_by_second (nat_cmp a.0 b.0) (key_cmp a.1 b.1) (nat_cmp a.2 b.2) (same_number a.0 b.0 e) (not_below_number a.2 b.2 h)

-- an owner's place on a record is no later than the last one
last_of_owner : (rec : ℕ) (key : OwnerKey) (last place : ℕ) → place ≤ last → is_lt (holder_cmp (rec, key, last) (rec, key, place)) ≡ false
last_of_owner rec key last place h = by (nat_cmp rec rec) (key_cmp key key) (nat_cmp last place) (tied_itself nat_cmp_total rec) (tied_itself key_total key) (not_below_number last place h)
  where
    by : (a b c : Ordering) → a ≡ Equal → b ≡ Equal → is_lt c ≡ false → is_lt (ordering_then (ordering_then a b) c) ≡ false
    by Equal Equal c e f g = g
    by Equal Less c e f g = absurd (cc f)
    by Equal Greater c e f g = absurd (cc f)
    by Less b c e f g = absurd (cc e)
    by Greater b c e f g = absurd (cc e)

abbrev is_between : ℕ → OwnerKey → Holder → Bool
is_between rec key = range_contains holder_cmp (Included (rec, key, 0)) (Included (rec, key, 2 ^ 64 - 1))

at_between : (rec : ℕ) (key : OwnerKey) (place : ℕ) → place < 2 ^ 64 → is_between rec key (rec, key, place) ≡ true
at_between rec key place fits =
    let low : is_gt (holder_cmp (rec, key, 0) (rec, key, place)) ≡ false = first_of_owner rec key place in
    let high : is_lt (holder_cmp (rec, key, 2 ^ 64 - 1) (rec, key, place)) ≡ false = last_of_owner rec key (2 ^ 64 - 1) place (omega (arith, fits)) in
    ap₂ (λ a b. a && not b) (by (holder_cmp (rec, key, 0) (rec, key, place)) low) high
  where
    by : (o : Ordering) → is_gt o ≡ false → is_le o ≡ true
    by Less h = refl
    by Equal h = refl
    by Greater h = absurd (cc h)

module _ (rec : ℕ) (key : OwnerKey) (place : ℕ) (fits : place < 2 ^ 64) where
  same_one : (q : Holder) → is_eq (holder_cmp (rec, key, place) q) ≡ true → (is_between rec key q ≡ true) × ((q.2 == place) ≡ true)
  same_one q e =
      let all : ((rec == q.0) && key_eq key q.1 && (place == q.2)) ≡ true = sym (same_holder rec key place q.0 q.1 q.2) ∙ e in
      let two : ((rec == q.0) && key_eq key q.1) ≡ true = first_so ((rec == q.0) && key_eq key q.1) (place == q.2) all in
      let on : rec ≡ q.0 = eqb-true rec q.0 (first_so (rec == q.0) (key_eq key q.1) two) in
      let its : key ≡ q.1 = same_key_is key q.1 (second_so (rec == q.0) (key_eq key q.1) two) in
      let at : place ≡ q.2 = eqb-true place q.2 (second_so ((rec == q.0) && key_eq key q.1) (place == q.2) all) in
      (subst (λ h. is_between rec key h ≡ true) (λ i. (on i, its i, at i)) (at_between rec key place fits), grind (arith, nat_tests, at))

  found_between : (holders : List Holder) → list_any (λ q. is_eq (holder_cmp (rec, key, place) q)) holders ≡ true → list_any (λ k. k == place) (map (λ (h : Holder). h.2) (filter (is_between rec key) holders)) ≡ true
  found_between [] h = absurd (cc h)
  found_between (q ∷ holders) h = by (found_between holders) (is_eq (holder_cmp (rec, key, place) q)) refl h (is_between rec key q) refl
    where
      rest : List ℕ
      rest = map (λ (h : Holder). h.2) (filter (is_between rec key) holders)

      by : (list_any (λ q. is_eq (holder_cmp (rec, key, place) q)) holders ≡ true → list_any (λ k. k == place) rest ≡ true) → (b : Bool) → is_eq (holder_cmp (rec, key, place) q) ≡ b
          → (b || list_any (λ q. is_eq (holder_cmp (rec, key, place) q)) holders) ≡ true → (c : Bool) → is_between rec key q ≡ c → list_any (λ k. k == place) (map (λ (h : Holder). h.2) (if c then q ∷ filter (is_between rec key) holders else filter (is_between rec key) holders)) ≡ true
      by later true e h true f = ap (λ b. b || list_any (λ k. k == place) rest) (same_one q e).1
      by later true e h false f = let no : true ≡ false = sym (same_one q e).0 ∙ f in absurd (cc no)
      by later false e h false f = later h
      by later false e h true f = let found = later h in grind (arith, nat_tests, found)

-- the places of an owner's locks on a record are among those that are looked up
pub between_has : (set : BTreeSet Holder) (rec : ℕ) (key : OwnerKey) (place : ℕ) → place < 2 ^ 64 → contains holder_cmp set (rec, key, place) ≡ true → list_any (λ k. k == place) (places_between rec key set) ≡ true
between_has set rec key place fits h = found_between rec key place fits set.keys h
