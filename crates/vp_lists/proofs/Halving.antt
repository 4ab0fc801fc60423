-- Items whose numbers ascend: the place of a number, and the list after a change there.
use Rattle.std.proofs.Common.{◌≡◌, ◌≢◌, ℕ, zero, suc, ◌+◌, ◌-◌, ◌<◌, ◌≤◌, Bool, true, false, cond, not, List, [], ◌∷◌, length, get_or, set, map, Some, None, Result, Ok, Err, refl, sym, ap, if◌then◌else◌, arith}
use Rattle.std.specs.Prelude.{◌==◌, nat_lt, slice_index, filter}
use Rattle.std.specs.List.{All, AllPairs, insert, remove, position, position_or_len}
use Rattle.std.specs.List.Sorted.{IsStrictlyIncreasing, IsSearchInRange, IsBinarySearchResult, IsNonDecreasingBy}
use Rattle.std.specs.Ordering.{nat_cmp, ordering_index}
use Rattle.std.specs.Result.{result_ok}
use Rattle.std.proofs.lemmas.Bool.{eqb-true}
use Rattle.std.proofs.lemmas.Bool.Decides.{nat_tests}
use Rattle.std.proofs.lemmas.Cmp.{ranked}
use Rattle.std.proofs.lemmas.List.{length-map, get_or-map}
use Rattle.std.proofs.lemmas.List.Elements.{All-cons, All-tail}
use Rattle.std.proofs.lemmas.List.Kept.{AllPairs-cons, AllPairs-filter}
use Rattle.std.proofs.lemmas.List.Quantifiers.{position-Some}
use Rattle.vp_model.specs.Words.{put}
use Rattle.vp_lists.specs.Ascending.{HasNumberAt, BelongsAt, IsPlace}

module _ {A : Type 0} (number : A → ℕ) where
  number_at : (xs : List A) (i : ℕ) (d : A) → i < length xs → slice_index (map number xs) i ≡ number (get_or xs i d)
  number_at xs i d lt = get_or-map number xs i d 0 lt

  -- each number is below the next one
  pub ascend_from_adjacent : (xs : List A) → ((k : ℕ) (d : A) → k + 1 < length xs → true ≡ nat_lt (number (get_or xs k d)) (number (get_or xs (k + 1) d))) → IsStrictlyIncreasing (map number xs)
  ascend_from_adjacent [] h k lt = absurd (omega arith)
  ascend_from_adjacent (x ∷ xs) h k lt =
      let within : k + 1 < length (x ∷ xs) = rw (sym (length-map (x ∷ xs) number)) lt in
      let below = h k x within in
      let one = number_at (x ∷ xs) k x (omega arith) in
      let next = number_at (x ∷ xs) (k + 1) x within in
      grind (arith, nat_tests, below, one, next)

module _ {A : Type 0} (number : A → ℕ) (xs : List A) (ascend : IsStrictlyIncreasing (map number xs)) where
  below_next : (k : ℕ) (d : A) → k + 1 < length xs → number (get_or xs k d) < number (get_or xs (k + 1) d)
  below_next k d lt =
      let within : k + 1 < length (map number xs) = rw (length-map xs number) lt in
      let below = ascend k within in
      let one = number_at number xs k d (omega arith) in
      let next = number_at number xs (k + 1) d lt in
      omega (arith, below, one, next)

  below_later : (i n : ℕ) (d : A) → i + n + 1 < length xs → number (get_or xs i d) < number (get_or xs (i + n + 1) d)
  below_later i zero d lt =
      let e : i + 0 + 1 ≡ i + 1 = omega arith in
      rw e (below_next i d (omega arith))
  below_later i (suc n) d lt =
      let rest = below_later i n d (omega arith) in
      let next = below_next (i + n + 1) d (omega arith) in
      let e : i + suc n + 1 ≡ i + n + 1 + 1 = omega arith in
      rw e (omega (arith, rest, next))

  pub ascends : (i j : ℕ) (d : A) → i < j → j < length xs → number (get_or xs i d) < number (get_or xs j d)
  ascends i j d lt within =
      let e : j ≡ i + (j - i - 1) + 1 = omega arith in
      rw e (below_later i (j - i - 1) d (omega arith))

  comparisons_rise : (n : ℕ) → IsNonDecreasingBy (λ x. ordering_index (nat_cmp (number x) n)) xs
  comparisons_rise n i j d le within =
      let below : number (get_or xs i d) ≤ number (get_or xs j d) = grind (arith, ascends i j d, λ (same : i ≡ j). ap (λ k. number (get_or xs k d)) same) in
      grind (arith, nat_tests)

  pub others_differ : (n at : ℕ) (d : A) → at < length xs → number (get_or xs at d) ≡ n → (k : ℕ) → k < length xs → k ≢ at → (number (get_or xs k d) == n) ≡ false
  others_differ n at d within here k lt other = grind (arith, nat_tests, ascends k at d, ascends at k d, here, lt, within, other)

  -- a search by halving finds the place of the number
  pub searched : (n : ℕ) (r : Result ℕ ℕ) → IsSearchInRange r (length xs) → IsBinarySearchResult (λ x. nat_cmp (number x) n) xs r → IsPlace number n xs r
  searched n (Ok at) within equal = record { within = within; is = λ d. ranked _ n _ (sym (equal d)) }
  searched n (Err at) within parted =
      let apart = parted (comparisons_rise n) in
      record {
        within = within;
        below = λ k d lt. ranked _ n _ (sym (apart.0 k d (omega arith) lt));
        above = λ k d le lt. ranked _ n _ (sym (apart.1 k d le lt));
      }

module _ {A : Type 0} (test : A → Bool) where
  place_is : (xs : List A) (i : ℕ) (d : A) → i < length xs → test (get_or xs i d) ≡ true → ((k : ℕ) → k < i → test (get_or xs k d) ≡ false) → position_or_len test xs ≡ i
  place_is [] i d within here before = absurd (omega arith)
  place_is (x ∷ xs) zero d within here before = rw here refl
  place_is (x ∷ xs) (suc i) d within here before =
      let first : test x ≡ false = before 0 (omega arith) in
      let rest : position_or_len test xs ≡ i = place_is xs i d (omega arith) here (λ k lt. before (suc k) (omega arith)) in
      rw first (omega (arith, rest))

  position_is : (xs : List A) (i : ℕ) (d : A) → i < length xs → test (get_or xs i d) ≡ true → ((k : ℕ) → k < i → test (get_or xs k d) ≡ false) → Some i ≡ position test xs
  position_is xs i d within here before = let place = place_is xs i d within here before in rw place (grind (arith, nat_tests, within))

  past : (xs : List A) (d : A) → ((k : ℕ) → k < length xs → test (get_or xs k d) ≡ false) → position_or_len test xs ≡ length xs
  past [] d none = refl
  past (x ∷ xs) d none =
      let first : test x ≡ false = none 0 (omega arith) in
      let rest : position_or_len test xs ≡ length xs = past xs d (λ k lt. none (suc k) (omega arith)) in
      rw first (omega (arith, rest))

  position_none : (xs : List A) (d : A) → ((k : ℕ) → k < length xs → test (get_or xs k d) ≡ false) → None ≡ position test xs
  position_none xs d none = let place = past xs d none in rw place (grind (arith, nat_tests))

  module _ (f : A → A) where
    abbrev changes : A → A
    changes x = cond (test x) (f x) x

    none_changed : (xs : List A) (d : A) → ((k : ℕ) → k < length xs → test (get_or xs k d) ≡ false) → map changes xs ≡ xs
    none_changed [] d none = refl
    none_changed (x ∷ xs) d none =
        let first : test x ≡ false = none 0 (omega arith) in
        rw first (ap (λ ys. x ∷ ys) (none_changed xs d (λ k lt. none (suc k) (omega arith))))

    -- one item alone passes the test
    pub one_changed : (xs : List A) (i : ℕ) (d : A) → i < length xs → test (get_or xs i d) ≡ true → ((k : ℕ) → k < length xs → k ≢ i → test (get_or xs k d) ≡ false) → map changes xs ≡ set xs i (f (get_or xs i d))
    one_changed [] i d within here others = absurd (omega arith)
    one_changed (x ∷ xs) zero d within here others =
        rw here (ap (λ ys. f x ∷ ys) (none_changed xs d (λ k lt. others (suc k) (omega arith) (λ q. omega arith))))
    one_changed (x ∷ xs) (suc i) d within here others =
        let first : test x ≡ false = others 0 (omega arith) (λ q. omega arith) in
        rw first (ap (λ ys. x ∷ ys) (one_changed xs i d (omega arith) here (λ k lt n. others (suc k) (omega arith) (λ q. n (omega arith)))))

    kept_past : (xs : List A) → length xs ≤ position_or_len test xs → map changes xs ≡ xs
    kept_past [] l = refl
    kept_past (x ∷ xs) l =
        let n = position_or_len test xs in
        let P : Bool → Type 0 = λ b. suc (length xs) ≤ cond (not b) (1 + n) 0 → cond b (f x) x ∷ map changes xs ≡ x ∷ xs in
        let rest = kept_past xs in
        elim (test x) as P [ true ↦ (λ h. absurd (omega arith)) | false ↦ (λ h. ap (λ ys. x ∷ ys) (rest (omega arith))) ] l

    -- no item passes the test
    pub none_passes : (xs : List A) → position test xs ≡ None → map changes xs ≡ xs
    none_passes xs h = kept_past xs (grind (arith, nat_tests, h))

  none_left_out : (xs : List A) (d : A) → ((k : ℕ) → k < length xs → test (get_or xs k d) ≡ false) → filter (λ x. not (test x)) xs ≡ xs
  none_left_out [] d none = refl
  none_left_out (x ∷ xs) d none =
      let first : test x ≡ false = none 0 (omega arith) in
      rw first (ap (λ ys. x ∷ ys) (none_left_out xs d (λ k lt. none (suc k) (omega arith))))

  one_left_out : (xs : List A) (i : ℕ) (d : A) → i < length xs → test (get_or xs i d) ≡ true → ((k : ℕ) → k < length xs → k ≢ i → test (get_or xs k d) ≡ false) → filter (λ x. not (test x)) xs ≡ remove xs i
  one_left_out [] i d within here others = absurd (omega arith)
  one_left_out (x ∷ xs) zero d within here others =
      rw here (none_left_out xs d (λ k lt. others (suc k) (omega arith) (λ q. omega arith)))
  one_left_out (x ∷ xs) (suc i) d within here others =
      let first : test x ≡ false = others 0 (omega arith) (λ q. omega arith) in
      rw first (ap (λ ys. x ∷ ys) (one_left_out xs i d (omega arith) here (λ k lt n. others (suc k) (omega arith) (λ q. n (omega arith)))))

  none_past : (xs : List A) → length xs ≤ position_or_len test xs → filter (λ x. not (test x)) xs ≡ xs
  none_past [] l = refl
  none_past (x ∷ xs) l =
      let n = position_or_len test xs in
      let P : Bool → Type 0 = λ b. suc (length xs) ≤ cond (not b) (1 + n) 0 → cond (not b) (x ∷ filter (λ x. not (test x)) xs) (filter (λ x. not (test x)) xs) ≡ x ∷ xs in
      let rest = none_past xs in
      elim (test x) as P [ true ↦ (λ h. absurd (omega arith)) | false ↦ (λ h. ap (λ ys. x ∷ ys) (rest (omega arith))) ] l

module _ {A : Type 0} (number : A → ℕ) (xs : List A) (ascend : IsStrictlyIncreasing (map number xs)) (n : ℕ) where
  position_at : (d : A) (r : Result ℕ ℕ) → IsPlace number n xs r → result_ok r ≡ position (λ x. number x == n) xs
  position_at d (Ok at) place =
      let here = place.is d in
      position_is (λ x. number x == n) xs at d place.within (grind (arith, nat_tests, here)) (λ k lt. others_differ number xs ascend n at d place.within here k (omega (arith, place.within, lt)) (λ q. omega (arith, q, lt)))
  position_at d (Err at) place =
      position_none (λ x. number x == n) xs d (λ k lt. grind (arith, nat_tests, place.below k d, place.above k d, lt))

  -- without the one item that has the number
  pub without_one : (i : ℕ) (d : A) → position (λ x. number x == n) xs ≡ Some i → filter (λ x. not (number x == n)) xs ≡ remove xs i
  without_one i d there =
      let place = position-Some (λ x. number x == n) xs i d there in
      one_left_out (λ x. number x == n) xs i d place.0 place.1 (others_differ number xs ascend n i d place.0 (eqb-true _ _ place.1))

module _ {A : Type 0} (number : A → ℕ) where
  pub place_found : (xs : List A) → IsStrictlyIncreasing (map number xs) → (n : ℕ) (r : Result ℕ ℕ) → IsPlace number n xs r → result_ok r ≡ position (λ x. number x == n) xs
  place_found [] ascend n (Ok at) place = absurd (omega (arith, place.within))
  place_found [] ascend n (Err at) place = refl
  place_found (x ∷ xs) ascend n r place = position_at number (x ∷ xs) ascend n x r place

  pub without_none : (xs : List A) (n : ℕ) → position (λ x. number x == n) xs ≡ None → xs ≡ filter (λ x. not (number x == n)) xs
  without_none xs n there = sym (none_past (λ x. number x == n) xs (grind (arith, nat_tests, there)))

  -- the same of items, each with all later ones
  pub pairs_ascend : (xs : List A) → IsStrictlyIncreasing (map number xs) → AllPairs (λ a b. number a < number b) xs
  pairs_ascend xs ascend = λ i j d lt within. ascends number xs ascend i j d lt within

  pub ascend_from_pairs : (xs : List A) → AllPairs (λ a b. number a < number b) xs → IsStrictlyIncreasing (map number xs)
  ascend_from_pairs [] h k lt = absurd (omega arith)
  ascend_from_pairs (x ∷ xs) h k lt =
      let within : k + 1 < length (x ∷ xs) = rw (sym (length-map (x ∷ xs) number)) lt in
      let below = h k (k + 1) x (omega arith) within in
      let one = number_at number (x ∷ xs) k x (omega arith) in
      let next = number_at number (x ∷ xs) (k + 1) x within in
      omega (arith, below, one, next)

  pub filter_ascends : (p : A → Bool) (xs : List A) → IsStrictlyIncreasing (map number xs) → IsStrictlyIncreasing (map number (filter p xs))
  filter_ascends p xs ascend = ascend_from_pairs (filter p xs) (AllPairs-filter (λ a b. number a < number b) p xs (pairs_ascend xs ascend))

choice : {A : Type 0} (P : A → Type 0) (b c : Bool) (x y z : A) → (b ≡ true → P x) → (b ≡ false → c ≡ true → P y) → (b ≡ false → c ≡ false → P z) → P (if b then x else (if c then y else z))
choice P true c x y z f g h = f refl
choice P false true x y z f g h = g refl refl
choice P false false x y z f g h = h refl refl

-- an item is put in its place
module _ {A : Type 0} (number : A → ℕ) (x : A) where
  abbrev placed : List A → List A
  placed xs = put (λ a b. number a == number b) (λ a b. nat_lt (number a) (number b)) x xs

  pub put_over : (xs : List A) (i : ℕ) (d : A) → i < length xs → number (get_or xs i d) ≡ number x → ((k : ℕ) → k < i → number (get_or xs k d) < number x) → placed xs ≡ set xs i x
  put_over [] i d within here below = absurd (omega arith)
  put_over (y ∷ ys) zero d within here below =
      let same : (number x == number y) ≡ true = grind (arith, nat_tests, here) in
      rw same refl
  put_over (y ∷ ys) (suc i) d within here below =
      let low : number y < number x = below 0 (omega arith) in
      let other : (number x == number y) ≡ false = grind (arith, nat_tests, low) in
      let after : nat_lt (number x) (number y) ≡ false = grind (arith, nat_tests, low) in
      rw (other, after) (ap (λ zs. y ∷ zs) (put_over ys i d (omega arith) here (λ k lt. below (suc k) (omega arith))))

  pub put_between : (xs : List A) (i : ℕ) (d : A) → i ≤ length xs → ((k : ℕ) → k < i → number (get_or xs k d) < number x) → ((k : ℕ) → i ≤ k → k < length xs → number x < number (get_or xs k d)) → placed xs ≡ insert xs i x
  put_between [] zero d within below above = refl
  put_between [] (suc i) d within below above = absurd (omega arith)
  put_between (y ∷ ys) zero d within below above =
      let high : number x < number y = above 0 (omega arith) (omega arith) in
      let other : (number x == number y) ≡ false = grind (arith, nat_tests, high) in
      let before : nat_lt (number x) (number y) ≡ true = grind (arith, nat_tests, high) in
      rw (other, before) refl
  put_between (y ∷ ys) (suc i) d within below above =
      let low : number y < number x = below 0 (omega arith) in
      let other : (number x == number y) ≡ false = grind (arith, nat_tests, low) in
      let after : nat_lt (number x) (number y) ≡ false = grind (arith, nat_tests, low) in
      rw (other, after) (ap (λ zs. y ∷ zs) (put_between ys i d (omega arith) (λ k lt. below (suc k) (omega arith)) (λ k le lt. above (suc k) (omega arith) (omega arith))))

  put_above : (m : ℕ) (xs : List A) → m < number x → All (λ b. m < number b) xs → All (λ b. m < number b) (placed xs)
  put_above m [] l h = All-cons (λ b. m < number b) x [] l h
  put_above m (a ∷ xs) l h =
      let rest = All-tail (λ b. m < number b) a xs h in
      let here : m < number a = h 0 a (omega arith) in
      choice (All (λ b. m < number b)) (number x == number a) (nat_lt (number x) (number a)) _ _ _
      (λ e. All-cons (λ b. m < number b) x xs l rest)
      (λ d e. All-cons (λ b. m < number b) x (a ∷ xs) l h)
      (λ d e. All-cons (λ b. m < number b) a (placed xs) here (put_above m xs l rest))

  -- items that ascend still do so
  pub put_ascends : (xs : List A) → AllPairs (λ a b. number a < number b) xs → AllPairs (λ a b. number a < number b) (placed xs)
  put_ascends [] h = AllPairs-cons (λ a b. number a < number b) x [] (λ k d l. absurd (omega (arith, l))) h
  put_ascends (a ∷ xs) h =
      let above : All (λ b. number a < number b) xs = λ k d l. h 0 (suc k) d (omega arith) (omega (arith, l)) in
      let rest : AllPairs (λ a b. number a < number b) xs = λ i j d b l. h (suc i) (suc j) d (omega (arith, b)) (omega (arith, l)) in
      choice (AllPairs (λ a b. number a < number b)) (number x == number a) (nat_lt (number x) (number a)) _ _ _
      (λ e. AllPairs-cons (λ a b. number a < number b) x xs (λ k d l. let u = above k d l in let same : number x ≡ number a = grind (arith, nat_tests, e) in omega (arith, u, same)) rest)
      (λ d e. let less : number x < number a = grind (arith, nat_tests, e) in
      AllPairs-cons (λ a b. number a < number b) x (a ∷ xs) (All-cons (λ b. number x < number b) a xs less (λ k y l. let u = above k y l in omega (arith, u, less))) h)
      (λ d e. let more : number a < number x = grind (arith, nat_tests, d, e) in
      AllPairs-cons (λ a b. number a < number b) a (placed xs) (put_above (number a) xs more above) (put_ascends xs rest))

-- an item takes the place of the one that has its number, or of none
module _ {A : Type 0} (number : A → ℕ) (x : A) (xs : List A) (ascend : IsStrictlyIncreasing (map number xs)) where
  pub put_at_place : (i : ℕ) → HasNumberAt number (number x) xs i → placed number x xs ≡ set xs i x
  put_at_place i place = put_over number x xs i x place.within (place.is x) (λ k lt. let below = ascends number xs ascend k i x lt place.within in let here = place.is x in omega (arith, below, here))

  pub put_where_it_belongs : (i : ℕ) → BelongsAt number (number x) xs i → placed number x xs ≡ insert xs i x
  put_where_it_belongs i place = put_between number x xs i x place.within (λ k lt. place.below k x lt) (λ k le lt. place.above k x le lt)

  pub ascend_with : IsStrictlyIncreasing (map number (placed number x xs))
  ascend_with = ascend_from_pairs number _ (put_ascends number x xs (pairs_ascend number xs ascend))
