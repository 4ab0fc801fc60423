-- Slots, and the places of the locks that pass a test.
use Rattle.std.proofs.Common.{◌≡◌, ℕ, zero, suc, ◌+◌, ◌<◌, ◌||◌, not, ◌∙◌, Bool, true, false, ◌==◌, List, [], ◌∷◌, ◌++◌, map, filter, fold, take, drop, set, Option, Some, None, get_or, length, if◌then◌else◌, is_some, refl, ap, sym, take-suc, arith}
use Rattle.std.specs.List.{cons_option}
use Rattle.std.specs.Option.{option_map_or}
use Rattle.std.proofs.lemmas.Bool.Decides.{nat_tests}
use Rattle.std.proofs.lemmas.List.{get_or_default}
use Rattle.std.proofs.lemmas.List.Edits.{map_over_more}
use Rattle.vp_model.specs.Types.{Owner, Lock}
use Rattle.vp_locks.specs.Places.{present_locks, lock_at, passes, places, revise_slot, if_kept}

map-append : (xs ys : List ℕ) → map suc (xs ++ ys) ≡ map suc xs ++ map suc ys
map-append [] ys = refl
map-append (x ∷ xs) ys = ap (λ l. suc x ∷ l) (map-append xs ys)

-- one more slot
pub places_more : (test : Lock → Bool) (slots : List (Option Lock)) (s : Option Lock) → places test (slots ++ s ∷ []) ≡ (if passes test s then places test slots ++ length slots ∷ [] else places test slots)
places_more test [] s = refl
places_more test (t ∷ slots) s =
    let rest = places_more test slots s in
    let joined = map-append (places test slots) (length slots ∷ []) in
    grind (arith, rest, joined)

pub present_more : (slots : List (Option Lock)) (s : Option Lock) → present_locks (slots ++ s ∷ []) ≡ present_locks slots ++ cons_option s []
present_more [] s = refl
present_more (None ∷ slots) s = present_more slots s
present_more (Some l ∷ slots) s = ap (λ ls. l ∷ ls) (present_more slots s)

-- the locks up to the next slot
pub present_next : (xs : List (Option Lock)) (i : ℕ) (x : Option Lock) → i < length xs → x ≡ get_or xs i x → present_locks (take (i + 1) xs) ≡ present_locks (take i xs) ++ cons_option x []
present_next xs i x within at =
    let next : i + 1 ≡ suc i = omega arith in
    ap (λ n. present_locks (take n xs)) next ∙ ap present_locks (take-suc xs i x within) ∙ present_more (take i xs) (get_or xs i x) ∙ ap (λ s. present_locks (take i xs) ++ cons_option s []) (sym at)

-- a filter of the places after the first one
filter_later : (p : ℕ → Bool) (ks : List ℕ) → filter p (map suc ks) ≡ map suc (filter (λ k. p (suc k)) ks)
filter_later p [] = refl
filter_later p (k ∷ ks) = let rest = filter_later p ks in grind (arith, rest)

later_others : (p : ℕ) (ks : List ℕ) → filter (λ k. not (k == suc p)) (map suc ks) ≡ map suc (filter (λ k. not (k == p)) ks)
later_others p [] = refl
later_others p (k ∷ ks) = let rest = later_others p ks in grind (arith, nat_tests, rest)

later_all : (ks : List ℕ) → filter (λ k. not (k == 0)) (map suc ks) ≡ map suc ks
later_all [] = refl
later_all (k ∷ ks) = let rest = later_all ks in grind (arith, nat_tests, rest)

-- the lock at a place is released
pub places_without : (test : Lock → Bool) (slots : List (Option Lock)) (p : ℕ) → places test (set slots p None) ≡ filter (λ k. not (k == p)) (places test slots)
places_without test [] p = refl
places_without test (s ∷ slots) zero = let all = later_all (places test slots) in grind (arith, nat_tests, all)
places_without test (s ∷ slots) (suc p) =
    let rest = places_without test slots p in
    let later = later_others p (places test slots) in
    grind (arith, nat_tests, rest, later)

-- the list of another key stays as it is
pub places_apart : (test : Lock → Bool) (slots : List (Option Lock)) (p : ℕ) → passes test (lock_at slots p) ≡ false → places test (set slots p None) ≡ places test slots
places_apart test [] p h = refl
places_apart test (s ∷ slots) zero h = grind (arith, h)
places_apart test (s ∷ slots) (suc p) h = let rest = places_apart test slots p h in grind (arith, rest)

-- of the places, those that have a lock
abbrev taken : List (Option Lock) → List ℕ → List ℕ
taken slots ks = filter (λ k. is_some (lock_at slots k)) ks

later_taken : (s : Option Lock) (slots : List (Option Lock)) (ks : List ℕ) → taken (s ∷ slots) (map suc ks) ≡ map suc (taken slots ks)
later_taken s slots ks = filter_later (λ k. is_some (lock_at (s ∷ slots) k)) ks

module _ (t : Lock → Bool) (l : Lock) (ks : List ℕ) (new : List (Option Lock)) (rest : taken new ks ≡ places t new) where
  stays_at : taken (Some l ∷ new) (if t l then 0 ∷ map suc ks else map suc ks) ≡ places t (Some l ∷ new)
  stays_at =
      let later = later_taken (Some l) new ks ∙ ap (map suc) rest in
      elim (t l) as (λ b. taken (Some l ∷ new) (if b then 0 ∷ map suc ks else map suc ks) ≡ (if b then 0 ∷ map suc (places t new) else map suc (places t new)))
      [ true ↦ ap (λ ps. 0 ∷ ps) later | false ↦ later ]

  goes_at : taken (None ∷ new) (if t l then 0 ∷ map suc ks else map suc ks) ≡ places t (None ∷ new)
  goes_at =
      let later = later_taken None new ks ∙ ap (map suc) rest in
      elim (t l) as (λ b. taken (None ∷ new) (if b then 0 ∷ map suc ks else map suc ks) ≡ map suc (places t new)) [ true ↦ later | false ↦ later ]

-- each lock of the places changes, or is released
abbrev pub revised_where : (Lock → Bool) → (Lock → Option Lock) → Option Lock → Option Lock
revised_where test f s = option_map_or (λ lock. if test lock then f lock else Some lock) s None

module _ (f : Lock → Option Lock) where
  pub later_one : (s : Option Lock) (slots : List (Option Lock)) (k : ℕ) → revise_slot f (s ∷ slots) (suc k) ≡ s ∷ revise_slot f slots k
  later_one s slots k =
      elim (lock_at slots k) as (λ o. option_map_or (λ lock. set (s ∷ slots) (suc k) (f lock)) o (s ∷ slots) ≡ s ∷ option_map_or (λ lock. set slots k (f lock)) o slots)
      [ None ↦ refl | Some l ↦ refl ]

  later_revised : (s : Option Lock) (slots : List (Option Lock)) (ks : List ℕ) → fold (revise_slot f) (s ∷ slots) (map suc ks) ≡ s ∷ fold (revise_slot f) slots ks
  later_revised s slots [] = refl
  later_revised s slots (k ∷ ks) = ap (λ l. fold (revise_slot f) l (map suc ks)) (later_one s slots k) ∙ later_revised s (revise_slot f slots k) ks

  pub revised_each : (test : Lock → Bool) (slots : List (Option Lock)) → fold (revise_slot f) slots (places test slots) ≡ map (revised_where test f) slots
  revised_each test [] = refl
  revised_each test (None ∷ slots) = later_revised None slots (places test slots) ∙ ap (λ l. None ∷ l) (revised_each test slots)
  revised_each test (Some l ∷ slots) =
      elim (test l) as (λ b. fold (revise_slot f) (Some l ∷ slots) (if b then 0 ∷ map suc (places test slots) else map suc (places test slots)) ≡ (if b then f l else Some l) ∷ map (revised_where test f) slots) [
        | true ↦ later_revised (f l) slots (places test slots) ∙ ap (λ ls. f l ∷ ls) (revised_each test slots)
        | false ↦ later_revised (Some l) slots (places test slots) ∙ ap (λ ls. Some l ∷ ls) (revised_each test slots)
      ]

  pub revised_same : (slots : List (Option Lock)) (p : ℕ) → option_map_or f (lock_at slots p) None ≡ lock_at slots p → revise_slot f slots p ≡ slots
  revised_same [] p h = refl
  revised_same (None ∷ slots) zero h = refl
  revised_same (Some l ∷ slots) zero h = ap (λ s. s ∷ slots) h
  revised_same (s ∷ slots) (suc p) h = later_one s slots p ∙ ap (λ l. s ∷ l) (revised_same slots p h)

  -- the slots after one of them has changed
  pub revised_at_place : (slots : List (Option Lock)) (k place : ℕ) → lock_at (revise_slot f slots k) place ≡ (if place == k then option_map_or f (lock_at slots k) None else lock_at slots place)
  revised_at_place [] k place = by (place == k)
    where
      by : (b : Bool) → lock_at [] place ≡ (if b then option_map_or f (lock_at [] k) None else lock_at [] place)
      by true = refl
      by false = refl
  revised_at_place (None ∷ slots) zero zero = refl
  revised_at_place (Some l ∷ slots) zero zero = refl
  revised_at_place (None ∷ slots) zero (suc place) = grind (arith, nat_tests)
  revised_at_place (Some l ∷ slots) zero (suc place) = grind (arith, nat_tests)
  revised_at_place (s ∷ slots) (suc k) zero = ap (λ xs. lock_at xs 0) (later_one s slots k) ∙ grind (arith, nat_tests)
  revised_at_place (s ∷ slots) (suc k) (suc place) =
      let rest = revised_at_place slots k place in
      let later = ap (λ xs. lock_at xs (suc place)) (later_one s slots k) in
      grind (arith, nat_tests, rest, later)

  -- slot by slot
  pub revised_at : (slots : List (Option Lock)) (i : ℕ) → i < length slots → revise_slot f slots i ≡ set slots i (option_map_or f (get_or slots i None) None)
  revised_at [] i h = absurd (omega (arith, h))
  revised_at (None ∷ slots) zero h = refl
  revised_at (Some l ∷ slots) zero h = refl
  revised_at (s ∷ slots) (suc i) h = later_one s slots i ∙ ap (λ l. s ∷ l) (revised_at slots i (omega (arith, h)))

module _ (test : Lock → Bool) where
  module _ (g : Lock → Lock) where
    pub present_changed : (slots : List (Option Lock)) → present_locks (map (revised_where test (λ lock. Some (g lock))) slots) ≡ map (λ lock. if test lock then g lock else lock) (present_locks slots)
    present_changed [] = refl
    present_changed (None ∷ slots) = present_changed slots
    present_changed (Some l ∷ slots) = let rest = present_changed slots in grind (arith, rest)

    -- a test of the changed locks is another test of the locks before
    pub places_changed : (t u : Lock → Bool) → ((lock : Lock) → t (if test lock then g lock else lock) ≡ u lock) → (slots : List (Option Lock)) → places t (map (revised_where test (λ lock. Some (g lock))) slots) ≡ places u slots
    places_changed t u same [] = refl
    places_changed t u same (None ∷ slots) = ap (map suc) (places_changed t u same slots)
    places_changed t u same (Some l ∷ slots) = let rest = places_changed t u same slots in grind (arith, rest, same l)

  module _ (keeps : Lock → Bool) where
    pub present_kept : (slots : List (Option Lock)) → present_locks (map (revised_where test (if_kept keeps)) slots) ≡ filter (λ lock. not (test lock) || keeps lock) (present_locks slots)
    present_kept [] = refl
    present_kept (None ∷ slots) = present_kept slots
    present_kept (Some l ∷ slots) = let rest = present_kept slots in grind (arith, rest)

    -- what is left of a list are the places that still have a lock
    pub places_kept : (t : Lock → Bool) (slots : List (Option Lock)) → filter (λ k. is_some (lock_at (map (revised_where test (if_kept keeps)) slots) k)) (places t slots) ≡ places t (map (revised_where test (if_kept keeps)) slots)
    places_kept t [] = refl
    places_kept t (None ∷ slots) = later_taken None (map (revised_where test (if_kept keeps)) slots) (places t slots) ∙ ap (map suc) (places_kept t slots)
    places_kept t (Some l ∷ slots) =
        let rest = places_kept t slots in
        let new = map (revised_where test (if_kept keeps)) slots in
        elim (test l) as (λ b. taken ((if b then if_kept keeps l else Some l) ∷ new) (places t (Some l ∷ slots)) ≡ places t ((if b then if_kept keeps l else Some l) ∷ new)) [
          | true ↦ elim (keeps l) as (λ c. taken ((if c then Some l else None) ∷ new) (places t (Some l ∷ slots)) ≡ places t ((if c then Some l else None) ∷ new))
              [ true ↦ stays_at t l (places t slots) new rest | false ↦ goes_at t l (places t slots) new rest ]
          | false ↦ stays_at t l (places t slots) new rest
        ]

    -- a list in which no lock passes the test stays as it is
    pub places_untouched : (t : Lock → Bool) → ((lock : Lock) → t lock ≡ true → test lock ≡ false) → (slots : List (Option Lock)) → places t (map (revised_where test (if_kept keeps)) slots) ≡ places t slots
    places_untouched t apart [] = refl
    places_untouched t apart (None ∷ slots) = ap (map suc) (places_untouched t apart slots)
    places_untouched t apart (Some l ∷ slots) = let rest = places_untouched t apart slots in grind (arith, rest, apart l)

-- what is released at one place
module _ (keeps : Lock → Bool) (slots : List (Option Lock)) (p : ℕ) where
  pub swept_none : option_map_or (λ (lock : Lock). if keeps lock then None else Some lock.owner) (lock_at slots p) None ≡ None → revise_slot (if_kept keeps) slots p ≡ slots
  swept_none h = revised_same (if_kept keeps) slots p (by (lock_at slots p) h)
    where
      by : (s : Option Lock) → option_map_or (λ (lock : Lock). if keeps lock then None else Some lock.owner) s None ≡ None → option_map_or (if_kept keeps) s None ≡ s
      by None h = refl
      by (Some l) h = grind (arith, h)

  pub swept_some : (owner : Owner) → option_map_or (λ (lock : Lock). if keeps lock then None else Some lock.owner) (lock_at slots p) None ≡ Some owner
      → (l : Lock) × (lock_at slots p ≡ Some l) × (l.owner ≡ owner) × (revise_slot (if_kept keeps) slots p ≡ set slots p None)
  swept_some owner h = by (lock_at slots p) refl h
    where
      by : (s : Option Lock) → lock_at slots p ≡ s → option_map_or (λ (lock : Lock). if keeps lock then None else Some lock.owner) s None ≡ Some owner
          → (l : Lock) × (lock_at slots p ≡ Some l) × (l.owner ≡ owner) × (revise_slot (if_kept keeps) slots p ≡ set slots p None)
      by None e h = absurd (cc h)
      by (Some l) e h =
          let is : l.owner ≡ owner = grind (arith, h) in
          let goes : if_kept keeps l ≡ None = grind (arith, h) in
          (l, e, is, ap (λ s. option_map_or (λ lock. set slots p (if_kept keeps lock)) s slots) e ∙ ap (set slots p) goes)

-- what is released at all places
abbrev pub if_kept_there : (Lock → Bool) → Option Lock → Option Lock
if_kept_there keeps s = option_map_or (if_kept keeps) s None

module _ (keeps : Lock → Bool) where
  pub present_all : (slots : List (Option Lock)) → present_locks (map (if_kept_there keeps) slots) ≡ filter keeps (present_locks slots)
  present_all [] = refl
  present_all (None ∷ slots) = present_all slots
  present_all (Some l ∷ slots) = let rest = present_all slots in grind (arith, rest)

  pub swept_more : (xs ys : List (Option Lock)) (i : ℕ) → i < length xs → length ys ≡ length xs → ys ≡ map (if_kept_there keeps) (take i xs) ++ drop i xs
      → revise_slot (if_kept keeps) ys i ≡ map (if_kept_there keeps) (take (i + 1) xs) ++ drop (i + 1) xs
  swept_more xs ys i within long e =
      let inside : i < length ys = omega (arith, within, long) in
      revised_at (if_kept keeps) ys i inside ∙ map_over_more (if_kept_there keeps) xs ys i (get_or ys i None) within e (get_or_default ys i None (get_or ys i None) inside)
