-- The locks of the records stay listed right, whatever happens in the slots.
use Rattle.std.proofs.Common.{◌≡◌, ℕ, zero, suc, nat_eq, cond, ◌<◌, ◌^◌, ◌&&◌, ◌||◌, ◌∙◌, Bool, true, false, true≢false, ◌==◌, List, [], ◌∷◌, ◌++◌, map, set, Option, Some, None, length, if◌then◌else◌, refl, ap, sym, arith}
use Rattle.std.specs.BTreeSet.{BTreeSet, contains}
use Rattle.std.specs.List.{list_any}
use Rattle.std.specs.Option.{option_map_or}
use Rattle.std.specs.Ordering.{is_eq}
use Rattle.std.specs.declared.vec.Vec.{Vec}
use Rattle.std.proofs.lemmas.Bool.Decides.{nat_tests}
use Rattle.indexmap.specs.IndexMap.{IndexMap}
use Rattle.vp_model.specs.Types.{Owner, Lock}
use Rattle.vp_model.specs.Locks.{raised}
use Rattle.vp_model.specs.Words.{same_owner}
use Rattle.vp_locks.specs.Holders.{HasLess, HasMore, HasSame, holder_of, places_between}
use Rattle.vp_locks.specs.Index.{AreHolders, AreListed, KeepsAll, exclusive_on, on_rec, owned_by, places_of}
use Rattle.vp_locks.specs.Keys.{Holder, OwnerKey, holder_cmp, key_eq, owner_key}
use Rattle.vp_locks.specs.Places.{lock_at, passes}
use Rattle.vp_locks.proofs.InSlots.{revised_where}
use Rattle.vp_locks.proofs.Indexes.{all_raised, key_same, raise}
use Rattle.vp_locks.proofs.Ordered.{between_has, same_holder}

-- ---- one slot

none_beyond : (slots : List (Option Lock)) → lock_at slots (length slots) ≡ None
none_beyond [] = refl
none_beyond (s ∷ slots) = none_beyond slots

one_more : (slots : List (Option Lock)) (s : Option Lock) (place : ℕ) → lock_at (slots ++ s ∷ []) place ≡ (if place == length slots then s else lock_at slots place)
one_more [] s zero = refl
one_more [] s (suc place) = grind (arith, nat_tests)
one_more (t ∷ slots) s zero = grind (arith, nat_tests)
one_more (t ∷ slots) s (suc place) = let rest = one_more slots s place in grind (arith, nat_tests, rest)

one_less : (slots : List (Option Lock)) (gone place : ℕ) → lock_at (set slots gone None) place ≡ (if place == gone then None else lock_at slots place)
one_less [] gone place = by (place == gone)
  where
    by : (b : Bool) → lock_at [] place ≡ (if b then None else lock_at [] place)
    by true = refl
    by false = refl
one_less (s ∷ slots) zero zero = refl
one_less (s ∷ slots) zero (suc place) = grind (arith, nat_tests)
one_less (s ∷ slots) (suc gone) zero = grind (arith, nat_tests)
one_less (s ∷ slots) (suc gone) (suc place) = let rest = one_less slots gone place in grind (arith, nat_tests, rest)

module _ (f : Lock → Option Lock) where
  revised_in : (slots : List (Option Lock)) (place : ℕ) → lock_at (map (revised_where (λ _. true) f) slots) place ≡ option_map_or f (lock_at slots place) None
  revised_in [] place = refl
  revised_in (None ∷ slots) zero = refl
  revised_in (Some l ∷ slots) zero = refl
  revised_in (s ∷ slots) (suc place) = revised_in slots place

pub is_within : (slots : List (Option Lock)) (place : ℕ) (lock : Lock) → lock_at slots place ≡ Some lock → place < length slots
is_within [] place lock at = absurd (cc at)
is_within (s ∷ slots) zero lock at = omega arith
is_within (s ∷ slots) (suc place) lock at = let rest = is_within slots place lock at in omega (arith, rest)

-- ---- all locks by their owners

abbrev is_holder : ℕ → OwnerKey → Lock → Bool
is_holder rec key lock = on_rec lock rec && owned_by lock key

abbrev is_same : Lock → ℕ → Holder → Bool
is_same lock place q = is_eq (holder_cmp (holder_of lock place) q)

module _ (lock : Lock) (place : ℕ) (rec : ℕ) (key : OwnerKey) where
  holder_at : (other : ℕ) → is_same lock place (rec, key, other) ≡ (is_holder rec key lock && (place == other))
  holder_at other = same_holder lock.rec (owner_key lock.owner) place rec key other ∙ by (lock.rec == rec)
    where
      by : (a : Bool) → (a && key_eq (owner_key lock.owner) key && (place == other)) ≡ ((a && key_eq (owner_key lock.owner) key) && (place == other))
      by true = refl
      by false = refl

module _ (old : BTreeSet Holder) (slots : List (Option Lock)) (index : AreHolders old slots) where
  pub holders_more : (new : BTreeSet Holder) (lock : Lock) (n : ℕ) → n ≡ length slots → HasMore (holder_of lock n) old new → AreHolders new (slots ++ Some lock ∷ [])
  holders_more new lock n long more rec key place =
      more (rec, key, place)
      ∙ ap (λ b. cond b true (contains holder_cmp old (rec, key, place))) (holder_at lock n rec key place ∙ ap (λ m. is_holder rec key lock && (m == place)) long)
      ∙ ap (cond (is_holder rec key lock && (length slots == place)) true) (index rec key place) ∙ by (place == length slots) refl
      ∙ sym (ap (passes (is_holder rec key)) (one_more slots (Some lock) place))
    where
      by : (b : Bool) → (place == length slots) ≡ b → cond (is_holder rec key lock && (length slots == place)) true (passes (is_holder rec key) (lock_at slots place)) ≡ passes (is_holder rec key) (if b then Some lock else lock_at slots place)
      by true e =
          let same : place ≡ length slots = grind (arith, nat_tests, e) in
          let turned : (length slots == place) ≡ true = grind (arith, nat_tests, e) in
          ap (λ c. cond (is_holder rec key lock && c) true (passes (is_holder rec key) (lock_at slots place))) turned
          ∙ ap (λ o. cond (is_holder rec key lock && true) true (passes (is_holder rec key) o)) (ap (lock_at slots) same ∙ none_beyond slots)
          ∙ elim (is_holder rec key lock) as (λ c. cond (c && true) true false ≡ c) [ true ↦ refl | false ↦ refl ]
      by false e =
          let turned : (length slots == place) ≡ false = grind (arith, nat_tests, e) in
          ap (λ c. cond (is_holder rec key lock && c) true (passes (is_holder rec key) (lock_at slots place))) turned
          ∙ elim (is_holder rec key lock) as (λ c. cond (c && false) true (passes (is_holder rec key) (lock_at slots place)) ≡ passes (is_holder rec key) (lock_at slots place)) [ true ↦ refl | false ↦ refl ]

  -- a lock beyond the slots that was added and is removed again
  pub holders_undone : (mid new : BTreeSet Holder) (lock : Lock) (n : ℕ) → n ≡ length slots → HasMore (holder_of lock n) old mid → HasLess (holder_of lock n) mid new → AreHolders new slots
  holders_undone mid new lock n long more less rec key place =
      less (rec, key, place) ∙ ap (cond (is_same lock n (rec, key, place)) false) (more (rec, key, place) ∙ ap (cond (is_same lock n (rec, key, place)) true) (index rec key place))
      ∙ by (is_same lock n (rec, key, place)) refl
    where
      by : (b : Bool) → is_same lock n (rec, key, place) ≡ b → cond b false (cond b true (passes (is_holder rec key) (lock_at slots place))) ≡ passes (is_holder rec key) (lock_at slots place)
      by false e = refl
      by true e =
          let here : (is_holder rec key lock && (n == place)) ≡ true = sym (holder_at lock n rec key place) ∙ e in
          let same : place ≡ length slots = grind (arith, nat_tests, here, long) in
          sym (ap (passes (is_holder rec key)) (ap (lock_at slots) same ∙ none_beyond slots))

  pub holders_less : (new : BTreeSet Holder) (lock : Lock) (gone : ℕ) → lock_at slots gone ≡ Some lock → HasLess (holder_of lock gone) old new → AreHolders new (set slots gone None)
  holders_less new lock gone at less rec key place =
      less (rec, key, place) ∙ ap (λ b. cond b false (contains holder_cmp old (rec, key, place))) (holder_at lock gone rec key place)
      ∙ ap (cond (is_holder rec key lock && (gone == place)) false) (index rec key place) ∙ by (place == gone) refl
      ∙ sym (ap (passes (is_holder rec key)) (one_less slots gone place))
    where
      by : (b : Bool) → (place == gone) ≡ b → cond (is_holder rec key lock && (gone == place)) false (passes (is_holder rec key) (lock_at slots place)) ≡ passes (is_holder rec key) (if b then None else lock_at slots place)
      by true e =
          let same : place ≡ gone = grind (arith, nat_tests, e) in
          let turned : (gone == place) ≡ true = grind (arith, nat_tests, e) in
          ap (λ c. cond (is_holder rec key lock && c) false (passes (is_holder rec key) (lock_at slots place))) turned
          ∙ ap (λ o. cond (is_holder rec key lock && true) false (passes (is_holder rec key) o)) (ap (lock_at slots) same ∙ at)
          ∙ elim (is_holder rec key lock) as (λ c. cond (c && true) false c ≡ false) [ true ↦ refl | false ↦ refl ]
      by false e =
          let turned : (gone == place) ≡ false = grind (arith, nat_tests, e) in
          ap (λ c. cond (is_holder rec key lock && c) false (passes (is_holder rec key) (lock_at slots place))) turned
          ∙ elim (is_holder rec key lock) as (λ c. cond (c && false) false (passes (is_holder rec key) (lock_at slots place)) ≡ passes (is_holder rec key) (lock_at slots place)) [ true ↦ refl | false ↦ refl ]

  pub holders_same : (new : BTreeSet Holder) → HasSame old new → AreHolders new slots
  holders_same new same rec key place = same (rec, key, place) ∙ index rec key place

  -- a lock that becomes exclusive has the same record and owner
  pub holders_raised : (rec : ℕ) (owner : Owner) → AreHolders old (all_raised rec owner slots)
  holders_raised rec owner q key place = index q key place ∙ by (lock_at slots place) ∙ sym (ap (passes (is_holder q key)) (revised_in (raise rec owner) slots place))
    where
      same : (lock : Lock) → is_holder q key (raised rec true owner lock) ≡ is_holder q key lock
      same lock =
          elim ((lock.rec == rec) && same_owner lock.owner owner) as (λ b. is_holder q key (if b then record lock { exclusive = lock.exclusive || true } else lock) ≡ is_holder q key lock)
          [ true ↦ refl | false ↦ refl ]

      by : (o : Option Lock) → passes (is_holder q key) o ≡ passes (is_holder q key) (option_map_or (raise rec owner) o None)
      by None = refl
      by (Some l) = sym (same l)

  -- an owner's lock on a record is at one of its places on it
  pub has_its_place : (rec : ℕ) (owner : Owner) (place : ℕ) (lock : Lock) → place < 2 ^ 64 → lock_at slots place ≡ Some lock → ((lock.rec == rec) && same_owner lock.owner owner) ≡ true
      → list_any (λ k. k == place) (places_between rec (owner_key owner) old) ≡ true
  has_its_place rec owner place lock fits at h =
      between_has old rec (owner_key owner) place fits (index rec (owner_key owner) place ∙ ap (passes (is_holder rec (owner_key owner))) at ∙ ap (λ b. (lock.rec == rec) && b) (key_same lock.owner owner) ∙ h)

-- ---- the exclusive ones

abbrev has_place : ℕ → List ℕ → Bool
has_place place ks = list_any (λ k. k == place) ks

module _ {A S : Type 0} (old new : IndexMap ℕ (Vec ℕ A) S) (slots : List (Option Lock)) (index : AreListed old slots) where
  pub listed_still : KeepsAll old new → AreListed new slots
  listed_still kept rec place h = kept rec place (index rec place h)

  pub listed_more : KeepsAll old new → (lock : Lock) (n : ℕ) → n ≡ length slots → (lock.exclusive ≡ true → has_place n (places_of nat_eq new lock.rec) ≡ true) → AreListed new (slots ++ Some lock ∷ [])
  listed_more kept lock n long noted rec place h = by (place == length slots) refl (sym (ap (passes (λ lock. exclusive_on lock rec)) (one_more slots (Some lock) place)) ∙ h)
    where
      by : (b : Bool) → (place == length slots) ≡ b → passes (λ lock. exclusive_on lock rec) (if b then Some lock else lock_at slots place) ≡ true → has_place place (places_of nat_eq new rec) ≡ true
      by false e h = kept rec place (index rec place h)
      by true e h =
          let same : n ≡ place = grind (arith, nat_tests, e, long) in
          let on : lock.rec ≡ rec = grind (arith, nat_tests, h) in
          let exclusive : lock.exclusive ≡ true = grind (arith, nat_tests, h) in
          (λ i. has_place (sym same i) (places_of nat_eq new (sym on i))) ∙ noted exclusive

  -- a lock beyond the slots that was listed and is removed again
  pub listed_undone : (mid : IndexMap ℕ (Vec ℕ A) S) (n : ℕ) → n ≡ length slots → KeepsAll old mid → ((rec other : ℕ) → (other == n) ≡ false → has_place other (places_of nat_eq mid rec) ≡ true → has_place other (places_of nat_eq new rec) ≡ true) → AreListed new slots
  listed_undone mid n long kept less rec place h = by (place == n) refl
    where
      by : (b : Bool) → (place == n) ≡ b → has_place place (places_of nat_eq new rec) ≡ true
      by false e = less rec place e (kept rec place (index rec place h))
      by true e =
          let same : place ≡ length slots = grind (arith, nat_tests, e, long) in
          absurd (true≢false (sym h ∙ ap (passes (λ lock. exclusive_on lock rec)) (ap (lock_at slots) same ∙ none_beyond slots)))

  pub listed_less : (gone : ℕ) → ((rec other : ℕ) → (other == gone) ≡ false → has_place other (places_of nat_eq old rec) ≡ true → has_place other (places_of nat_eq new rec) ≡ true) → AreListed new (set slots gone None)
  listed_less gone kept rec place h = by (place == gone) refl (sym (ap (passes (λ lock. exclusive_on lock rec)) (one_less slots gone place)) ∙ h)
    where
      by : (b : Bool) → (place == gone) ≡ b → passes (λ lock. exclusive_on lock rec) (if b then None else lock_at slots place) ≡ true → has_place place (places_of nat_eq new rec) ≡ true
      by true e h = absurd (true≢false (sym h))
      by false e h = kept rec place e (index rec place h)

  -- the owner's locks on a record have become exclusive
  pub listed_raised : KeepsAll old new → (rec : ℕ) (owner : Owner)
      → ((place : ℕ) (lock : Lock) → lock_at slots place ≡ Some lock → ((lock.rec == rec) && same_owner lock.owner owner) ≡ true → has_place place (places_of nat_eq new rec) ≡ true)
      → AreListed new (all_raised rec owner slots)
  listed_raised kept rec owner noted q place h =
      by (lock_at slots place) refl (sym (ap (passes (λ lock. exclusive_on lock q)) (revised_in (raise rec owner) slots place)) ∙ h)
    where
      by : (o : Option Lock) → lock_at slots place ≡ o → passes (λ lock. exclusive_on lock q) (option_map_or (raise rec owner) o None) ≡ true → has_place place (places_of nat_eq new q) ≡ true
      by None at h = absurd (true≢false (sym h))
      by (Some l) at h = to ((l.rec == rec) && same_owner l.owner owner) refl h
        where
          to : (b : Bool) → ((l.rec == rec) && same_owner l.owner owner) ≡ b → exclusive_on (if b then record l { exclusive = l.exclusive || true } else l) q ≡ true → has_place place (places_of nat_eq new q) ≡ true
          to false e h = kept q place (index q place (ap (passes (λ lock. exclusive_on lock q)) at ∙ h))
          to true e h =
              let same : rec ≡ q = grind (arith, nat_tests, h, e) in
              (λ i. has_place place (places_of nat_eq new (sym same i))) ∙ noted place l at e
