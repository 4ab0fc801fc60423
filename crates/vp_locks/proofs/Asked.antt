-- What is asked of the locks of a record.
use Rattle.std.proofs.Common.{◌≡◌, ℕ, nat_eq, ◌&&◌, ◌||◌, not, ◌∙◌, Bool, true, false, true≢false, ◌==◌, List, filter, Option, Some, None, refl, ap, sym, arith}
use Rattle.std.specs.BTreeSet.{BTreeSet, contains}
use Rattle.std.specs.List.{list_any, filter_map}
use Rattle.std.specs.Ordering.{is_lt}
use Rattle.std.specs.declared.vec.Vec.{Vec}
use Rattle.std.proofs.lemmas.Bool.Decides.{nat_tests}
use Rattle.indexmap.specs.IndexMap.{IndexMap}
use Rattle.vp_model.specs.Types.{Owner, Lock}
use Rattle.vp_base.specs.declared.entry.Owner.TheVariants.{Txn, Refresh}
use Rattle.vp_model.specs.Locks.{conflicting, holds, least_owner}
use Rattle.vp_model.specs.Words.{owner_before, same_owner}
use Rattle.vp_locks.specs.Holders.{IsLeastOther}
use Rattle.vp_locks.specs.Index.{AreHolders, AreListed, exclusive_on, on_rec, owned_by, places_of}
use Rattle.vp_locks.specs.Keys.{Holder, OwnerKey, holder_cmp, key_cmp, key_eq, owner_key}
use Rattle.vp_locks.specs.Places.{present_locks, lock_at, passes}
use Rattle.vp_locks.proofs.Indexes.{key_same}
use Rattle.vp_locks.proofs.Ordered.{key_before, same_key_is}
use Rattle.vp_locks.proofs.Within.{IsIn, any_in, is_present, is_there, least_is, least_none, none_in, place_of, same_any, same_least, there_at}

module _ (rec : ℕ) (owner : Owner) where
  abbrev in_way : Lock → Bool
  in_way lock = (lock.rec == rec) && (true || lock.exclusive) && not (same_owner lock.owner owner)

  abbrev is_own : Lock → Bool
  is_own lock = (lock.rec == rec) && (not false || lock.exclusive) && same_owner lock.owner owner

  -- a lock on the record is the owner's if it has the owner's key
  own_by_key : (lock : Lock) → is_own lock ≡ (on_rec lock rec && owned_by lock (owner_key owner))
  own_by_key lock = by (lock.rec == rec) ∙ ap (λ b. (lock.rec == rec) && b) (sym (key_same lock.owner owner))
    where
      by : (a : Bool) → (a && true && same_owner lock.owner owner) ≡ (a && same_owner lock.owner owner)
      by true = refl
      by false = refl

  module _ (set : BTreeSet Holder) (slots : List (Option Lock)) (index : AreHolders set slots) where
    found : (place : ℕ) (lock : Lock) → lock_at slots place ≡ Some lock → (lock.rec == rec) ≡ true → contains holder_cmp set (rec, owner_key lock.owner, place) ≡ true
    found place lock at on =
        index rec (owner_key lock.owner) place ∙ ap (passes (λ lock'. on_rec lock' rec && owned_by lock' (owner_key lock.owner))) at
        ∙ ap (λ b. b && key_eq (owner_key lock.owner) (owner_key lock.owner)) on ∙ key_same lock.owner lock.owner ∙ self lock.owner
      where
        self : (o : Owner) → same_owner o o ≡ true
        self (Txn t) = grind (arith, nat_tests)
        self Refresh = refl

    -- where no other owner's lock is found
    pub none_other : ((key : OwnerKey) (place : ℕ) → contains holder_cmp set (rec, key, place) ≡ true → key_eq key (owner_key owner) ≡ true) → least_owner (conflicting rec true owner (present_locks slots)) ≡ None
    none_other none = least_none in_way (present_locks slots) (λ lock is. by lock (place_of slots lock is).0 (place_of slots lock is).1 (in_way lock) refl)
      where
        by : (lock : Lock) (place : ℕ) → lock_at slots place ≡ Some lock → (b : Bool) → in_way lock ≡ b → in_way lock ≡ false
        by lock place at false e = e
        by lock place at true e =
            let on : (lock.rec == rec) ≡ true = grind (arith, nat_tests, e) in
            let other : same_owner lock.owner owner ≡ false = grind (arith, nat_tests, e) in
            absurd (true≢false (sym (none (owner_key lock.owner) place (found place lock at on)) ∙ key_same lock.owner owner ∙ other))

    -- the lock of the least other owner
    pub least_there : (place : ℕ) → IsLeastOther rec (owner_key owner) set place → (lock : Lock) × (lock_at slots place ≡ Some lock) × (least_owner (conflicting rec true owner (present_locks slots)) ≡ Some lock.owner)
    least_there place least = by (lock_at slots place) refl (sym (index rec least.key place) ∙ least.here)
      where
        by : (o : Option Lock) → lock_at slots place ≡ o → passes (λ lock. on_rec lock rec && owned_by lock least.key) o ≡ true → (lock : Lock) × (lock_at slots place ≡ Some lock) × (least_owner (conflicting rec true owner (present_locks slots)) ≡ Some lock.owner)
        by None at h = absurd (true≢false (sym h))
        by (Some lock) at h =
            let on : (lock.rec == rec) ≡ true = grind (arith, nat_tests, h) in
            let mine : key_eq (owner_key lock.owner) least.key ≡ true = grind (arith, nat_tests, h) in
            let key_is : owner_key lock.owner ≡ least.key = same_key_is (owner_key lock.owner) least.key mine in
            let other : same_owner lock.owner owner ≡ false = sym (key_same lock.owner owner) ∙ ap (λ key. key_eq key (owner_key owner)) key_is ∙ least.is_other in (
              lock,
              at,
              least_is in_way (present_locks slots) lock.owner (record {
                lock = lock;
                is = is_present slots place lock at;
                passes = grind (arith, nat_tests, on, other);
                owner_is = refl;
                least = λ l is h. low l (place_of slots l is).0 (place_of slots l is).1 h key_is;
              }),
            )
          where
            low : (l : Lock) (p : ℕ) → lock_at slots p ≡ Some l → in_way l ≡ true → owner_key lock.owner ≡ least.key → owner_before l.owner lock.owner ≡ false
            low l p at' h' key_is =
                let on : (l.rec == rec) ≡ true = grind (arith, nat_tests, h') in
                let other : same_owner l.owner owner ≡ false = grind (arith, nat_tests, h') in
                sym (key_before l.owner lock.owner) ∙ ap (λ key. is_lt (key_cmp (owner_key l.owner) key)) key_is
                ∙ least.least (owner_key l.owner) p (found p l at' on) (key_same l.owner owner ∙ other)

    pub holds_it : (place : ℕ) → contains holder_cmp set (rec, owner_key owner, place) ≡ true → holds rec false owner (present_locks slots) ≡ true
    holds_it place h = by (lock_at slots place) refl (sym (index rec (owner_key owner) place) ∙ h)
      where
        by : (o : Option Lock) → lock_at slots place ≡ o → passes (λ lock. on_rec lock rec && owned_by lock (owner_key owner)) o ≡ true → holds rec false owner (present_locks slots) ≡ true
        by None at h = absurd (true≢false (sym h))
        by (Some lock) at h = any_in is_own (present_locks slots) lock (is_present slots place lock at) (own_by_key lock ∙ h)

    pub holds_not : ((place : ℕ) → contains holder_cmp set (rec, owner_key owner, place) ≡ false) → holds rec false owner (present_locks slots) ≡ false
    holds_not none = none_in is_own (present_locks slots) (λ lock is. by lock (place_of slots lock is).0 (place_of slots lock is).1)
      where
        by : (lock : Lock) (place : ℕ) → lock_at slots place ≡ Some lock → is_own lock ≡ false
        by lock place at = own_by_key lock ∙ sym (ap (passes (λ lock. on_rec lock rec && owned_by lock (owner_key owner))) at) ∙ sym (index rec (owner_key owner) place) ∙ none place

  -- the exclusive ones
  module _ {A S : Type 0} (lists : IndexMap ℕ (Vec ℕ A) S) (slots : List (Option Lock)) (listed : AreListed lists slots) where
    abbrev there : List Lock
    there = filter_map (lock_at slots) (places_of nat_eq lists rec)

    module _ (test : Lock → Bool) (exclusive : (lock : Lock) → test lock ≡ true → exclusive_on lock rec ≡ true) where
      to : (lock : Lock) → IsIn lock there → test lock ≡ true → IsIn lock (present_locks slots)
      to lock is h = let at = there_at slots (places_of nat_eq lists rec) lock is in is_present slots at.0 lock at.1

      back : (lock : Lock) → IsIn lock (present_locks slots) → test lock ≡ true → IsIn lock there
      back lock is h =
          let at = place_of slots lock is in
          is_there slots (places_of nat_eq lists rec) at.0 lock (listed rec at.0 (ap (passes (λ lock. exclusive_on lock rec)) at.1 ∙ exclusive lock h)) at.1

    pub exclusive_least : least_owner (filter (λ lock. exclusive_on lock rec && not (same_owner lock.owner owner)) there) ≡ least_owner (conflicting rec false owner (present_locks slots))
    exclusive_least =
        let test = λ (lock : Lock). exclusive_on lock rec && not (same_owner lock.owner owner) in
        let exclusive : (lock : Lock) → test lock ≡ true → exclusive_on lock rec ≡ true = λ lock h. grind (arith, nat_tests, h) in
        same_least test there (present_locks slots) (to test exclusive) (back test exclusive)

    pub exclusive_held : list_any (λ lock. exclusive_on lock rec && same_owner lock.owner owner) there ≡ holds rec true owner (present_locks slots)
    exclusive_held =
        let test = λ (lock : Lock). exclusive_on lock rec && same_owner lock.owner owner in
        let exclusive : (lock : Lock) → test lock ≡ true → exclusive_on lock rec ≡ true = λ lock h. grind (arith, nat_tests, h) in
        same_any test there (present_locks slots) (to test exclusive) (back test exclusive)
