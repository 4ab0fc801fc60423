-- Lists of the places of locks, by the records or by the owners.
use Rattle.std.specs.Prelude.{◌≡◌, ℕ, ◌==◌, nat_eq, ◌&&◌, if◌then◌else◌, Bool, true, List, [], Option}
use Rattle.std.specs.BTreeSet.{BTreeSet, contains}
use Rattle.std.specs.List.{list_any}
use Rattle.std.specs.Option.{option_map_or}
use Rattle.std.specs.declared.vec.Vec.{Vec}
use Rattle.indexmap.specs.IndexMap.{IndexMap, get}
use Rattle.vp_base.specs.declared.site.Lock.{Lock}
use Rattle.vp_locks.specs.declared.rec_locks.RecLocks.{RecLocks}
use Rattle.vp_locks.specs.Keys.{Holder, OwnerKey, holder_cmp, key_eq, owner_key}
use Rattle.vp_locks.specs.Places.{lock_at, passes, places}

module _ {K A S : Type 0} (eq : K → K → Bool) where
  -- the places in the list of a key
  abbrev pub places_of : IndexMap K (Vec ℕ A) S → K → List ℕ
  places_of lists key = option_map_or (λ list. list.items) (get eq lists key) []

  -- the list of each key has the places of the locks that belong to this key
  abbrev pub IsIndex : (Lock → K → Bool) → IndexMap K (Vec ℕ A) S → List (Option Lock) → Type 0
  IsIndex fits lists slots = (key : K) → places_of lists key ≡ places (λ lock. fits lock key) slots

  -- only the lists of the keys that a test chooses have changed
  abbrev pub Changes : (K → Bool) → (List ℕ → List ℕ) → IndexMap K (Vec ℕ A) S → IndexMap K (Vec ℕ A) S → Type 0
  Changes picks f old new = (key : K) → places_of new key ≡ (if picks key then f (places_of old key) else places_of old key)

-- the keys that a lock belongs to: its record, its record if it is exclusive, and its owner
abbrev pub on_rec : Lock → ℕ → Bool
on_rec lock rec = lock.rec == rec

abbrev pub exclusive_on : Lock → ℕ → Bool
exclusive_on lock rec = (lock.rec == rec) && lock.exclusive

abbrev pub owned_by : Lock → OwnerKey → Bool
owned_by lock key = key_eq (owner_key lock.owner) key

-- the set has the lock at each place by its record and its owner, and nothing else
abbrev pub AreHolders : BTreeSet Holder → List (Option Lock) → Type 0
AreHolders set slots =
    (rec : ℕ) (key : OwnerKey) (place : ℕ) → contains holder_cmp set (rec, key, place) ≡ passes (λ lock. on_rec lock rec && owned_by lock key) (lock_at slots place)

-- the list of each record has the places of its exclusive locks, and may have others
abbrev pub AreListed : {A S : Type 0} → IndexMap ℕ (Vec ℕ A) S → List (Option Lock) → Type 0
AreListed lists slots =
    (rec place : ℕ) → passes (λ lock. exclusive_on lock rec) (lock_at slots place) ≡ true → list_any (λ k. k == place) (places_of nat_eq lists rec) ≡ true

abbrev pub IsRecIndex : RecLocks → List (Option Lock) → Type 0
IsRecIndex p slots = AreHolders p.holders.set slots × AreListed p.exclusive.lists slots

-- the places of each owner's locks
abbrev pub IsOwnerIndex : {A S : Type 0} → IndexMap OwnerKey (Vec ℕ A) S → List (Option Lock) → Type 0
IsOwnerIndex = IsIndex key_eq owned_by

-- no list has lost a place
abbrev pub KeepsAll : {A S : Type 0} → IndexMap ℕ (Vec ℕ A) S → IndexMap ℕ (Vec ℕ A) S → Type 0
KeepsAll old new = (rec place : ℕ) → list_any (λ k. k == place) (places_of nat_eq old rec) ≡ true → list_any (λ k. k == place) (places_of nat_eq new rec) ≡ true
