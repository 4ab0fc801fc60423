-- The set of all locks by their records and owners: how it changes, and what is found in it.
use Rattle.std.specs.Prelude.{◌≡◌, ◌-◌, ◌^◌, ℕ, true, false, cond, List, map}
use Rattle.std.specs.BTreeSet.{BTreeSet, contains, keys_between}
use Rattle.std.specs.BTreeMap.Range.{IsFromStart, IsLeBy}
use Rattle.std.specs.Ordering.{is_eq, is_lt}
use Rattle.std.specs.declared.ops.Bound.{Bound}
use Rattle.std.specs.declared.ops.Bound.TheVariants.{Included}
use Rattle.vp_base.specs.declared.site.Lock.{Lock}
use Rattle.vp_locks.specs.Keys.{Holder, OwnerKey, holder_cmp, key_cmp, key_eq, owner_key}

-- the lock at a place
abbrev pub holder_of : Lock → ℕ → Holder
holder_of lock place = (lock.rec, owner_key lock.owner, place)

-- the set has this one more
abbrev pub HasMore : Holder → BTreeSet Holder → BTreeSet Holder → Type 0
HasMore holder old new = (q : Holder) → contains holder_cmp new q ≡ cond (is_eq (holder_cmp holder q)) true (contains holder_cmp old q)

-- the set has this one less
abbrev pub HasLess : Holder → BTreeSet Holder → BTreeSet Holder → Type 0
HasLess holder old new = (q : Holder) → contains holder_cmp new q ≡ cond (is_eq (holder_cmp holder q)) false (contains holder_cmp old q)

abbrev pub HasSame : BTreeSet Holder → BTreeSet Holder → Type 0
HasSame old new = (q : Holder) → contains holder_cmp new q ≡ contains holder_cmp old q

-- it is the first from a bound on
abbrev pub IsFirstFrom : Bound Holder → BTreeSet Holder → Holder → Type 0
IsFirstFrom start set first =
    IsFromStart holder_cmp start first × (contains holder_cmp set first ≡ true)
    × ((q : Holder) → IsFromStart holder_cmp start q → contains holder_cmp set q ≡ true → IsLeBy holder_cmp first q)

-- there is none from a bound on
abbrev pub HasNoneFrom : Bound Holder → BTreeSet Holder → Type 0
HasNoneFrom start set = (q : Holder) → IsFromStart holder_cmp start q → contains holder_cmp set q ≡ false

-- there is a lock of another owner on the record at the place, and no lower owner other than this one has a lock on it
pub record IsLeastOther (rec : ℕ) (owner : OwnerKey) (set : BTreeSet Holder) (place : ℕ) : Type 0 where
  pub key : OwnerKey
  pub here : contains holder_cmp set (rec, key, place) ≡ true
  pub is_other : key_eq key owner ≡ false
  pub least : (other : OwnerKey) (at : ℕ) → contains holder_cmp set (rec, other, at) ≡ true → key_eq other owner ≡ false → is_lt (key_cmp other key) ≡ false

-- the places of an owner's locks on a record
abbrev pub places_between : ℕ → OwnerKey → BTreeSet Holder → List ℕ
places_between rec owner set = map (λ (holder : Holder). holder.2) (keys_between holder_cmp (Included (rec, owner, 0)) (Included (rec, owner, 2 ^ 64 - 1)) set)
