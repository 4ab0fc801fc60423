-- The lists of places stay right for the locks in the slots, whatever happens in the slots.
use Rattle.std.proofs.Common.{◌≡◌, ℕ, zero, suc, ◌&&◌, ◌||◌, not, ◌∙◌, Bool, true, false, true≢false, ◌==◌, List, [], ◌∷◌, ◌++◌, map, filter, fold, set, Option, Some, None, length, if◌then◌else◌, is_some, refl, ap, ap₂, sym, arith}
use Rattle.std.specs.List.{filter_map, cons_option, list_any}
use Rattle.std.specs.Option.{option_map_or}
use Rattle.std.specs.declared.vec.Vec.{Vec}
use Rattle.std.proofs.lemmas.Bool.Decides.{nat_tests}
use Rattle.indexmap.specs.IndexMap.{IndexMap}
use Rattle.vp_model.specs.Types.{Owner, Lock}
use Rattle.vp_base.specs.declared.entry.Owner.TheVariants.{Txn, Refresh}
use Rattle.vp_model.specs.Locks.{raised, lesser}
use Rattle.vp_model.specs.Words.{same_owner}
use Rattle.vp_locks.specs.Keys.{OwnerKey, owner_key, key_eq}
use Rattle.vp_locks.specs.Places.{present_locks, lock_at, passes, places, revise_slot, if_kept}
use Rattle.vp_locks.specs.Index.{places_of, Changes, IsIndex, IsOwnerIndex, exclusive_on, owned_by}
use Rattle.vp_locks.proofs.InSlots.{places_more, places_without, places_apart, places_changed, places_kept, places_untouched, present_changed, present_kept, later_one, revised_at_place, revised_each, revised_where}

module _ {K A S : Type 0} (eq : K → K → Bool) (fits : Lock → K → Bool) (old : IndexMap K (Vec ℕ A) S) (slots : List (Option Lock)) (index : IsIndex eq fits old slots) where
  -- one more lock in a slot of its own
  pub index_more : (new : IndexMap K (Vec ℕ A) S) (lock : Lock) (n : ℕ) → n ≡ length slots → Changes eq (fits lock) (λ ps. ps ++ n ∷ []) old new → IsIndex eq fits new (slots ++ Some lock ∷ [])
  index_more new lock n long noted = λ q.
      noted q ∙ ap (λ m. if fits lock q then places_of eq old q ++ m ∷ [] else places_of eq old q) long
      ∙ ap (λ ps. if fits lock q then ps ++ length slots ∷ [] else ps) (index q) ∙ sym (places_more (λ lock. fits lock q) slots (Some lock))

  -- the lock at a place is released
  pub index_without : (new : IndexMap K (Vec ℕ A) S) (place : ℕ) (lock : Lock) → lock_at slots place ≡ Some lock
      → Changes eq (fits lock) (filter (λ k. not (k == place))) old new → IsIndex eq fits new (set slots place None)
  index_without new place lock at forgot = λ q.
      forgot q ∙ ap (λ ps. if fits lock q then filter (λ k. not (k == place)) ps else ps) (index q) ∙ by q (fits lock q) refl
    where
      by : (q : K) (b : Bool) → fits lock q ≡ b → (if b then filter (λ k. not (k == place)) (places (λ lock. fits lock q) slots) else places (λ lock. fits lock q) slots) ≡ places (λ lock. fits lock q) (set slots place None)
      by q true e = sym (places_without (λ lock. fits lock q) slots place)
      by q false e = sym (places_apart (λ lock. fits lock q) slots place (ap (passes (λ lock. fits lock q)) at ∙ e))

  -- locks change, but belong to the same keys
  pub index_changed : (test : Lock → Bool) (g : Lock → Lock) → ((lock : Lock) (q : K) → fits (if test lock then g lock else lock) q ≡ fits lock q) → IsIndex eq fits old (map (revised_where test (λ lock. Some (g lock))) slots)
  index_changed test g same = λ q. index q ∙ sym (places_changed test g (λ lock. fits lock q) (λ lock. fits lock q) (λ lock. same lock q) slots)

  -- some of the locks of a key are released
  pub index_kept : (new : IndexMap K (Vec ℕ A) S) (key : K) (keeps : Lock → Bool) → ((lock : Lock) (q : K) → eq key q ≡ false → fits lock q ≡ true → fits lock key ≡ false)
      → Changes eq (eq key) (filter (λ k. is_some (lock_at (map (revised_where (λ lock. fits lock key) (if_kept keeps)) slots) k))) old new
      → IsIndex eq fits new (map (revised_where (λ lock. fits lock key) (if_kept keeps)) slots)
  index_kept new key keeps apart kept = λ q.
      kept q ∙ ap (λ ps. if eq key q then filter (λ k. is_some (lock_at rest k)) ps else ps) (index q) ∙ by q (eq key q) refl
    where
      rest : List (Option Lock)
      rest = map (revised_where (λ lock. fits lock key) (if_kept keeps)) slots

      by : (q : K) (b : Bool) → eq key q ≡ b → (if b then filter (λ k. is_some (lock_at rest k)) (places (λ lock. fits lock q) slots) else places (λ lock. fits lock q) slots) ≡ places (λ lock. fits lock q) rest
      by q true e = places_kept (λ lock. fits lock key) keeps (λ lock. fits lock q) slots
      by q false e = sym (places_untouched (λ lock. fits lock key) keeps (λ lock. fits lock q) (λ lock h. apart lock q e h) slots)

-- keys of owners
pub key_same : (a b : Owner) → key_eq (owner_key a) (owner_key b) ≡ same_owner a b
key_same (Txn t) (Txn u) = refl
key_same (Txn t) Refresh = refl
key_same Refresh (Txn u) = refl
key_same Refresh Refresh = refl

pub key_apart : (a k q : OwnerKey) → key_eq k q ≡ false → key_eq a q ≡ true → key_eq a k ≡ false
key_apart a k q e h = grind (arith, nat_tests, e, h)

-- a test of the locks at some places
pub any_found : (g : Lock → Bool) (slots : List (Option Lock)) (ks : List ℕ) → list_any (λ k. passes g (lock_at slots k)) ks ≡ list_any g (filter_map (lock_at slots) ks)
any_found g slots [] = refl
any_found g slots (k ∷ ks) =
    elim (lock_at slots k) as (λ o. (passes g o || list_any (λ k. passes g (lock_at slots k)) ks) ≡ list_any g (cons_option o (filter_map (lock_at slots) ks)))
    [ None ↦ any_found g slots ks | Some l ↦ ap (λ b. g l || b) (any_found g slots ks) ]

module _ (rec : ℕ) (owner : Owner) where
  -- the least owner so far, after one more place
  abbrev pub least_step : List (Option Lock) → Option Owner → ℕ → Option Owner
  least_step slots best k =
      option_map_or (λ lock. if exclusive_on lock rec && not (same_owner lock.owner owner) then Some (lesser best lock.owner) else best) (lock_at slots k) best

  pub least_found : (slots : List (Option Lock)) (best : Option Owner) (ks : List ℕ) → fold (least_step slots) best ks ≡ fold (λ best lock. Some (lesser best lock.owner)) best (filter (λ lock. exclusive_on lock rec && not (same_owner lock.owner owner)) (filter_map (lock_at slots) ks))
  least_found slots best [] = refl
  least_found slots best (k ∷ ks) =
      let rest = filter (λ lock. exclusive_on lock rec && not (same_owner lock.owner owner)) (filter_map (lock_at slots) ks) in
      elim (lock_at slots k) as (λ o. fold (least_step slots) (option_map_or (λ lock. if exclusive_on lock rec && not (same_owner lock.owner owner) then Some (lesser best lock.owner) else best) o best) ks ≡ fold (λ best lock. Some (lesser best lock.owner)) best (filter (λ lock. exclusive_on lock rec && not (same_owner lock.owner owner)) (cons_option o (filter_map (lock_at slots) ks)))) [
        | None ↦ least_found slots best ks
        | Some l ↦ elim (exclusive_on l rec && not (same_owner l.owner owner)) as (λ b. fold (least_step slots) (if b then Some (lesser best l.owner) else best) ks ≡ fold (λ best lock. Some (lesser best lock.owner)) best (if b then l ∷ rest else rest))
            [ true ↦ least_found slots (Some (lesser best l.owner)) ks | false ↦ least_found slots best ks ]
      ]

module _ {A S : Type 0} (lists : IndexMap OwnerKey (Vec ℕ A) S) (slots : List (Option Lock)) (index : IsOwnerIndex lists slots) (owner : Owner) where
  -- a change at each of the owner's places is a change of each of the owner's locks
  pub owner_revised : (f : Lock → Option Lock) → fold (revise_slot f) slots (places_of key_eq lists (owner_key owner)) ≡ map (revised_where (λ lock. owned_by lock (owner_key owner)) f) slots
  owner_revised f = ap (fold (revise_slot f) slots) (index (owner_key owner)) ∙ revised_each f (λ lock. owned_by lock (owner_key owner)) slots

  -- the owner's locks that aren't kept are released
  pub owner_swept : (keeps : Lock → Bool) → present_locks (map (revised_where (λ lock. owned_by lock (owner_key owner)) (if_kept keeps)) slots) ≡ filter (λ lock. not (same_owner lock.owner owner) || keeps lock) (present_locks slots)
  owner_swept keeps = present_kept (λ lock. owned_by lock (owner_key owner)) keeps slots ∙ (λ i. filter (λ (lock : Lock). not (key_same lock.owner owner i) || keeps lock) (present_locks slots))

-- the owner's locks on a record are made exclusive
module _ (rec : ℕ) (owner : Owner) where
  abbrev pub raise : Lock → Option Lock
  raise lock = Some (raised rec true owner lock)

  -- raising all locks raises the owner's on the record
  abbrev pub all_raised : List (Option Lock) → List (Option Lock)
  all_raised slots = map (revised_where (λ _. true) raise) slots

  pub present_raised : (slots : List (Option Lock)) → present_locks (all_raised slots) ≡ map (raised rec true owner) (present_locks slots)
  present_raised slots = present_changed (λ _. true) (raised rec true owner) slots

  pub raised_owner : (lock : Lock) (q : OwnerKey) → owned_by (raised rec true owner lock) q ≡ owned_by lock q
  raised_owner lock q = ap (λ o. key_eq (owner_key o) q) (by lock)
    where
      by : (lock : Lock) → (raised rec true owner lock).owner ≡ lock.owner
      by lock = grind (arith, nat_tests)

  abbrev is_own : Lock → Bool
  is_own lock = (lock.rec == rec) && same_owner lock.owner owner

  -- a lock that raising changes
  abbrev is_shared : Lock → Bool
  is_shared lock = is_own lock && not lock.exclusive

  as_before : (lock : Lock) → is_shared lock ≡ false → raised rec true owner lock ≡ lock
  as_before lock h = by (is_own lock) refl (lock.exclusive) refl
    where
      by : (b : Bool) → is_own lock ≡ b → (c : Bool) → lock.exclusive ≡ c → (if b then record lock { exclusive = lock.exclusive || true } else lock) ≡ lock
      by false e c f = refl
      by true e true f = λ i. record lock { exclusive = (ap (λ b. b || true) f ∙ sym f) i }
      by true e false f = absurd (true≢false (sym (ap₂ (λ b c. b && not c) e f) ∙ h))

  raised_once : (lock : Lock) → is_shared (raised rec true owner lock) ≡ false
  raised_once lock = by (is_own lock) refl
    where
      by : (b : Bool) → is_own lock ≡ b → is_shared (if b then record lock { exclusive = lock.exclusive || true } else lock) ≡ false
      by true e = grind (arith, nat_tests)
      by false e = ap (λ b. b && not lock.exclusive) e

  raised_twice : (lock : Lock) → raised rec true owner (raised rec true owner lock) ≡ raised rec true owner lock
  raised_twice lock = as_before (raised rec true owner lock) (raised_once lock)

  none_changes : (slots : List (Option Lock)) → ((place : ℕ) (lock : Lock) → lock_at slots place ≡ Some lock → is_shared lock ≡ false) → slots ≡ all_raised slots
  none_changes [] none = refl
  none_changes (None ∷ slots) none = ap (λ xs. None ∷ xs) (none_changes slots (λ place. none (suc place)))
  none_changes (Some l ∷ slots) none = ap₂ (λ l xs. Some l ∷ xs) (sym (as_before l (none 0 l refl))) (none_changes slots (λ place. none (suc place)))

  one_raised : (slots : List (Option Lock)) (place : ℕ) → all_raised (revise_slot raise slots place) ≡ all_raised slots
  one_raised [] place = refl
  one_raised (None ∷ slots) zero = refl
  one_raised (Some l ∷ slots) zero = ap (λ l. Some l ∷ all_raised slots) (raised_twice l)
  one_raised (s ∷ slots) (suc place) = ap all_raised (later_one raise s slots place) ∙ ap (λ xs. revised_where (λ _. true) raise s ∷ xs) (one_raised slots place)

  -- raising at some places raises all, if each lock that it changes is at one of them
  pub raised_there : (places : List ℕ) (slots : List (Option Lock)) → ((place : ℕ) (lock : Lock) → lock_at slots place ≡ Some lock → is_shared lock ≡ true → list_any (λ k. k == place) places ≡ true)
      → fold (revise_slot raise) slots places ≡ all_raised slots
  raised_there [] slots there = none_changes slots (λ place lock at. by place lock at (is_shared lock) refl)
    where
      by : (place : ℕ) (lock : Lock) → lock_at slots place ≡ Some lock → (b : Bool) → is_shared lock ≡ b → is_shared lock ≡ false
      by place lock at false e = e
      by place lock at true e = absurd (true≢false (sym (there place lock at e)))
  raised_there (k ∷ places) slots there = raised_there places (revise_slot raise slots k) (λ place lock at h. by place lock h (place == k) refl (sym (revised_at_place raise slots k place) ∙ at)) ∙ one_raised slots k
    where
      raised_here : (o : Option Lock) (lock : Lock) → option_map_or raise o None ≡ Some lock → is_shared lock ≡ false
      raised_here None lock e = absurd (cc e)
      raised_here (Some l) lock e = let same : raised rec true owner l ≡ lock = grind (arith, e) in ap is_shared (sym same) ∙ raised_once l

      by : (place : ℕ) (lock : Lock) → is_shared lock ≡ true → (b : Bool) → (place == k) ≡ b → (if b then option_map_or raise (lock_at slots k) None else lock_at slots place) ≡ Some lock → list_any (λ k. k == place) places ≡ true
      by place lock h true e at = absurd (true≢false (sym h ∙ raised_here (lock_at slots k) lock at))
      by place lock h false e at =
          let apart : (k == place) ≡ false = grind (arith, nat_tests, e) in
          sym (ap (λ b. b || list_any (λ k. k == place) places) apart) ∙ there place lock at h

-- raising a lock to a shared one changes nothing
pub raised_none : (rec : ℕ) (owner : Owner) (locks : List Lock) → map (raised rec false owner) locks ≡ locks
raised_none rec owner [] = refl
raised_none rec owner (lock ∷ locks) = let rest = raised_none rec owner locks in grind (arith, nat_tests, rest)
