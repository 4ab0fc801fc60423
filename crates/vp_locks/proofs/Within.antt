-- Locks that are in a list, and the least of their owners.
use Rattle.std.proofs.Common.{◌≡◌, ℕ, zero, suc, ◌||◌, ◌∙◌, ◌⊎◌, inl, inr, Bool, true, false, true≢false, ◌==◌, List, [], ◌∷◌, filter, fold, Option, Some, None, if◌then◌else◌, refl, ap, sym, subst, arith}
use Rattle.std.specs.Bool.{⊤}
use Rattle.std.specs.Cmp.{both_ways}
use Rattle.std.specs.List.{list_any, filter_map, cons_option, slice_get}
use Rattle.std.proofs.lemmas.Bool.Decides.{nat_tests}
use Rattle.vp_model.specs.Types.{Owner, Lock}
use Rattle.vp_base.specs.declared.entry.Owner.TheVariants.{Txn, Refresh}
use Rattle.vp_model.specs.Locks.{lesser, least_owner}
use Rattle.vp_model.specs.Words.{owner_before}
use Rattle.vp_locks.specs.Places.{present_locks, lock_at}

abbrev pub IsIn : Lock → List Lock → Type 0
IsIn lock locks = (i : ℕ) × (slice_get locks i ≡ Some lock)

-- ---- the locks in the slots, and those at some places

pub is_present : (slots : List (Option Lock)) (place : ℕ) (lock : Lock) → lock_at slots place ≡ Some lock → IsIn lock (present_locks slots)
is_present [] place lock at = absurd (cc at)
is_present (None ∷ slots) zero lock at = absurd (cc at)
is_present (Some l ∷ slots) zero lock at = (0, at)
is_present (None ∷ slots) (suc place) lock at = is_present slots place lock at
is_present (Some l ∷ slots) (suc place) lock at = let rest = is_present slots place lock at in (suc rest.0, rest.1)

pub place_of : (slots : List (Option Lock)) (lock : Lock) → IsIn lock (present_locks slots) → (place : ℕ) × (lock_at slots place ≡ Some lock)
place_of [] lock (i, at) = absurd (cc at)
place_of (None ∷ slots) lock is = let rest = place_of slots lock is in (suc rest.0, rest.1)
place_of (Some l ∷ slots) lock (zero, at) = (0, at)
place_of (Some l ∷ slots) lock (suc i, at) = let rest = place_of slots lock (i, at) in (suc rest.0, rest.1)

pub is_there : (slots : List (Option Lock)) (places : List ℕ) (place : ℕ) (lock : Lock) → list_any (λ k. k == place) places ≡ true → lock_at slots place ≡ Some lock → IsIn lock (filter_map (lock_at slots) places)
is_there slots [] place lock among at = absurd (true≢false (sym among))
is_there slots (k ∷ places) place lock among at = by (λ h. is_there slots places place lock h at) (k == place) refl among
  where
    later : IsIn lock (filter_map (lock_at slots) places) → IsIn lock (cons_option (lock_at slots k) (filter_map (lock_at slots) places))
    later is =
        elim (lock_at slots k) as (λ o. IsIn lock (cons_option o (filter_map (lock_at slots) places)))
        [ None ↦ is | Some l ↦ (suc is.0, is.1) ]

    by : (list_any (λ k. k == place) places ≡ true → IsIn lock (filter_map (lock_at slots) places)) → (b : Bool) → (k == place) ≡ b → (b || list_any (λ k. k == place) places) ≡ true → IsIn lock (cons_option (lock_at slots k) (filter_map (lock_at slots) places))
    by rest true e h =
        let same : k ≡ place = grind (arith, nat_tests, e) in
        subst (λ o. IsIn lock (cons_option o (filter_map (lock_at slots) places))) (sym (ap (lock_at slots) same ∙ at)) (0, refl)
    by rest false e h = later (rest h)

pub there_at : (slots : List (Option Lock)) (places : List ℕ) (lock : Lock) → IsIn lock (filter_map (lock_at slots) places) → (place : ℕ) × (lock_at slots place ≡ Some lock)
there_at slots [] lock (i, at) = absurd (cc at)
there_at slots (k ∷ places) lock is = by (there_at slots places lock) (lock_at slots k) refl is
  where
    by : (IsIn lock (filter_map (lock_at slots) places) → (place : ℕ) × (lock_at slots place ≡ Some lock)) → (o : Option Lock) → lock_at slots k ≡ o → IsIn lock (cons_option o (filter_map (lock_at slots) places)) → (place : ℕ) × (lock_at slots place ≡ Some lock)
    by later None e is = later is
    by later (Some l) e (zero, at) = (k, e ∙ at)
    by later (Some l) e (suc i, at) = later (i, at)

-- ---- a test of the locks

module _ (test : Lock → Bool) where
  pub any_in : (locks : List Lock) (lock : Lock) → IsIn lock locks → test lock ≡ true → list_any test locks ≡ true
  any_in [] lock (i, at) h = absurd (cc at)
  any_in (l ∷ locks) lock (zero, at) h =
      let same : l ≡ lock = grind (arith, at) in
      ap (λ b. b || list_any test locks) (ap test same ∙ h)
  any_in (l ∷ locks) lock (suc i, at) h = let rest = any_in locks lock (i, at) h in grind (arith, nat_tests, rest)

  pub which : (locks : List Lock) → list_any test locks ≡ true → (lock : Lock) × IsIn lock locks × (test lock ≡ true)
  which [] h = absurd (true≢false (sym h))
  which (l ∷ locks) h = by (which locks) (test l) refl h
    where
      by : (list_any test locks ≡ true → (lock : Lock) × IsIn lock locks × (test lock ≡ true)) → (b : Bool) → test l ≡ b → (b || list_any test locks) ≡ true → (lock : Lock) × IsIn lock (l ∷ locks) × (test lock ≡ true)
      by later true e h = (l, (0, refl), e)
      by later false e h = let rest = later h in (rest.0, (suc rest.1.0, rest.1.1), rest.2)

  pub none_in : (locks : List Lock) → ((lock : Lock) → IsIn lock locks → test lock ≡ false) → list_any test locks ≡ false
  none_in [] none = refl
  none_in (l ∷ locks) none =
      let here = none l (0, refl) in
      let rest = none_in locks (λ lock is. none lock (suc is.0, is.1)) in
      grind (arith, nat_tests, here, rest)

  -- two lists with the same locks that pass it
  module _ (ls ms : List Lock) (to : (lock : Lock) → IsIn lock ls → test lock ≡ true → IsIn lock ms) (back : (lock : Lock) → IsIn lock ms → test lock ≡ true → IsIn lock ls) where
    pub same_any : list_any test ls ≡ list_any test ms
    same_any = both_ways (list_any test ls) (list_any test ms) (λ e. let w = which ls e in any_in ms w.0 (to w.0 w.1 w.2) w.2) (λ e. let w = which ms e in any_in ls w.0 (back w.0 w.1 w.2) w.2)

-- ---- the order of owners

before_both : (a b : Owner) → owner_before a b ≡ false → owner_before b a ≡ false → a ≡ b
before_both (Txn t) (Txn u) f g = ap Txn (grind (arith, nat_tests, f, g))
before_both (Txn t) Refresh f g = absurd (true≢false f)
before_both Refresh (Txn u) f g = absurd (true≢false g)
before_both Refresh Refresh f g = refl

not_before_self : (o : Owner) → owner_before o o ≡ false
not_before_self (Txn t) = grind (arith, nat_tests)
not_before_self Refresh = refl

-- what is not before an owner is not before a lower one
not_before_lower : (a b c : Owner) → owner_before a b ≡ true → owner_before c b ≡ false → owner_before c a ≡ false
not_before_lower (Txn t) (Txn u) (Txn v) f g = grind (arith, nat_tests, f, g)
not_before_lower (Txn t) (Txn u) Refresh f g = refl
not_before_lower (Txn t) Refresh (Txn v) f g = absurd (true≢false g)
not_before_lower (Txn t) Refresh Refresh f g = refl
not_before_lower Refresh b c f g = absurd (true≢false (sym f))

-- ---- the least owner

module _ (test : Lock → Bool) where
  -- this owner has a lock that passes the test, and no lower owner has one
  pub record IsLeast (locks : List Lock) (owner : Owner) : Type 0 where
    pub lock : Lock
    pub is : IsIn lock locks
    pub passes : test lock ≡ true
    pub owner_is : lock.owner ≡ owner
    pub least : (other : Lock) → IsIn other locks → test other ≡ true → owner_before other.owner owner ≡ false

  abbrev after : Option Owner → List Lock → Option Owner
  after best locks = fold (λ best lock. Some (lesser best lock.owner)) best (filter test locks)

  module _ (owner : Owner) where
    abbrev IsBelowNone : List Lock → Type 0
    IsBelowNone locks = (other : Lock) → IsIn other locks → test other ≡ true → owner_before other.owner owner ≡ false

    rest_below : (l : Lock) (locks : List Lock) → IsBelowNone (l ∷ locks) → IsBelowNone locks
    rest_below l locks below other is = below other (suc is.0, is.1)

    stays : (locks : List Lock) → IsBelowNone locks → after (Some owner) locks ≡ Some owner
    stays [] below = refl
    stays (l ∷ locks) below = by (stays locks (rest_below l locks below)) (test l) refl
      where
        by : after (Some owner) locks ≡ Some owner → (b : Bool) → test l ≡ b → fold (λ best lock. Some (lesser best lock.owner)) (Some owner) (if b then l ∷ filter test locks else filter test locks) ≡ Some owner
        by rest false e = rest
        by rest true e = ap (λ b. after (Some (if b then l.owner else owner)) locks) (below l (0, refl) e) ∙ rest

    -- the least so far isn't below it
    abbrev IsAbove : Option Owner → Type 0
    IsAbove None = ⊤
    IsAbove (Some best) = owner_before best owner ≡ false

    lesser_above : (best : Option Owner) (other : Owner) → IsAbove best → owner_before other owner ≡ false → owner_before (lesser best other) owner ≡ false
    lesser_above None other above h = h
    lesser_above (Some best) other above h =
        elim (owner_before other best) as (λ b. owner_before (if b then other else best) owner ≡ false) [ true ↦ h | false ↦ above ]

    lesser_is : (best : Option Owner) → IsAbove best → lesser best owner ≡ owner
    lesser_is None above = refl
    lesser_is (Some best) above = by (owner_before owner best) refl
      where
        by : (b : Bool) → owner_before owner best ≡ b → (if b then owner else best) ≡ owner
        by true e = refl
        by false e = before_both best owner above e

    reaches : (best : Option Owner) (locks : List Lock) → IsAbove best → IsBelowNone locks → (i : ℕ) (lock : Lock) → slice_get locks i ≡ Some lock → test lock ≡ true → lock.owner ≡ owner → after best locks ≡ Some owner
    reaches best [] above below i lock at h is = absurd (cc at)
    reaches best (l ∷ locks) above below zero lock at h is =
        let same : l ≡ lock = grind (arith, at) in
        ap (λ b. fold (λ best lock. Some (lesser best lock.owner)) best (if b then l ∷ filter test locks else filter test locks)) (ap test same ∙ h)
        ∙ ap (λ o. after (Some (lesser best o)) locks) (ap (λ (lock : Lock). lock.owner) same ∙ is) ∙ ap (λ o. after (Some o) locks) (lesser_is best above) ∙ stays locks (rest_below l locks below)
    reaches best (l ∷ locks) above below (suc i) lock at h is = by (λ now up. reaches now locks up (rest_below l locks below) i lock at h is) (test l) refl
      where
        by : ((now : Option Owner) → IsAbove now → after now locks ≡ Some owner) → (b : Bool) → test l ≡ b → fold (λ best lock. Some (lesser best lock.owner)) best (if b then l ∷ filter test locks else filter test locks) ≡ Some owner
        by rest false e = rest best above
        by rest true e = rest (Some (lesser best l.owner)) (lesser_above best l.owner above (below l (0, refl) e))

  pub least_is : (locks : List Lock) (owner : Owner) → IsLeast locks owner → least_owner (filter test locks) ≡ Some owner
  least_is locks owner least = reaches owner None locks tt least.least least.is.0 least.lock least.is.1 least.passes least.owner_is

  pub least_none : (locks : List Lock) → ((lock : Lock) → IsIn lock locks → test lock ≡ false) → least_owner (filter test locks) ≡ None
  least_none [] none = refl
  least_none (l ∷ locks) none =
      ap (λ b. least_owner (if b then l ∷ filter test locks else filter test locks)) (none l (0, refl)) ∙ least_none locks (λ lock is. none lock (suc is.0, is.1))

  -- there is a least one if there is any
  pub find_least : (locks : List Lock) → ((lock : Lock) → IsIn lock locks → test lock ≡ false) ⊎ ((owner : Owner) × IsLeast locks owner)
  find_least [] = inl (λ lock is. absurd (cc is.1))
  find_least (l ∷ locks) = by (test l) refl (find_least locks)
    where
      here : (lock : Lock) → Some l ≡ Some lock → l ≡ lock
      here lock e = grind (arith, e)

      -- the first lock is the only one, or has the lower owner, or hasn't
      alone : test l ≡ true → ((lock : Lock) → IsIn lock locks → test lock ≡ false) → IsLeast (l ∷ locks) l.owner
      alone e none = record { lock = l; is = (0, refl); passes = e; owner_is = refl; least = low }
        where
          low : (other : Lock) → IsIn other (l ∷ locks) → test other ≡ true → owner_before other.owner l.owner ≡ false
          low other (zero, at) h = ap (λ (lock : Lock). owner_before lock.owner l.owner) (sym (here other at)) ∙ not_before_self l.owner
          low other (suc i, at) h = absurd (true≢false (sym h ∙ none other (i, at)))

      lower : test l ≡ true → (owner : Owner) → IsLeast locks owner → owner_before l.owner owner ≡ true → IsLeast (l ∷ locks) l.owner
      lower e owner least before = record { lock = l; is = (0, refl); passes = e; owner_is = refl; least = low }
        where
          low : (other : Lock) → IsIn other (l ∷ locks) → test other ≡ true → owner_before other.owner l.owner ≡ false
          low other (zero, at) h = ap (λ (lock : Lock). owner_before lock.owner l.owner) (sym (here other at)) ∙ not_before_self l.owner
          low other (suc i, at) h = not_before_lower l.owner owner other.owner before (least.least other (i, at) h)

      same : (owner : Owner) → IsLeast locks owner → (test l ≡ true → owner_before l.owner owner ≡ false) → IsLeast (l ∷ locks) owner
      same owner least above = record { lock = least.lock; is = (suc least.is.0, least.is.1); passes = least.passes; owner_is = least.owner_is; least = low }
        where
          low : (other : Lock) → IsIn other (l ∷ locks) → test other ≡ true → owner_before other.owner owner ≡ false
          low other (zero, at) h = ap (λ (lock : Lock). owner_before lock.owner owner) (sym (here other at)) ∙ above (ap test (here other at) ∙ h)
          low other (suc i, at) h = least.least other (i, at) h

      either : test l ≡ true → (owner : Owner) → IsLeast locks owner → (b : Bool) → owner_before l.owner owner ≡ b → (o : Owner) × IsLeast (l ∷ locks) o
      either e owner least true before = (l.owner, lower e owner least before)
      either e owner least false before = (owner, same owner least (λ _. before))

      by : (b : Bool) → test l ≡ b → ((lock : Lock) → IsIn lock locks → test lock ≡ false) ⊎ ((owner : Owner) × IsLeast locks owner) → ((lock : Lock) → IsIn lock (l ∷ locks) → test lock ≡ false) ⊎ ((owner : Owner) × IsLeast (l ∷ locks) owner)
      by true e (inl none) = inr (l.owner, alone e none)
      by true e (inr (owner, least)) = inr (either e owner least (owner_before l.owner owner) refl)
      by false e (inl none) = inl still
        where
          still : (lock : Lock) → IsIn lock (l ∷ locks) → test lock ≡ false
          still lock (zero, at) = ap test (sym (here lock at)) ∙ e
          still lock (suc i, at) = none lock (i, at)
      by false e (inr (owner, least)) = inr (owner, same owner least (λ h. absurd (true≢false (sym h ∙ e))))

  -- two lists with the same locks that pass the test
  pub same_least : (ls ms : List Lock) → ((lock : Lock) → IsIn lock ls → test lock ≡ true → IsIn lock ms) → ((lock : Lock) → IsIn lock ms → test lock ≡ true → IsIn lock ls)
      → least_owner (filter test ls) ≡ least_owner (filter test ms)
  same_least ls ms to back = by (find_least ms)
    where
      by : ((lock : Lock) → IsIn lock ms → test lock ≡ false) ⊎ ((owner : Owner) × IsLeast ms owner) → least_owner (filter test ls) ≡ least_owner (filter test ms)
      by (inl none) = least_none ls (λ lock is. not_one lock is (test lock) refl) ∙ sym (least_none ms none)
        where
          not_one : (lock : Lock) → IsIn lock ls → (b : Bool) → test lock ≡ b → test lock ≡ false
          not_one lock is true e = none lock (to lock is e)
          not_one lock is false e = e
      by (inr (owner, least)) =
          least_is ls owner (record { lock = least.lock; is = back least.lock least.is least.passes; passes = least.passes; owner_is = least.owner_is; least = λ other is h. least.least other (to other is h) h })
          ∙ sym (least_is ms owner least)
