-- Lock tables in which no two owners conflict.
use Rattle.std.proofs.Common.{◌≡◌, ℕ, Bool, true, false, cond, refl, inl, inr, ◌⊎◌, List, [], ◌∷◌, ◌++◌, ⊎_elim, map, sym, ap, ◌∙◌}
use Rattle.std.specs.Prelude.{◌==◌, ◌&&◌, ◌||◌, not, Some, None, fold, filter}
use Rattle.std.specs.List.{list_any}
use Rattle.std.proofs.lemmas.Bool.{eqb-true, eq-eqb, and_parts, or_left, or_right}
use Rattle.vp_model.specs.Types.{TxnId, Owner, Lock}
use Rattle.vp_model.specs.Types.owner
use Rattle.vp_model.specs.Words.{same_owner, owner_before}
use Rattle.vp_model.specs.Locks.{conflicting, lesser, least_owner, conflict, holds, raised, with_lock, without_owner}
use Rattle.vp_laws.proofs.Lists.Members.{Has, has_none, has_left, has_right, has_cases, has_one, has_one_is, filter_has, filter_keeps, map_has, any_true}
use Rattle.vp_laws.proofs.Lists.Changes.{mapped_has}
use Rattle.vp_model.proofs.SameTxn.{same_txn-is, same_txn-self}
use Rattle.vp_laws.proofs.Lists.Keeps.{by_test}

filter_none : {X : Type 0} (test : X → Bool) (xs : List X) (x : X) → filter test xs ≡ [] → Has xs x → test x ≡ false
filter_none test xs x e h = go (test x) refl
  where
    go : (b : Bool) → test x ≡ b → b ≡ false
    go false q = refl
    go true q = absurd (has_none x (rw e at (filter_keeps test xs x h q)))

pub same_owner_is : (a b : Owner) → same_owner a b ≡ true → a ≡ b
same_owner_is (owner.Txn t) (owner.Txn u) e = ap owner.Txn (same_txn-is t u e)
same_owner_is (owner.Txn t) owner.Refresh e = cc
same_owner_is owner.Refresh (owner.Txn u) e = cc
same_owner_is owner.Refresh owner.Refresh e = refl

pub same_owner-self : (a : Owner) → same_owner a a ≡ true
same_owner-self (owner.Txn t) = same_txn-self t
same_owner-self owner.Refresh = refl

-- two locks of transactions on one record, of which one is exclusive, have one owner
abbrev pub NoConflict : List Lock → Type 0
NoConflict locks = (a b : Lock) (t u : TxnId) → Has locks a → Has locks b → a.rec ≡ b.rec → a.exclusive ≡ true → a.owner ≡ owner.Txn t → b.owner ≡ owner.Txn u → a.owner ≡ b.owner

-- no other owner's lock forbids this one
abbrev pub IsFree : ℕ → Bool → Owner → List Lock → Type 0
IsFree rec exclusive o locks = (a : Lock) → Has locks a → a.rec ≡ rec → (exclusive || a.exclusive) ≡ true → a.owner ≡ o

-- the owner has a lock on the record, an exclusive one where that is asked
pub record HasLock (rec : ℕ) (exclusive : Bool) (o : Owner) (locks : List Lock) : Type 0 where
  -- the lock
  pub lock : Lock
  -- it is in the table
  pub has : Has locks lock
  -- its record
  pub on : lock.rec ≡ rec
  -- its owner
  pub by : lock.owner ≡ o
  -- it is exclusive where that is asked
  pub strong : exclusive ≡ true → lock.exclusive ≡ true

-- who conflicts
some_best : (b : Owner) (locks : List Lock) → fold (λ best lock. Some (lesser best lock.owner)) (Some b) locks ≡ None → ⊥
some_best b [] e = cc
some_best b (l ∷ ls) e = some_best (lesser (Some b) l.owner) ls e

none_least : (locks : List Lock) → least_owner locks ≡ None → locks ≡ []
none_least [] e = refl
none_least (l ∷ ls) e = absurd (some_best l.owner ls e)

pub free_from_none : (rec : ℕ) (exclusive : Bool) (txn : TxnId) (locks : List Lock) → conflict rec exclusive txn locks ≡ None → IsFree rec exclusive (owner.Txn txn) locks
free_from_none rec exclusive txn locks e a h r x =
    let none = none_least (conflicting rec exclusive (owner.Txn txn) locks) e in
    let f = filter_none (λ (lock : Lock). (lock.rec == rec) && (exclusive || lock.exclusive) && not (same_owner lock.owner (owner.Txn txn))) locks a none h in
    same_owner_is a.owner (owner.Txn txn) (go (a.rec == rec) (exclusive || a.exclusive) (same_owner a.owner (owner.Txn txn)) (eq-eqb a.rec rec r) x f)
  where
    go : (p q s : Bool) → p ≡ true → q ≡ true → (p && q && not s) ≡ false → s ≡ true
    go true true true y z w = refl
    go true true false y z w = cc
    go true false s y z w = cc
    go false q s y z w = cc

-- taking a lock
data Source (rec : ℕ) (exclusive : Bool) (o : Owner) (locks : List Lock) (a : Lock) : Type 0 where
  old : Has locks a → Source rec exclusive o locks a
  mine : a.rec ≡ rec → a.owner ≡ o → (a.exclusive ≡ true → (exclusive ≡ true) ⊎ HasLock rec true o locks) → Source rec exclusive o locks a

raised_source : (rec : ℕ) (exclusive : Bool) (o : Owner) (locks : List Lock) (l : Lock) → Has locks l → Source rec exclusive o locks (raised rec exclusive o l)
raised_source rec exclusive o locks l h = by_test (Source rec exclusive o locks) ((l.rec == rec) && same_owner l.owner o) (record l { exclusive = l.exclusive || exclusive }) l
    (λ e. let p = and_parts (l.rec == rec) (same_owner l.owner o) e in
    let at : l.rec ≡ rec = eqb-true l.rec rec p.0 in
    let by : l.owner ≡ o = same_owner_is l.owner o p.1 in
    Source.mine at by (λ q. which l.exclusive refl q at by))
    (λ e. Source.old h)
  where
    which : (x : Bool) → l.exclusive ≡ x → (x || exclusive) ≡ true → l.rec ≡ rec → l.owner ≡ o → (exclusive ≡ true) ⊎ HasLock rec true o locks
    which true e q at by = inr (record { lock = l; has = h; on = at; by = by; strong = λ z. e })
    which false e q at by = inl q

source : (rec : ℕ) (exclusive : Bool) (o : Owner) (locks : List Lock) (a : Lock) → Has (with_lock rec exclusive o locks) a → Source rec exclusive o locks a
source rec exclusive o locks a h = by_test (λ (ls : List Lock). Has ls a → Source rec exclusive o locks a) (holds rec false o locks) (map (raised rec exclusive o) locks) (locks ++ (record { rec = rec; exclusive = exclusive; owner = o }) ∷ [])
    (λ e q. let r = map_has (raised rec exclusive o) locks a q in rw (← r.2) (raised_source rec exclusive o locks r.0 r.1))
    (λ e q. ⊎_elim (λ was. Source.old was) (λ new. rw (← has_one_is (record { rec = rec; exclusive = exclusive; owner = o }) a new) (Source.mine refl refl (λ z. inl z))) (has_cases locks _ a q)) h

-- a lock that is there now was there, or is the one that was taken
pub lock_origin : (rec : ℕ) (exclusive : Bool) (o : Owner) (locks : List Lock) (a : Lock) → Has (with_lock rec exclusive o locks) a → Has locks a ⊎ ((a.rec ≡ rec) × (a.owner ≡ o))
lock_origin rec exclusive o locks a h = go (source rec exclusive o locks a h)
  where
    go : Source rec exclusive o locks a → Has locks a ⊎ ((a.rec ≡ rec) × (a.owner ≡ o))
    go (Source.old p) = inl p
    go (Source.mine at by strong) = inr (at, by)

pub locked : (rec : ℕ) (exclusive : Bool) (txn : TxnId) (locks : List Lock) → IsFree rec exclusive (owner.Txn txn) locks → NoConflict locks → NoConflict (with_lock rec exclusive (owner.Txn txn) locks)
locked rec exclusive txn locks free n a b t u h k r x f g = go (source rec exclusive (owner.Txn txn) locks a h) (source rec exclusive (owner.Txn txn) locks b k)
  where
    go : Source rec exclusive (owner.Txn txn) locks a → Source rec exclusive (owner.Txn txn) locks b → a.owner ≡ b.owner
    go (Source.old p) (Source.old q) = n a b t u p q r x f g
    go (Source.old p) (Source.mine at by strong) = free a p (r ∙ at) (or_right exclusive a.exclusive x) ∙ sym by
    go (Source.mine at by strong) (Source.old q) =
        ⊎_elim (λ e. by ∙ sym (free b q (sym r ∙ at) (or_left exclusive b.exclusive e)))
        (λ was. by ∙ sym was.by ∙ n was.lock b txn u was.has q (was.on ∙ sym at ∙ r) (was.strong refl) was.by g) (strong x)
    go (Source.mine at by strong) (Source.mine at2 by2 strong2) = by ∙ sym by2

-- the guard of a refresh is of no transaction
pub guarded : (rec : ℕ) (locks : List Lock) → NoConflict locks → NoConflict (with_lock rec true owner.Refresh locks)
guarded rec locks n a b t u h k r x f g = go (lock_origin rec true owner.Refresh locks a h) (lock_origin rec true owner.Refresh locks b k)
  where
    go : Has locks a ⊎ ((a.rec ≡ rec) × (a.owner ≡ owner.Refresh)) → Has locks b ⊎ ((b.rec ≡ rec) × (b.owner ≡ owner.Refresh)) → a.owner ≡ b.owner
    go (inl p) (inl q) = n a b t u p q r x f g
    go (inl p) (inr q) = absurd (let z = sym q.1 ∙ g in cc)
    go (inr p) q = absurd (let z = sym p.1 ∙ f in cc)

raised_keeps : (rec : ℕ) (exclusive : Bool) (o : Owner) (l : Lock) → ((raised rec exclusive o l).rec ≡ l.rec) × ((raised rec exclusive o l).owner ≡ l.owner) × (l.exclusive ≡ true → (raised rec exclusive o l).exclusive ≡ true)
raised_keeps rec exclusive o l = by_test (λ (m : Lock). (m.rec ≡ l.rec) × (m.owner ≡ l.owner) × (l.exclusive ≡ true → m.exclusive ≡ true)) ((l.rec == rec) && same_owner l.owner o) (record l { exclusive = l.exclusive || exclusive }) l
    (λ e. (refl, refl, λ q. rw q refl)) (λ e. (refl, refl, λ q. q))

pub lock_kept : (r : ℕ) (x : Bool) (p : Owner) (rec : ℕ) (exclusive : Bool) (o : Owner) (locks : List Lock) → HasLock r x p locks → HasLock r x p (with_lock rec exclusive o locks)
lock_kept r x p rec exclusive o locks h = by_test (HasLock r x p) (holds rec false o locks) (map (raised rec exclusive o) locks) (locks ++ (record { rec = rec; exclusive = exclusive; owner = o }) ∷ [])
    (λ e. let k = raised_keeps rec exclusive o h.lock in record { lock = raised rec exclusive o h.lock; has = mapped_has (raised rec exclusive o) locks h.lock h.has; on = k.0 ∙ h.on; by = k.1 ∙ h.by; strong = λ q. k.2 (h.strong q) })
    (λ e. record { lock = h.lock; has = has_left locks _ h.lock h.has; on = h.on; by = h.by; strong = h.strong })

pub lock_taken : (rec : ℕ) (exclusive : Bool) (o : Owner) (locks : List Lock) → HasLock rec exclusive o (with_lock rec exclusive o locks)
lock_taken rec exclusive o locks = by_test (HasLock rec exclusive o) (holds rec false o locks) (map (raised rec exclusive o) locks) (locks ++ (record { rec = rec; exclusive = exclusive; owner = o }) ∷ [])
    (λ e. let r = any_true (λ (lock : Lock). (lock.rec == rec) && (not false || lock.exclusive) && same_owner lock.owner o) locks e in mine r.0 r.1 (three (r.0.rec == rec) (same_owner r.0.owner o) r.2))
    (λ e. record { lock = record { rec = rec; exclusive = exclusive; owner = o }; has = has_right locks _ _ (has_one _); on = refl; by = refl; strong = λ q. q })
  where
    three : (a b : Bool) → (a && true && b) ≡ true → (a && b) ≡ true
    three true b q = q
    three false b q = q

    mine : (l : Lock) → Has locks l → ((l.rec == rec) && same_owner l.owner o) ≡ true → HasLock rec exclusive o (map (raised rec exclusive o) locks)
    mine l h e =
        let p = and_parts (l.rec == rec) (same_owner l.owner o) e in
        let k = raised_keeps rec exclusive o l in
        record { lock = raised rec exclusive o l; has = mapped_has (raised rec exclusive o) locks l h; on = k.0 ∙ eqb-true l.rec rec p.0; by = k.1 ∙ same_owner_is l.owner o p.1; strong = λ q. rw e (or_right l.exclusive exclusive q) }

-- giving locks back
pub fewer_locks : (test : Lock → Bool) (locks : List Lock) → NoConflict locks → NoConflict (filter test locks)
fewer_locks test locks n a b t u h k r x f g = n a b t u (filter_has test locks a h).0 (filter_has test locks b k).0 r x f g

pub lock_stays : (r : ℕ) (x : Bool) (p o : Owner) (locks : List Lock) → same_owner p o ≡ false → HasLock r x p locks → HasLock r x p (without_owner o locks)
lock_stays r x p o locks n h = record { lock = h.lock; has = filter_keeps (λ (lock : Lock). not (same_owner lock.owner o)) locks h.lock h.has (rw h.by (rw n refl)); on = h.on; by = h.by; strong = h.strong }
