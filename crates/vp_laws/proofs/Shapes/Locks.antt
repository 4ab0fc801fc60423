-- The locks of transactions in doubt that write different records are the same, whether they are listed or taken one by one.
use Rattle.std.proofs.Common.{◌≡◌, ◌<◌, ◌∙◌, sym, ap, ℕ, suc, Bool, true, false, List, [], ◌∷◌, ◌++◌, map, flat_map, refl, arith, append-nil}
use Rattle.std.specs.Prelude.{◌==◌, ◌&&◌, ◌||◌}
use Rattle.std.specs.List.{AllByRecursion}
use Rattle.std.proofs.lemmas.Bool.Decides.{nat_tests}
use Rattle.std.proofs.lemmas.List.{append_assoc}
use Rattle.vp_model.specs.Types.{Change, TxnId, Lock, Doubt}
use Rattle.vp_model.specs.Types.owner
use Rattle.vp_model.specs.Words.{keys, same_owner, same_txn, txn_before}
use Rattle.vp_model.specs.Locks.{holds, with_lock}
use Rattle.vp_model.specs.Step.{locks_in_doubt}
use Rattle.vp_laws.specs.Shapes.{IsDoubt, AreDoubts, doubt_before, Above, Ascends}
use Rattle.vp_laws.specs.ShapeLaws.{take_all, take_doubts}
use Rattle.vp_laws.proofs.Lists.Items.{all_append, all_and_one}
use Rattle.vp_laws.proofs.Shapes.Numbers.{IsRising}
use Rattle.vp_text.proofs.Items.{all_each}

abbrev lock_of : TxnId → ℕ × Change → Lock
lock_of txn w = record { rec = w.0; exclusive = true; owner = owner.Txn txn }

-- a lock of the transaction is on a record below
abbrev Below : TxnId → ℕ → Lock → Type 0
Below txn least lock = same_owner lock.owner (owner.Txn txn) ≡ true → lock.rec < least

none_held : (txn : TxnId) (rec : ℕ) (locks : List Lock) → AllByRecursion (Below txn rec) locks → holds rec false (owner.Txn txn) locks ≡ false
none_held txn rec [] h = refl
none_held txn rec (lock ∷ locks) h = go (lock.rec == rec) refl (same_owner lock.owner (owner.Txn txn)) refl h.0 (none_held txn rec locks h.1)
  where
    go : (a : Bool) → (lock.rec == rec) ≡ a → (b : Bool) → same_owner lock.owner (owner.Txn txn) ≡ b → Below txn rec lock → holds rec false (owner.Txn txn) locks ≡ false → ((a && true && b) || holds rec false (owner.Txn txn) locks) ≡ false
    go true e true f below rest = let less = below f in absurd (grind (arith, nat_tests, e, less))
    go true e false f below rest = rest
    go false e b f below rest = rest

takes_one : (txn : TxnId) (rec : ℕ) (locks : List Lock) → AllByRecursion (Below txn rec) locks → with_lock rec true (owner.Txn txn) locks ≡ locks ++ (record { rec = rec; exclusive = true; owner = owner.Txn txn }) ∷ []
takes_one txn rec locks h = rw (none_held txn rec locks h) refl

takes_all : (txn : TxnId) (least : ℕ) (writes : List (ℕ × Change)) (locks : List Lock) → IsRising least writes → AllByRecursion (Below txn least) locks → take_all txn (keys writes) locks ≡ locks ++ map (lock_of txn) writes
takes_all txn least [] locks a h = sym (append-nil locks)
takes_all txn least (w ∷ writes) locks a h =
    let low = a.0 in
    let here = all_each (Below txn least) (Below txn w.0) (λ lock b e. let less = b e in omega (arith, less, low)) locks h in
    let more = all_each (Below txn w.0) (Below txn (suc w.0)) (λ lock b e. let less = b e in omega (arith, less)) locks here in
    let new : List Lock = locks ++ lock_of txn w ∷ [] in
    ap (take_all txn (keys writes)) (takes_one txn w.0 locks here) ∙ takes_all txn (suc w.0) writes new a.3 (all_and_one (Below txn (suc w.0)) locks (lock_of txn w) more (λ e. omega arith)) ∙ append_assoc locks (lock_of txn w ∷ []) (map (lock_of txn) writes)

-- no lock is the transaction's
abbrev Free : List Lock → Doubt → Type 0
Free locks d = AllByRecursion (λ (lock : Lock). same_owner lock.owner (owner.Txn d.txn) ≡ false) locks

apart : (a b : TxnId) → txn_before a b ≡ true → same_txn a b ≡ false
apart a b e = grind (arith, nat_tests, e)

others_free : (d e : Doubt) (writes : List (ℕ × Change)) → same_txn d.txn e.txn ≡ false → Free (map (lock_of d.txn) writes) e
others_free d e [] n = tt
others_free d e (w ∷ writes) n = (n, others_free d e writes n)

free_below : (d : Doubt) (lock : Lock) → same_owner lock.owner (owner.Txn d.txn) ≡ false → Below d.txn 0 lock
free_below d lock n e = absurd (let z : true ≡ false = sym e ∙ n in cc)

rest_free : (d : Doubt) (locks : List Lock) (doubts : List Doubt) → Above doubt_before d doubts → AllByRecursion (Free locks) doubts → AllByRecursion (Free (locks ++ locks_in_doubt d)) doubts
rest_free d locks [] a h = tt
rest_free d locks (e ∷ doubts) a h = (all_append (λ (lock : Lock). same_owner lock.owner (owner.Txn e.txn) ≡ false) locks (locks_in_doubt d) h.0 (others_free d e d.writes (apart d.txn e.txn a.0)), rest_free d locks doubts a.1 h.1)

takes_doubts : (doubts : List Doubt) (locks : List Lock) → AllByRecursion IsDoubt doubts → Ascends doubt_before doubts → AllByRecursion (Free locks) doubts → take_doubts doubts locks ≡ locks ++ flat_map locks_in_doubt doubts
takes_doubts [] locks i a h = sym (append-nil locks)
takes_doubts (d ∷ doubts) locks i a h =
    let below = all_each (λ (lock : Lock). same_owner lock.owner (owner.Txn d.txn) ≡ false) (Below d.txn 0) (free_below d) locks h.0 in
    ap (take_doubts doubts) (takes_all d.txn 0 d.writes locks i.0.2.1 below) ∙ takes_doubts doubts (locks ++ locks_in_doubt d) i.1 a.1 (rest_free d locks doubts a.0 h.1) ∙ append_assoc locks (locks_in_doubt d) (flat_map locks_in_doubt doubts)

all_free : (doubts : List Doubt) → AllByRecursion (Free []) doubts
all_free [] = tt
all_free (d ∷ doubts) = (tt, all_free doubts)

pub doubts_take_their_locks : (doubts : List Doubt) → AreDoubts doubts → take_doubts doubts [] ≡ flat_map locks_in_doubt doubts
doubts_take_their_locks doubts a = takes_doubts doubts [] a.each a.ascend (all_free doubts)
